-- A slot is a body sector and the gate sector behind it. The first byte of the gate says whether it is sealed.
use Rattle.std.specs.Prelude.{◌≡◌, ◌⊎◌, ℕ, ◌+◌, ◌*◌, ◌<◌, ◌≤◌, ◌^◌, List, ◌∷◌, get_or, replicate, Bool, ◌==◌, Option, Some, None}
use Rattle.std.specs.Prelude.{if◌then◌else◌}
use Rattle.sector_disk.specs.Disk.{Image, DiskState, sector_at}

-- the gate's first byte is 0xA5; its other bytes aren't looked at
abbrev pub is_gate_sealed : List ℕ → Bool
is_gate_sealed gate = get_or gate 0 0 == 165

-- the body of the slot at a sector, if it is sealed
abbrev pub slot_at : Image → ℕ → Option (List ℕ)
slot_at image slot = if is_gate_sealed (sector_at image (slot + 1)) then Some (sector_at image slot) else None

-- the gate of a sealed slot, as it is written
unfoldable pub sealed_gate : List ℕ
sealed_gate = 165 ∷ replicate 511 0

-- that of an unsealed slot
unfoldable pub unsealed_gate : List ℕ
unsealed_gate = replicate 512 0

-- the two sectors of a slot
abbrev pub InSlot : ℕ → ℕ → Type 0
InSlot slot at = (at ≡ slot) ⊎ (at ≡ slot + 1)

-- the disk has both of them, and their numbers have 64 bits
abbrev pub HasSlot : ℕ → DiskState → Type 0
HasSlot slot disk = (slot + 1 < disk.sectors) × (slot + 1 < 2 ^ 64)

-- the sectors of so many slots from one on
abbrev pub InSlots : ℕ → ℕ → ℕ → Type 0
InSlots first slots at = (first ≤ at) × (at < first + 2 * slots)
