-- What a program that has mounted a cell knows of it, and when an image has just that.
use Rattle.std.specs.Prelude.{◌≡◌, ◌⊎◌, ℕ, ◌+◌, ◌≤◌, List, Bool, true, false, Option, Some, None}
use Rattle.sector_disk.specs.Disk.{Image, DiskState, IsImage}
use Rattle.slot_gate.specs.Slot.{slot_at}
use Rattle.safe_cell.specs.Body.{body_value}

pub record CellState : Type 0 where
  -- the slot that counts, by its body sector
  pub present : ℕ
  -- the other slot, in which the next raise works
  pub spare : ℕ
  pub spare_sealed : Bool
  pub value : ℕ
  -- the device failed in a raise
  pub broken : Bool

-- the cell at a sector, either way round
abbrev pub IsCellAt : ℕ → CellState → Type 0
IsCellAt at cell = ((cell.present ≡ at) × (cell.spare ≡ at + 2)) ⊎ ((cell.present ≡ at + 2) × (cell.spare ≡ at))

-- the spare slot is sealed or not, as is said, and has no greater value
abbrev pub IsSpare : Bool → ℕ → Option (List ℕ) → Type 0
IsSpare false v slot = slot ≡ None
IsSpare true v slot = (body : List ℕ) × (w : ℕ) × (slot ≡ Some body) × (body_value body ≡ Some w) × (w ≤ v)

-- an image has the value and the gates that the cell knows
pub record Stands (cell : CellState) (image : Image) : Type 0 where
  pub body : List ℕ
  pub present : slot_at image cell.present ≡ Some body
  pub value : body_value body ≡ Some cell.value
  pub spare : IsSpare cell.spare_sealed cell.value (slot_at image cell.spare)

-- each image that a crash now may leave has what the cell knows
abbrev pub AllStand : CellState → DiskState → Type 0
AllStand cell disk = (d : Image) → IsImage disk d → Stands cell d

-- where slot A has the value, it is the one that counts, also where B has the same
abbrev pub PrefersFirst : ℕ → Image → CellState → Type 0
PrefersFirst at image cell = (body : List ℕ) → slot_at image at ≡ Some body → body_value body ≡ Some cell.value → cell.present ≡ at

-- the value that was read from a slot: none where it is unsealed
abbrev pub IsRead : Option (List ℕ) → Option ℕ → Type 0
IsRead slot None = slot ≡ None
IsRead slot (Some v) = (body : List ℕ) × (slot ≡ Some body) × (body_value body ≡ Some v)

-- the cell after the spare slot was sealed over a greater value
abbrev pub raised_to : ℕ → CellState → CellState
raised_to value cell = record { present = cell.spare; spare = cell.present; spare_sealed = true; value = value; broken = false }

-- the cell after the spare slot was sealed over the next value
abbrev pub raised : CellState → CellState
raised cell = raised_to (cell.value + 1) cell
