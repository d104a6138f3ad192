-- What the images of a disk have in a slot while its body is replaced.
use Rattle.std.specs.Prelude.{◌≡◌, ◌⊎◌, ℕ, List, Bool, Option, Some, None, is_some, IsTrue}
use Rattle.sector_disk.specs.Disk.{Image, DiskState, IsImage, SameBut, sector_at}
use Rattle.sector_disk.specs.Run.{Each}
use Rattle.slot_gate.specs.Slot.{slot_at}

-- in each image that a crash may leave the slot is sealed or not, as is said
abbrev pub Knows : DiskState → ℕ → Bool → Type 0
Knows disk slot sealed = (d : Image) → IsImage disk d → is_some (slot_at d slot) ≡ sealed

-- while the gate over a synced body is written the slot is unsealed, or sealed over that body
abbrev pub TurnsGate : ℕ → DiskState → DiskState → Type 0
TurnsGate slot old new = IsTrue old.honest → old.synced slot
    → Each old new (λ c. (slot_at c slot ≡ None) ⊎ (slot_at c slot ≡ Some (sector_at old.contents slot)))

-- while its gate is opened the slot is as it was or unsealed
abbrev pub IsCleared : Option (List ℕ) → Option (List ℕ) → Type 0
IsCleared was now = (now ≡ was) ⊎ (now ≡ None)

-- while its body is replaced the slot is as it was, unsealed, or sealed over the whole new body
abbrev pub IsStored : List ℕ → Option (List ℕ) → Option (List ℕ) → Type 0
IsStored body was now = (now ≡ was) ⊎ (now ≡ None) ⊎ (now ≡ Some body)

-- An image follows from one of the old disk: it differs from that one in these sectors at most, and this step
-- leads from what that one has in the slot to what it has there itself.
pub record Follows (touched : ℕ → Type 0) (old : DiskState) (slot : ℕ) (Step : Option (List ℕ) → Option (List ℕ) → Type 0) (c : Image) :
    Type 0 where
  pub from : Image
  pub image : IsImage old from
  pub same : SameBut touched from c
  pub step : Step (slot_at from slot) (slot_at c slot)
