-- A cell that is formatted, and what its images have until then.
use Rattle.std.specs.Prelude.{◌≡◌, ◌⊎◌, ℕ, ◌+◌, false, Some, None}
use Rattle.sector_disk.specs.Disk.{Image, sector_at}
use Rattle.slot_gate.specs.Slot.{slot_at}
use Rattle.safe_cell.specs.Body.{body_of}
use Rattle.safe_cell.specs.Mounted.{CellState}

-- what a mounting knows of a cell that was formatted with a value
abbrev pub formatted : ℕ → ℕ → CellState
formatted at value = record { present = at; spare = at + 2; spare_sealed = false; value = value; broken = false }

-- a gate of the cell
abbrev pub IsGate : ℕ → ℕ → Type 0
IsGate at k = (k ≡ at + 1) ⊎ (k ≡ at + 2 + 1)

-- no slot of an image is sealed over a torn body, but over the value's or over what was there before
pub record IsNotTorn (at value : ℕ) (before image : Image) : Type 0 where
  pub first : (slot_at image at ≡ None) ⊎ (slot_at image at ≡ Some (sector_at before at)) ⊎ (slot_at image at ≡ Some (body_of value))
  pub second : (slot_at image (at + 2) ≡ None) ⊎ (slot_at image (at + 2) ≡ Some (sector_at before (at + 2)))
