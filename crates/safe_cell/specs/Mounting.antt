-- What a mounting answers of a cell.
use Rattle.std.specs.Prelude.{◌≡◌, ◌⊎◌, ◌↔◌, ℕ, ◌+◌, Some, None, Result, IsOkAnd, IfOk, IsErrOf}
use Rattle.sector_disk.specs.Disk.{Image}
use Rattle.slot_gate.specs.Slot.{slot_at}
use Rattle.safe_cell.specs.declared.fault.CellFault.{CellFault}
use Rattle.safe_cell.specs.declared.fault.CellFault.TheVariants.{Device, Broken, Exhausted, NotFormatted, Damaged}
use Rattle.safe_cell.specs.Cell.{cell_at, IsDamaged}
use Rattle.safe_cell.specs.Mounted.{CellState, PrefersFirst}

-- the faults that a mounting answers: of the device, or of the slots that it reads
abbrev pub IsMountFault : ℕ → CellFault → Type 0
IsMountFault at Device = Unit {0}
IsMountFault at Broken = ⊥
IsMountFault at Exhausted = ⊥
IsMountFault at NotFormatted = Unit {0}
IsMountFault at (Damaged k) = (k ≡ at) ⊎ (k ≡ at + 2)

-- The answer is exactly what an image stands for: the value where it has one, else why it has none.
pub record AnswersFor (at : ℕ) (image : Image) (answer : Result CellState CellFault) : Type 0 where
  pub value : (v : ℕ) → (IsOkAnd answer (λ cell. cell.value ≡ v) ↔ (cell_at image at ≡ Some v))
  pub not_formatted : IsErrOf answer NotFormatted ↔ ((slot_at image at ≡ None) × (slot_at image (at + 2) ≡ None))
  pub damaged_first : IsErrOf answer (Damaged at) ↔ IsDamaged (slot_at image at)
  -- the first slot is read first
  pub damaged_second : IsErrOf answer (Damaged (at + 2)) ↔ ((IsDamaged (slot_at image at) → ⊥) × IsDamaged (slot_at image (at + 2)))
  pub present : IfOk answer (λ cell. PrefersFirst at image cell)
