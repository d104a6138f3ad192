-- What a mounting answers of a file.
use Rattle.std.specs.Prelude.{◌≡◌, ◌⊎◌, ℕ, ◌+◌, None, Some, Result, Ok, Err}
use Rattle.sector_disk.specs.Disk.{Image}
use Rattle.slot_gate.specs.Slot.{slot_at}
use Rattle.safe_cell.specs.Cell.{IsDamaged, cell_at}
use Rattle.lease_file.specs.declared.fault.LeaseFault.{LeaseFault}
use Rattle.lease_file.specs.declared.mounting.MountFault.{MountFault}
use Rattle.lease_file.specs.Kept.{FileState, kept_in}

-- a fault of the device, or of what it reads
abbrev pub IsReadFault : LeaseFault → Type 0
IsReadFault LeaseFault.Device = Unit {0}
IsReadFault LeaseFault.Broken = ⊥
IsReadFault LeaseFault.Exhausted = ⊥
IsReadFault LeaseFault.NotFormatted = Unit {0}
IsReadFault (LeaseFault.Damaged sector) = Unit {0}

-- why the cell at a sector isn't read: neither slot is sealed, or this is the first one of both whose body isn't one of a cell
abbrev pub IsCellFault : Image → ℕ → LeaseFault → Type 0
IsCellFault image at LeaseFault.Device = ⊥
IsCellFault image at LeaseFault.Broken = ⊥
IsCellFault image at LeaseFault.Exhausted = ⊥
IsCellFault image at LeaseFault.NotFormatted = (slot_at image at ≡ None) × (slot_at image (at + 2) ≡ None)
IsCellFault image at (LeaseFault.Damaged sector) = ((sector ≡ at) × IsDamaged (slot_at image at))
    ⊎ ((sector ≡ at + 2) × (IsDamaged (slot_at image at) → ⊥) × IsDamaged (slot_at image (at + 2)))

-- An image that keeps nothing is refused with this fault: for its count, or else for its time.
pub record IsRefusedFor (image : Image) (fault : LeaseFault) : Type 0 where
  pub nothing : kept_in image ≡ None
  pub first : IsCellFault image 0 fault ⊎ ((count : ℕ) × (cell_at image 0 ≡ Some count) × IsCellFault image 4 fault)

-- a mounting is refused with this fault
abbrev pub IsRefusedWith : {Disk : Type 0} → LeaseFault → Result (FileState Disk) (MountFault Disk) → Type 0
IsRefusedWith fault (Ok file) = ⊥
IsRefusedWith fault (Err refused) = refused.fault ≡ fault

-- the disk that was mounted, or is handed back
abbrev pub disk_of : {Disk : Type 0} → Result (FileState Disk) (MountFault Disk) → Disk
disk_of (Ok file) = file.disk
disk_of (Err refused) = refused.disk
