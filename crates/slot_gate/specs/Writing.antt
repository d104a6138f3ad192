-- What a call that writes does to a disk, whatever it answers.
use Rattle.std.specs.Prelude.{◌⊎◌, ℕ, Result, IsTrue, IsOk, IsErrOf}
use Rattle.sector_disk.specs.Disk.{DiskState, Counts}
use Rattle.sector_disk.specs.Run.{Run}

-- It is done, or the device failed in it, which is counted; and on an honest disk it wrote to these sectors alone, in any image.
pub record WritesOnly (touched : ℕ → Type 0) (old new : DiskState) (failed done : Type 0) : Type 0 where
  pub answers : done ⊎ failed
  pub counts : Counts old new failed done
  pub run : IsTrue old.honest → Run touched old new

-- the same by what the call answers
abbrev pub CallWrites : {Disk A F : Type 0} → (ℕ → Type 0) → (Disk → DiskState) → Disk → Disk → F → Result A F → Type 0
CallWrites touched disks old new device result = WritesOnly touched (disks old) (disks new) (IsErrOf result device) (IsOk result)
