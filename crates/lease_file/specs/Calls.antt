-- What the calls of a mounted file are refused with, tell, and leave.
use Rattle.std.specs.Prelude.{◌≡◌, ◌⊎◌, ℕ, ◌+◌, nat_le, max, IsTrue, Option, Some, None, Result, IsErrOf, if◌then◌else◌}
use Rattle.sector_disk.specs.Disk.{DiskState, Counts}
use Rattle.sector_disk.specs.Run.{Run, Each}
use Rattle.lease_file.specs.declared.fault.LeaseFault.{LeaseFault}
use Rattle.lease_file.specs.declared.fault.LeaseFault.TheVariants.{Device, Broken, Exhausted}
use Rattle.lease_file.specs.declared.file.Begun.{Begun}
use Rattle.lease_file.specs.Blocks.{bound_of}
use Rattle.lease_file.specs.Kept.{FileState, InFile, Kept, kept, kept_in}

-- why nothing more is reserved
abbrev pub broken_refusal : {Disk : Type 0} → FileState Disk → Option LeaseFault
broken_refusal file = if file.broken then Some Broken else None

-- why no process begins: of both reasons the first
abbrev pub begin_refusal : {Disk : Type 0} → FileState Disk → Option LeaseFault
begin_refusal file = if file.broken then Some Broken else (if nat_le 4294967295 file.count.value then Some Exhausted else None)

-- what a process is told that begins over these
abbrev pub begun_by : Kept → Begun
begun_by old = record { process = old.count + 1; floor = bound_of old.count; bound = bound_of (old.count + 1); waits = old.keeps }

-- What a call does to the disk, whatever it answers: it counts its failures, a failure leaves the file broken, and nothing else is written.
pub record Writes {Disk A : Type 0} (state : Disk → DiskState) (old new : FileState Disk) (result : Result A LeaseFault) : Type 0 where
  pub counts : Counts (state old.disk) (state new.disk) (IsErrOf result Device) (IsErrOf result Device → ⊥)
  pub run : IsTrue (state old.disk).honest → Run InFile (state old.disk) (state new.disk)
  pub device : IsErrOf result Device → IsTrue new.broken

-- each image since the start keeps the one or the other
abbrev pub IsOneOf : Kept → Kept → DiskState → DiskState → Type 0
IsOneOf before after old new = Each old new (λ c. (kept_in c ≡ Some before) ⊎ (kept_in c ≡ Some after))

-- each image since a process began to begin keeps what was there, the same with its time, or that and one block more
abbrev pub IsOneOfThree : Kept → ℕ → DiskState → DiskState → Type 0
IsOneOfThree before keeps old new = Each old new (λ c. (kept_in c ≡ Some before)
    ⊎ (kept_in c ≡ Some (kept before.count (max before.keeps keeps)))
    ⊎ (kept_in c ≡ Some (kept (before.count + 1) (max before.keeps keeps))))
