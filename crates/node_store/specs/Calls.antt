-- What the calls of a store do, whatever each of them changes.
use Rattle.std.specs.Prelude.{◌≡◌, ◌⊎◌, ◌↔◌, ◌<◌, ℕ, Option, Result, IsTrue, IsFalse, IsOk, IfOk, IsErrOf, IsSome}
use Rattle.sector_disk.specs.Disk.{DiskState, Counts}
use Rattle.sector_disk.specs.Run.{Run}
use Rattle.job_model.specs.declared.command.Command.{Command as Change}
use Rattle.job_model.specs.Table.{command_of}
use Rattle.job_journal.specs.Appending.{Answers, appended}
use Rattle.job_journal.specs.Compacting.{records_written, with_slot}
use Rattle.job_journal.specs.Jobs.{jobs_of}
use Rattle.job_journal.specs.Journal.{ImagesSince}
use Rattle.node_store.specs.Store.{StoreState, BeforeOrAfter, Changed, HasFailed, InStore, KeepsAreas, Leaves, durable_of}
use Rattle.node_store.specs.Store.{slots_for}
use Rattle.job_journal.specs.declared.fault.JournalFault.{JournalFault}
use Rattle.job_journal.specs.declared.fault.JournalFault.TheVariants.{Device}
use Rattle.node_store.specs.declared.fault.StoreFault.{StoreFault}
use Rattle.node_store.specs.declared.fault.StoreFault.TheVariants as store

-- A change is refused for this reason, and then nothing is done; else it is done, or the device failed in it, which is counted and breaks
-- the store. The areas stay, and on an honest disk no sector outside the store changes, in any image.
pub record Tries {Disk A : Type 0} (disks : Disk → DiskState) (refusal : Option JournalFault) (old new : StoreState Disk)
    (result : Result A JournalFault) : Type 0 where
  pub counts : Counts (disks old.disk) (disks new.disk) (IsErrOf result Device) (IsErrOf result Device → ⊥)
  pub answers : Answers refusal result
  pub refused : IsSome refusal → new ≡ old
  pub device : IsErrOf result Device → HasFailed old new
  pub areas : KeepsAreas disks old new
  pub run : IsTrue (disks old.disk).honest → Run (InStore old.journal.slots) (disks old.disk) (disks new.disk)

-- A command of the jobs is one step of the fold and one record more in the journal, behind a compaction where no slot was free: each image
-- of an honest disk stands for the state from before it or after it, and once it is done for the one after it alone, in today's spelling.
pub record Appends {Disk : Type 0} (disks : Disk → DiskState) (command : Change) (old new : StoreState Disk)
    (result : Result ℕ JournalFault) : Type 0 where
  pub ok : IfOk result (Changed old new (command_of command))
  pub journal : IsOk result → new.journal ≡ appended (with_slot old.journal) command
  pub images : IsTrue (disks old.disk).honest → IsFalse old.broken
      → ImagesSince old.journal.slots (disks old.disk) (disks new.disk) (BeforeOrAfter old (command_of command))
  pub after : IsTrue (disks old.disk).honest → IsOk result
      → Leaves (records_written old.journal.slots old.journal.used (jobs_of old.journal.table) command) new.journal (durable_of new)
      (disks new.disk)

-- A store is made on a disk unless this has fewer than 24 sectors, and then nothing is done, or the device fails, which is counted. On an
-- honest disk no sector outside the store changes, in any image.
pub record Makes {Disk A : Type 0} (disks : Disk → DiskState) (old new : Disk) (result : Result A StoreFault) : Type 0 where
  pub too_small : IsErrOf result store.TooSmall ↔ ((disks old).sectors < 24)
  pub untouched : IsErrOf result store.TooSmall → new ≡ old
  pub no_other : IsOk result ⊎ IsErrOf result store.TooSmall ⊎ IsErrOf result store.Device
  pub counts : Counts (disks old) (disks new) (IsErrOf result store.Device) (IsErrOf result store.Device → ⊥)
  pub run : IsTrue (disks old).honest → Run (InStore (slots_for (disks old).sectors)) (disks old) (disks new)
