-- What a disk with a counter and a journal stands for, and what a mounted store knows of it.
use Rattle.std.specs.Prelude.{◌≡◌, ◌⊎◌, ◌<◌, ◌≤◌, ℕ, ◌-◌, ◌/◌, ◌^◌, ◌==◌, min, Bool, List, IsTrue, IsFalse, Option, Some, None}
use Rattle.std.specs.Prelude.{if◌then◌else◌}
use Rattle.disk_layout.specs.Layout.{sectors_for}
use Rattle.disk_layout.specs.declared.layout.TheConstants.{MOST_SLOTS}
use Rattle.sector_disk.specs.Disk.{Image, DiskState, IsImage, AllSynced, sector_at}
use Rattle.safe_cell.specs.Cell.{cell_at}
use Rattle.safe_cell.specs.Mounted.{CellState, IsCellAt, AllStand}
use Rattle.job_model.specs.Answer.{answer_of}
use Rattle.job_model.specs.declared.node_command.NodeCommand.{NodeCommand as Command}
use Rattle.job_model.specs.Durable.{Durable}
use Rattle.job_model.specs.Fold.{after_command}
use Rattle.job_model.specs.declared.command.Command.{Command as Change}
use Rattle.job_model.specs.declared.record.Record.{Record}
use Rattle.job_journal.specs.declared.fault.JournalFault.{JournalFault}
use Rattle.job_journal.specs.declared.fault.JournalFault.TheVariants.{Broken, Exhausted}
use Rattle.job_journal.specs.Areas.{EndsIn}
use Rattle.job_journal.specs.Jobs.{Jobs, jobs_of, kept}
use Rattle.job_journal.specs.Journal.{jobs_in, IsFormatted, IsSound, RisesByOne}
use Rattle.job_journal.specs.Mounted.{JournalState, AllHold}
use Rattle.job_journal.specs.Appending.{refusal}
use Rattle.job_journal.specs.Compacting as Journal

-- how many slots an area of a disk has
abbrev pub slots_for : ℕ → ℕ
slots_for sectors = min MOST_SLOTS ((sectors - 8) / 4)

abbrev pub durable_by : Option ℕ → Option Jobs → Option Durable
durable_by None jobs = None
durable_by (Some counter) None = None
durable_by (Some counter) (Some jobs) = Some (kept counter jobs)

-- the counter and the jobs that an image stands for
abbrev pub stands_for : ℕ → Image → Option Durable
stands_for slots image = durable_by (cell_at image 0) (jobs_in slots image)

-- each image that a crash now may leave stands for this state
abbrev pub AllStandFor : ℕ → Durable → DiskState → Type 0
AllStandFor slots state disk = (image : Image) → IsImage disk image → stands_for slots image ≡ Some state

-- What a disk has after Ok: nothing is unsynced, and each image stands for this state.
pub record Lasts (slots : ℕ) (state : Durable) (disk : DiskState) : Type 0 where
  pub synced : AllSynced disk
  pub stands : AllStandFor slots state disk

-- What it has after a change of the journal: the journal also ends in the records that were written, each in today's spelling.
pub record Leaves (records : List Record) (journal : JournalState) (state : Durable) (disk : DiskState) : Type 0 where
  pub lasts : Lasts journal.slots state disk
  pub spelled : (image : Image) → IsImage disk image → EndsIn journal.slots journal.area.value journal.used records image

-- What a program that has mounted a store knows of it.
pub record StoreState (Disk : Type 0) : Type 0 where
  pub disk : Disk
  pub counter : CellState
  pub journal : JournalState
  pub broken : Bool

-- the state that a mounted store has
abbrev pub durable_of : {Disk : Type 0} → StoreState Disk → Durable
durable_of store = kept store.counter.value (jobs_of store.journal.table)

-- what is true of every mounted store
pub record IsStore (disk : DiskState) (counter : CellState) (journal : JournalState) (broken : Bool) : Type 0 where
  pub cell : IsCellAt 0 counter
  pub on_disk : sectors_for journal.slots ≤ disk.sectors
  pub slots : journal.slots ≡ slots_for disk.sectors
  -- until the device fails
  pub whole : IsFalse broken → (IsFalse counter.broken) × (IsFalse journal.broken)
  pub counters : IsTrue disk.honest → IsFalse broken → AllStand counter disk
  pub journals : IsTrue disk.honest → IsFalse broken → AllHold journal disk

-- an image stands for the state from before a command, or for the one after it
abbrev pub BeforeOrAfter : {Disk : Type 0} → StoreState Disk → Command → Image → Type 0
BeforeOrAfter store command image =
    (stands_for store.journal.slots image ≡ Some (durable_of store))
    ⊎ (stands_for store.journal.slots image ≡ Some (after_command (durable_of store) command))

-- an image stands for the state of before
abbrev pub StaysAs : {Disk : Type 0} → StoreState Disk → Image → Type 0
StaysAs store image = stands_for store.journal.slots image ≡ Some (durable_of store)

-- why a change of the jobs is refused before the device is called
abbrev pub append_refusal : {Disk : Type 0} → StoreState Disk → Change → Option JournalFault
append_refusal store command = refusal (record store.journal { broken = store.broken }) command

-- why a compaction is
abbrev pub compaction_refusal : {Disk : Type 0} → StoreState Disk → Option JournalFault
compaction_refusal store = Journal.compaction_refusal (record store.journal { broken = store.broken })

-- why a raise is
abbrev pub raise_refusal : {Disk : Type 0} → StoreState Disk → Option JournalFault
raise_refusal store = if store.broken then Some Broken else (if store.counter.value == 2 ^ 64 - 1 then Some Exhausted else None)

-- what a change has done once it answers
abbrev pub Changed : {Disk : Type 0} → StoreState Disk → StoreState Disk → Command → ℕ → Type 0
Changed old new command answer =
    (answer ≡ answer_of (durable_of old) command) × (durable_of new ≡ after_command (durable_of old) command) × IsFalse new.broken

-- After `Device` the store is broken, and has the state of before.
pub record HasFailed {Disk : Type 0} (old new : StoreState Disk) : Type 0 where
  pub broken : IsTrue new.broken
  pub kept : durable_of new ≡ durable_of old

-- The areas of a store stay, whatever a call answers: they have as many slots, a sound disk is still sound, and the number of the
-- present one rises by one at most.
pub record KeepsAreas {Disk : Type 0} (state : Disk → DiskState) (old new : StoreState Disk) : Type 0 where
  pub slots : new.journal.slots ≡ old.journal.slots
  pub sound : IsSound old.journal.slots (state old.disk) → IsSound new.journal.slots (state new.disk)
  pub rises : IsFalse old.broken → RisesByOne (state old.disk) (state new.disk)

-- the sectors of a store
abbrev pub InStore : ℕ → ℕ → Type 0
InStore slots at = at < sectors_for slots

-- While a disk is formatted an image has the counter that an image of before had, or a journal that is formatted already: so a
-- format that was cut off leaves no new counter over an old journal.
abbrev pub IsPartlyFormatted : ℕ → DiskState → Image → Type 0
IsPartlyFormatted slots old image =
    ((before : Image) × IsImage old before × ((at : ℕ) → at < 4 → sector_at image at ≡ sector_at before at)) ⊎ IsFormatted slots image
