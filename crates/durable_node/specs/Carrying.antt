-- What the store makes of the command that an event wants, and what a call leaves of it.
use Rattle.std.specs.Prelude.{ℕ, ◌≡◌, ◌⊎◌, Option, Some, IsSome, IsTrue, IsFalse, option_map}
use Rattle.sector_disk.specs.Disk.{DiskState, Image, Counts}
use Rattle.sector_disk.specs.Run.{Run, Each}
use Rattle.job_model.specs.Answer.{answer_of}
use Rattle.job_model.specs.declared.node_command.NodeCommand.{NodeCommand as Command}
use Rattle.job_model.specs.Durable.{Durable}
use Rattle.job_model.specs.Fold.{after_wanted}
use Rattle.job_journal.specs.Journal.{IsSound, RisesByOne}
use Rattle.node_core.specs.NodeStep.{CantTake, IsSpent, IsFull}
use Rattle.node_store.specs.Store.{StoreState, durable_of, stands_for, AllStandFor, InStore}
use Rattle.histories.specs.Possible.{FitsSlots}
use Rattle.histories.specs.declared.event_outcome.EventOutcome.{EventOutcome}
use Rattle.histories.specs.declared.event_outcome.EventOutcome.TheVariants.{Refused}
use Rattle.durable_node.specs.Area.{AllEndIn, area_of, area_after, records_at}

-- A store that a call may be made of: no device failed under it, and its disk is sound.
pub record IsReady {Disk : Type 0} (disks : Disk → DiskState) (store : StoreState Disk) : Type 0 where
  pub whole : IsFalse store.broken
  pub sound : IsSound store.journal.slots (disks store.disk)

-- What any call leaves of a store and its disk: as many slots, and a disk that is sound and was written in the store's sectors alone.
-- A device that failed is counted, and the number of the area rises by one at most.
pub record KeepsSound {Disk : Type 0} (disks : Disk → DiskState) (old new : StoreState Disk) (failed : Type 0) : Type 0 where
  pub counts : Counts (disks old.disk) (disks new.disk) failed (failed → ⊥)
  pub slots : new.journal.slots ≡ old.journal.slots
  pub sound : IsSound old.journal.slots (disks new.disk)
  pub run : IsTrue (disks old.disk).honest → Run (InStore old.journal.slots) (disks old.disk) (disks new.disk)
  pub rises : IsFalse old.broken → RisesByOne (disks old.disk) (disks new.disk)

-- an image stands for what was kept before the wanted command, or for what is kept after it
abbrev pub BeforeOrAfter : ℕ → Durable → Option Command → Image → Type 0
BeforeOrAfter slots d wants image = (stands_for slots image ≡ Some d) ⊎ (stands_for slots image ≡ Some (after_wanted d wants))

-- What a wanted command leaves on an honest disk that stood for what was kept: each image since the call began is from before the
-- command or after it, and once that is done the disk stands for what is kept now. On any honest disk the area then ends in the
-- command's records.
pub record Writes {Disk : Type 0} (disks : Disk → DiskState) (old new : StoreState Disk) (wants : Option Command) (done : Type 0) :
    Type 0 where
  pub images : IsTrue (disks old.disk).honest → AllStandFor old.journal.slots (durable_of old) (disks old.disk)
      → Each (disks old.disk) (disks new.disk) (BeforeOrAfter old.journal.slots (durable_of old) wants)
  pub after : IsTrue (disks old.disk).honest → AllStandFor old.journal.slots (durable_of old) (disks old.disk)
      → done → AllStandFor old.journal.slots (durable_of new) (disks new.disk)
  pub spelled : IsTrue (disks old.disk).honest → done → AllEndIn (area_of new) (records_at (durable_of old) (area_of old) wants)
      (disks new.disk)

-- the store may take the command
pub record MayTake (slots : ℕ) (d : Durable) (wants : Option Command) : Type 0 where
  pub not_spent : IsSpent d wants → ⊥
  pub fits : IsFull slots d wants → ⊥

-- the store took the command, keeps what it makes, and answers it
pub record Carried {Disk : Type 0} (old new : StoreState Disk) (wants : Option Command) (given : Option ℕ) : Type 0 where
  pub may : MayTake old.journal.slots (durable_of old) wants
  pub answer : given ≡ option_map (answer_of (durable_of old)) wants
  pub kept : durable_of new ≡ after_wanted (durable_of old) wants
  pub area : area_of new ≡ area_after (durable_of old) (area_of old) wants
  pub whole : IsFalse new.broken

-- the device failed in a command that the store took, and what the store shows is from before it
pub record IsCut {Disk : Type 0} (old new : StoreState Disk) (wants : Option Command) : Type 0 where
  pub may : MayTake old.journal.slots (durable_of old) wants
  pub wanted : IsSome wants
  pub kept : durable_of new ≡ durable_of old

-- the store can't take the command, and this came of the event
abbrev pub CantCarry : ℕ → Durable → Option Command → EventOutcome → Type 0
CantCarry slots d wants (Refused why) = CantTake d wants why × FitsSlots slots d wants why
CantCarry slots d wants came = ⊥
