-- The area of the journal that a node writes in, and what calls make of it.
use Rattle.std.specs.Prelude.{ℕ, ◌≡◌, ◌≢◌, ◌+◌, ◌==◌, if◌then◌else◌, List, [], length, Option, Some, None, Result, Ok, Err}
use Rattle.sector_disk.specs.Disk.{Image, DiskState, IsImage}
use Rattle.job_model.specs.declared.command.Command.TheVariants as change
use Rattle.job_model.specs.declared.record.Record.{Record}
use Rattle.job_model.specs.declared.node_command.NodeCommand.{NodeCommand as Command}
use Rattle.job_model.specs.declared.node_command.NodeCommand.TheVariants.{Raise, Put, Done}
use Rattle.job_model.specs.Durable.{Durable}
use Rattle.job_journal.specs.Areas.{EndsIn}
use Rattle.job_journal.specs.Compacting.{records_written}
use Rattle.job_journal.specs.Jobs.{Jobs}
use Rattle.node_store.specs.Store.{StoreState}
use Rattle.durable_node.specs.declared.fault.NodeFault.{NodeFault}
use Rattle.durable_node.specs.declared.fault.NodeFault.TheVariants as node

-- the number of its cell, how many slots it has, and how many of them hold a record
pub record Area : Type 0 where
  pub number : ℕ
  pub slots : ℕ
  pub used : ℕ

abbrev pub area_of : {Disk : Type 0} → StoreState Disk → Area
area_of store = record { number = store.journal.area.value; slots = store.journal.slots; used = store.journal.used }

-- the other area, which holds a Base and the pending jobs alone
abbrev pub moved : Durable → Area → Area
moved d area = record { number = area.number + 1; slots = area.slots; used = length d.pending + 1 }

-- the area with a free slot: moved where there was none
abbrev pub with_slot : Durable → Area → Area
with_slot d area = if area.used == area.slots then moved d area else area

-- a record more in it
abbrev pub with_record : Area → Area
with_record area = record area { used = area.used + 1 }

-- the area after a wanted command: a job that is put or done is one record, and a raise none
abbrev pub area_after : Durable → Area → Option Command → Area
area_after d area None = area
area_after d area (Some Raise) = area
area_after d area (Some (Put work)) = with_record (with_slot d area)
area_after d area (Some (Done id)) = with_record (with_slot d area)

-- what a call leaves of it: what its command makes of it, or the area as it was. Of a device that failed nothing is said
abbrev pub LeavesArea : {A : Type 0} → Durable → Area → Option Command → Result A NodeFault → Option Area → Type 0
LeavesArea d area wants (Ok a) left = left ≡ Some (area_after d area wants)
LeavesArea d area wants (Err fault) left = fault ≢ node.Device → left ≡ Some area

-- the jobs that are kept
abbrev pub jobs_in : Durable → Jobs
jobs_in d = record { next = d.next; pending = d.pending }

-- the records that a wanted command writes: its own, behind those of all jobs where no slot was free
abbrev pub records_at : Durable → Area → Option Command → List Record
records_at d area None = []
records_at d area (Some Raise) = []
records_at d area (Some (Put work)) = records_written area.slots area.used (jobs_in d) (change.Put work)
records_at d area (Some (Done id)) = records_written area.slots area.used (jobs_in d) (change.Done id)

-- in each image that a crash now may leave the area ends in these records, each in the spelling of today
abbrev pub AllEndIn : Area → List Record → DiskState → Type 0
AllEndIn area records disk = (image : Image) → IsImage disk image → EndsIn area.slots area.number area.used records image
