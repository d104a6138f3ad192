-- What a compaction writes, and what it leaves.
use Rattle.std.specs.Prelude.{◌≡◌, ◌<◌, ◌≤◌, ℕ, ◌+◌, ◌*◌, ◌==◌, true, List, [], ◌∷◌, ◌++◌, length, map, slice_get, Option, Some, None}
use Rattle.std.specs.Prelude.{if◌then◌else◌}
use Rattle.sector_disk.specs.Disk.{Image, sector_at}
use Rattle.slot_gate.specs.Slot.{slot_at}
use Rattle.safe_cell.specs.Mounted.{raised}
use Rattle.job_model.specs.declared.command.Command.{Command}
use Rattle.job_model.specs.declared.record.Record.{Record}
use Rattle.job_model.specs.declared.record.Record.TheVariants.{Base, Keep}
use Rattle.job_model.specs.Records.{record_of, bytes_of}
use Rattle.job_model.specs.Table.{Table}
use Rattle.job_journal.specs.declared.extent.Extent.{Extent}
use Rattle.job_journal.specs.Jobs.{Jobs, jobs_of, with_jobs, jobs_after, id_of}
use Rattle.job_journal.specs.Appending.{is_last, appended, record_for}
use Rattle.job_journal.specs.Areas.{first_of}
use Rattle.job_journal.specs.Mounted.{JournalState}
use Rattle.job_journal.specs.declared.fault.JournalFault.{JournalFault}
use Rattle.job_journal.specs.declared.fault.JournalFault.TheVariants.{Broken, AreaExhausted}

-- the records that stand for these jobs: their next id, and each job in order of id
abbrev pub records_for : Jobs → List Record
records_for jobs = Base jobs.next ∷ map Keep jobs.pending

-- the records that an append writes: the command's, behind those of a compaction where no slot was free
abbrev pub records_written : ℕ → ℕ → Jobs → Command → List Record
records_written slots used jobs command =
    if used == slots then records_for jobs ++ record_for jobs command ∷ [] else record_for jobs command ∷ []

-- why a compaction is refused before the device is called
abbrev pub compaction_refusal : JournalState → Option JournalFault
compaction_refusal journal =
    if journal.broken then Some Broken
    else (if is_last journal.area.value then Some AreaExhausted else None)

-- the journal after a compaction: the same jobs, in the other area
abbrev pub compacted : JournalState → JournalState
compacted journal = record journal { area = raised journal.area; used = length journal.table.pending + 1 }

-- the journal with a free slot: compacted where there was none
abbrev pub with_slot : JournalState → JournalState
with_slot journal = if journal.used == journal.slots then compacted journal else journal

-- the jobs stay, and how many slots an area has
pub record KeepsJobs (old new : JournalState) : Type 0 where
  pub slots : new.slots ≡ old.slots
  pub table : new.table ≡ old.table

-- What an append has done once it gives an id: its record is the last, behind a compaction where no slot was free.
pub record HasAppended (old new : JournalState) (command : Command) (answer : ℕ) : Type 0 where
  pub id : answer ≡ id_of (jobs_of old.table) command
  pub table : new.table ≡ with_jobs (jobs_after (jobs_of old.table) command) old.table
  pub unbroken : new.broken ≡ old.broken
  pub whole : new ≡ appended (with_slot old) command

-- After `Device` the journal is broken. It has the jobs of before, and what else it knows is of no use.
pub record IsGivenUp (old new : JournalState) : Type 0 where
  pub broken : new.broken ≡ true
  pub slots : new.slots ≡ old.slots
  pub table : new.table ≡ old.table

-- An area that is being written from a sector on: the bodies of its first slots are these records, so many of
-- them, the first slots are sealed, and the others aren't.
pub record IsWritten (first slots : ℕ) (records : List Record) (fills seals : ℕ) (image : Image) : Type 0 where
  pub bodies : (k : ℕ) → k < fills → record_of (sector_at image (first + 2 * k)) ≡ slice_get records k
  pub bytes : (k : ℕ) → k < fills → Some (sector_at image (first + 2 * k)) ≡ slice_get (map bytes_of records) k
  pub sealed : (k : ℕ) → k < seals → slot_at image (first + 2 * k) ≡ Some (sector_at image (first + 2 * k))
  pub free : (k : ℕ) → seals ≤ k → k < slots → slot_at image (first + 2 * k) ≡ None

-- an area that is being written with the jobs of a table
abbrev pub IsWrittenFor : Extent → Table → ℕ → ℕ → Image → Type 0
IsWrittenFor area table fills seals image = IsWritten area.first area.slots (records_for (jobs_of table)) fills seals image

-- the other area, in which a compaction writes
abbrev pub other_sector : JournalState → ℕ
other_sector journal = first_of journal.slots (journal.area.value + 1)
