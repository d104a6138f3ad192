-- The names that most proofs of this crate cite, passed on from one place. Declares nothing.
pub use Rattle.std.proofs.Common.{◌≡◌, ◌+◌, ◌*◌, ◌<◌, ◌⊎◌, inl, ℕ, zero, suc, List, [], ◌∷◌, ◌++◌, length, get_or, set, Option, Some, None}
pub use Rattle.std.proofs.Common.{sym, ◌∙◌, ap, subst, refl, arith, inr, ⊎_elim}
pub use Rattle.std.proofs.Common.{Bool, true, false, ◌==◌, is_some, subst₂, if◌then◌else◌, IsTrue, Result, Ok, Err, IfOk, ◌-◌, ◌≤◌, map}
pub use Rattle.std.proofs.Common.{slice_get, ◌&&◌, not, nat_lt, IsFalse, ◌↔◌, is_none}
pub use Rattle.std.proofs.Common.{IsErrOf, IsOk}
pub use Rattle.std.proofs.lemmas.Bool.Decides.{nat_tests}
pub use Rattle.std.proofs.lemmas.List.{length-append, append-nil, append_assoc, length-map, ext_get_or}
pub use Rattle.sector_disk.proofs.PublicLaws.{run_widen, each_of_two, run_of_two}
pub use Rattle.sector_disk.specs.Disk.{Image, DiskState, IsImage, AllSynced, SameBut, Laws, Counts, sector_at, nothing}
pub use Rattle.sector_disk.specs.Run.{Run, Each}
pub use Rattle.slot_gate.proofs.PublicLaws.{run_on, writes_on, Erased, erased_start, erased_run, erased_more, slot_same, slot_kept}
pub use Rattle.slot_gate.specs.Slot.{slot_at, InSlot, InSlots}
pub use Rattle.safe_cell.proofs.PublicLaws.{reads_on, value_stands_same as stands_same, value_stands_for as stands_for}
pub use Rattle.safe_cell.specs.Answered.{OnlyReads}
pub use Rattle.safe_cell.specs.Cell.{InCell, cell_at, cell_of, greater}
pub use Rattle.safe_cell.specs.Mounted.{Stands, CellState, IsCellAt, AllStand, raised}
pub use Rattle.job_model.specs.Order.{IsInOrder, IdsRise}
pub use Rattle.job_model.specs.Records.{record_of, bytes_of}
pub use Rattle.job_model.specs.Table.{Table, CanApply, CanKeep, command_of, durable_of}
pub use Rattle.job_model.specs.declared.command.Command.{Command}
pub use Rattle.job_model.specs.declared.job.Job.{Job}
pub use Rattle.job_model.specs.declared.record.Record.{Record}
pub use Rattle.job_journal.specs.Appending.{Admitted, BeforeOrAfter, appended, record_for, is_full}
pub use Rattle.job_journal.specs.Areas.{slots_from, sealed_prefix, AllUnsealed, IsPrefix, first_of, area_of, EndsIn}
pub use Rattle.job_journal.specs.Compacting.{with_slot, KeepsJobs, HasAppended, IsWritten, records_for, records_written, compacted}
pub use Rattle.job_journal.specs.Compacting.{other_sector}
pub use Rattle.job_journal.specs.Jobs.{no_jobs, jobs_of, jobs_after, with_jobs, id_of, Jobs, is_unknown, is_out_of_ids}
pub use Rattle.job_journal.specs.Journal.{jobs_in, IsFormatted, IsSoundImage, InJournal, IsSound, ImagesSince, replay_from, damage_of}
pub use Rattle.job_journal.specs.Journal.{cell_damage, replay_by, replay_in, jobs_by, IsSoundArea, IsNumbered, AllWithin, RisesByOne}
pub use Rattle.job_journal.specs.Mounted.{JournalState, Holds, AllHold, IsJournal, first_sector, next_slot}
pub use Rattle.job_journal.specs.Readings.{Replay, Reads, fresh, then_slot, replayed, taken, replay_at, Reading, is_above, fitting, Damage}
pub use Rattle.job_journal.specs.declared.fault.JournalFault.{JournalFault}
pub use Rattle.job_journal.specs.declared.place.Place.{Place}
