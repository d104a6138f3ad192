-- What proofs of other crates may cite of this one: its other lemmas are its own.

-- The sealed prefix of an area, one slot more, and areas that are unsealed.
pub use Rattle.job_journal.proofs.Areas.{formatted_empty, formatted_same}
-- What an image stands for, and that it is the same where the same sectors are.
pub use Rattle.job_journal.proofs.Frames.{SameFrom, cell_same_from, replay_same_from, holds_same_from, jobs_are, sound_same_from}
pub use Rattle.job_journal.proofs.Frames.{stands_same_from, undamaged, value_is, whole_slots}
-- A mounting: the records of an area read slot by slot, and what is answered of them.
pub use Rattle.job_journal.proofs.Mountings.{quiet_contents}
-- The number of the area.
pub use Rattle.job_journal.proofs.Numbers.{within_more}
