-- What proofs of other crates may cite of this one: its other lemmas are its own.

-- What a delivery is, by what the network answers to it.
pub use Rattle.runs.proofs.Bringing.{Brings}
-- How many commands each node tried.
pub use Rattle.runs.proofs.Counted.{counts_more, counts_opened, own_few}
-- What an act is, is exact: the network and the nodes can't refuse at will.
pub use Rattle.runs.proofs.Exact.{all_acts_run}
-- Only an act `finish` tells a node that a job is finished.
pub use Rattle.runs.proofs.Finishing.{link_none, loses_none, taken_there}
-- A run and its report grow by one act.
pub use Rattle.runs.proofs.Grown.{acts_go_on, left_keeps, runs_grow, runs_open}
-- A step makes a node's hand longer by no more than the pending jobs and one.
pub use Rattle.runs.proofs.Hands.{hands_grow}
-- What each node keeps at its own steps, every node keeps, and there are as many nodes as there were.
pub use Rattle.runs.proofs.Keeping.{step_length}
-- The messages of a moment are those under its numbers, also when more were sent after it.
pub use Rattle.runs.proofs.Numbered.{IsSaid, left_numbered, step_adds, step_numbered, step_said}
-- The nodes that open, and the report of one more.
pub use Rattle.runs.proofs.Opened.{length_openings, opened_more}
-- What the report of a run says, part by part.
pub use Rattle.runs.proofs.Reports.{groups_by, with_node}
-- No more jobs are pending than a disk has slots, with the command in doubt or without it.
pub use Rattle.runs.proofs.Rooms.{mounted_few, left_few}
-- A run of a cluster, seen from each node, is a bundle of histories.
pub use Rattle.runs.proofs.Runs.{all_more, at_place, brought_sent, comes_sent, get_set_other, get_set_same, history_at, how_many}
pub use Rattle.runs.proofs.Runs.{node_there, opened, starts_opened, state_elsewhere, state_here}
-- Messages sent one after another.
pub use Rattle.runs.proofs.Sending.{none_sent}
