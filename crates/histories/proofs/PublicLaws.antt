-- What proofs of other crates may cite of this one: its other lemmas are its own.

-- Elements of lists.
pub use Rattle.histories.proofs.Among.{among_either, among_left, among_right, each_append, each_at, each_more, each_of, each_split}
pub use Rattle.histories.proofs.Among.{sent_of_one}
-- Claims that hold of anything.
pub use Rattle.histories.proofs.Anything.{AnyGroup, AnyWork, any_pending}
-- Which command was tried is said without the work of a job, and with the event it is the whole command.
pub use Rattle.histories.proofs.Attempts.{tried_none, tried_raise, tried_wanted, wanted_whole}
-- The counts that a node gives rise, since its durable counter never falls.
pub use Rattle.histories.proofs.Counts.{counts_rise, each_bundle_rises, settled_grows, wanted_grows}
-- Nothing happens at a node that is down, until it mounts its disk.
pub use Rattle.histories.proofs.Downs.{StaysDown, at_down}
-- What each entry of a history does.
pub use Rattle.histories.proofs.Entries.{entry_does, held_finish}
-- Histories grow at their end.
pub use Rattle.histories.proofs.Growing.{history_goes_on}
-- Messages are sent to nodes of the cluster alone: a vector names no other node.
pub use Rattle.histories.proofs.Inside.{IsInside, after_inside, alone_inside, sent_inside}
-- What is kept step by step is kept, and so are the commands and mountings of every history.
pub use Rattle.histories.proofs.Kepts.{DoubtIsDown, doubt_after, each_kept}
-- What an event may do to a node: to its place in a group, to its work in hand, and what it may say.
pub use Rattle.histories.proofs.Moves.{GivenHold, GroupMove, Knows, Says, SaysIn, assigns, calls, completes, falls, joins, starts_alone}
pub use Rattle.histories.proofs.Moves.{stays, takes}
-- The tasks that all nodes made are one book, which agrees with all moments.
pub use Rattle.histories.proofs.OneBooks.{one_book, one_coordinator, one_task}
-- Each message that a node sends has the node as its sender.
pub use Rattle.histories.proofs.OwnMessages.{senders}
-- The work in hand is a job of its origin, and that job was put.
pub use Rattle.histories.proofs.Jobs.{work_is_job}
pub use Rattle.histories.proofs.Puts.{pending_was_put}
-- A job whose Done was acknowledged stays done.
pub use Rattle.histories.proofs.Gone.{done_is_gone}
-- Each job that is done was finished by an owner of its queue.
pub use Rattle.histories.specs.Owners.{HasWork}
pub use Rattle.histories.proofs.Owners.{OwnedAt, commands_append, done_said, has_work, one_worker, owned_after, owner_finishes}
-- Tests on numbers, groups and phases, taken apart.
pub use Rattle.histories.proofs.Tests.{eq_nat}
-- An event leaves a node that is up, up.
pub use Rattle.histories.proofs.Ups.{stays_up}
-- One pass over the commands that events want: a job is ended by a Finish of the node's own or by a Done that is delivered, and
-- no job but a pending one.
pub use Rattle.histories.proofs.Wanted.{causes, wanted_pending}
