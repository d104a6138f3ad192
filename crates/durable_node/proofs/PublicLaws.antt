-- What proofs of other crates may cite of this one: its other lemmas are its own.

-- A node over a disk in memory that has forgotten its earlier moments.
pub use Rattle.durable_node.proofs.Forgets.{counts_and_forgets, steps_and_forgets}
-- A hand that stays moves as is foreseen of any event.
pub use Rattle.durable_node.proofs.Moves.{at_rest}
-- What is true of every node stays true.
pub use Rattle.durable_node.proofs.Nodes.{is_some}
-- What a node that is up does with an event.
pub use Rattle.durable_node.proofs.Serves.{is_device}
-- Whether the command in doubt is in what was mounted.
pub use Rattle.durable_node.proofs.Settling.{settled_so}
