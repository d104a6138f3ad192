-- What proofs of other crates may cite of this one: its other lemmas are its own.

-- Runs of calls of a device that may be honest.
pub use Rattle.slot_gate.proofs.Calls.{run_on, writes_on}
-- Unsealing slots one behind another.
pub use Rattle.slot_gate.proofs.Rows.{Erased, erased_more, erased_run, erased_start}
-- What is seen of a slot, from its gate and its body.
pub use Rattle.slot_gate.proofs.Slots.{slot_either, slot_kept, slot_same, slot_synced}
