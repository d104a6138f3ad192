use Rattle.std.proofs.Common.{◌≡◌, ◌<◌, ℕ, slice_index_or}
use Rattle.wire_msg.specs.Envelope.{Envelope}
use Rattle.trace_check.proofs.node_model.same.Given as goal

abbrev pub invariant-loop-place : goal.invariant-loop-place
invariant-loop-place l = (k : ℕ) (d : Envelope) → k < l.place → slice_index_or l.made k d ≡ slice_index_or l.sent k d
