use Rattle.std.proofs.Common.{◌≡◌}
use Rattle.trace_check.specs.Contradictions.{IsLastOpening}
use Rattle.trace_check.specs.Searches.{twin_after}
use Rattle.trace_check.proofs.contradiction.start.Given as goal

abbrev pub invariant-loop-place : goal.invariant-loop-place
invariant-loop-place l = (l.node_model ≡ twin_after l.trace l.node l.place) × IsLastOpening l.trace l.node l.place l.opening
