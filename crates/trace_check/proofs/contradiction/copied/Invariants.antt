use Rattle.std.proofs.Common.{◌≡◌}
use Rattle.trace_check.specs.Kept.{part}
use Rattle.trace_check.specs.Orders.{history}
use Rattle.trace_check.proofs.contradiction.copied.Given as goal

abbrev pub invariant-loop-place : goal.invariant-loop-place
invariant-loop-place l = l.history ≡ part l.first l.place (history l.trace l.node)
