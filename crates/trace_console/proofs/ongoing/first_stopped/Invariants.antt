use Rattle.std.proofs.Common.{◌≡◌, drop}
use Rattle.trace_console.specs.Ongoing.{first_stopped}
use Rattle.trace_console.proofs.ongoing.first_stopped.Given as goal

abbrev pub invariant-loop-leftover : goal.invariant-loop-leftover
invariant-loop-leftover l = first_stopped l.left ≡ first_stopped (drop l.leftover-index l.left)
