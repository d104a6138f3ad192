use Rattle.std.proofs.Common.{◌≡◌, replicate}
use Rattle.threads_console.specs.Planning.{no_plans}
use Rattle.threads_console.proofs.planning.no_plans.Given as goal

abbrev pub invariant-loop-node : goal.invariant-loop-node
invariant-loop-node l = l.plans.items ≡ replicate l._node no_plans
