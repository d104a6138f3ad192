use Rattle.std.proofs.Common.{◌≡◌, ◌<◌, ℕ, length, slice_get, Some}
use Rattle.node_lock.specs.Planned.{Planned}
use Rattle.node_threads.specs.Nodes.{ArePolled}
use Rattle.node_threads.proofs.plans.poll_others.Given as goal

abbrev pub invariant-loop-node : goal.invariant-loop-node
invariant-loop-node l = (n : ℕ) (p : Planned) → n < l.node → slice_get l.plans n ≡ Some p → ArePolled n (length l.plans) p.intake
