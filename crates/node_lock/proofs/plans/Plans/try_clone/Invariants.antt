use Rattle.std.proofs.Common.{◌≡◌, take}
use Rattle.node_lock.proofs.plans.Plans.try_clone.Given as goal

abbrev pub invariant-loop-order : goal.invariant-loop-order
invariant-loop-order l = l.operator.items ≡ take l.order-index l.order-items
