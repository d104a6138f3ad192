use Rattle.node_core.proofs.Priorities.{each_is_pending, each_is_among, length-by_priority}
use Rattle.node_core.proofs.Precedence.{by_priority_in_order}
use Rattle.node_core.proofs.laws.dispatch_order.Goals as goal

pub returns-clause-pending : goal.returns-clause-pending
returns-clause-pending c = each_is_pending

pub returns-clause-all : goal.returns-clause-all
returns-clause-all c = each_is_among

pub returns-clause-as_many : goal.returns-clause-as_many
returns-clause-as_many c = length-by_priority

pub returns-clause-order : goal.returns-clause-order
returns-clause-order c = by_priority_in_order
