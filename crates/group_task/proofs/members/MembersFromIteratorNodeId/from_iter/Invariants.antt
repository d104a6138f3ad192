-- The set has the nodes that came so far.
use Rattle.std.proofs.Common.{◌≡◌, []}
use Rattle.group_task.specs.Ids.{with_all}
use Rattle.group_task.proofs.members.MembersFromIteratorNodeId.from_iter.Given as goal

abbrev pub invariant-loop-id : goal.invariant-loop-id
invariant-loop-id g l = l.made ≡ with_all [] l.yielded
