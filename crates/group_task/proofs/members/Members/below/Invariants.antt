use Rattle.std.proofs.Common.{◌≡◌}
use Rattle.group_task.specs.Ids.{ids_below}
use Rattle.group_task.proofs.members.Members.below.Given as goal

abbrev pub invariant-loop-number : goal.invariant-loop-number
invariant-loop-number l = l.all ≡ ids_below l.number
