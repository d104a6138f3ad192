use Rattle.std.proofs.Common.{◌≡◌, drop}
use Rattle.group_task.proofs.members.Members.get.Given as goal

abbrev pub invariant-loop : goal.invariant-loop
invariant-loop l = l.left ≡ drop l.counter l.self
