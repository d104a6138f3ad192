use Rattle.std.proofs.Common.{rules}
use Rattle.group_task.proofs.Words.{pop_word}
use Rattle.group_task.proofs.members.Members.pop_first.Goals as goal

pub overflow_sub-self : goal.overflow_sub-self
overflow_sub-self c = (pop_word c.self.inside.word c.in_ok-first.first c.args.self.now c.self.invariant c.self.view_is (search rules)).0
