use Rattle.group_task.proofs.Words.{first_result}
use Rattle.group_task.proofs.members.Members.first.Goals as goal

pub returns : goal.returns
returns c = first_result c.self.inside.word c.args.self.now c.new.result c.self.invariant c.self.view_is c.new.ensures.value
    c.new.ensures.none
