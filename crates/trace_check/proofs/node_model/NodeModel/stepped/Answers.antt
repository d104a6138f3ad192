use Rattle.std.proofs.Common.{rules}
use Rattle.node_core.specs.Planned.{lent_by, wanted_by}
use Rattle.trace_check.proofs.Twins.{handled}
use Rattle.trace_check.proofs.node_model.NodeModel.stepped.Goals as goal

pub invariant_of-self-2 : goal.invariant_of-self-2
invariant_of-self-2 c =
    let step =
    handled c.args.self.now c.args.event.now c.plan_in.new.self c.commit_step.new.self c.table.result.now.pending c.in-Ok.plan
    (lent_by c.wanted-wants.result) (wanted_by c.self.inside.doubt) c.in_ok-answer.answer c.take.new.self c.commit_step.result.items
    (search rules) (search rules) (search rules) (search rules) c.in-Ok.ensures.plan c.wanted-wants.ensures (search rules)
    c.commit_step.ensures.step (search rules) (search rules) (search rules) (search rules) (search rules) (search rules) in
    (record { twin = step.twin; size = search rules; within = search rules; most = search rules }, search rules, search rules)

pub returns-clause-made : goal.returns-clause-made
returns-clause-made c =
    let step =
    handled c.args.self.now c.args.event.now c.plan_in.new.self c.commit_step.new.self c.table.result.now.pending c.in-Ok.plan
    (lent_by c.wanted-wants.result) (wanted_by c.self.inside.doubt) c.in_ok-answer.answer c.take.new.self c.commit_step.result.items
    (search rules) (search rules) (search rules) (search rules) c.in-Ok.ensures.plan c.wanted-wants.ensures (search rules)
    c.commit_step.ensures.step (search rules) (search rules) (search rules) (search rules) (search rules) (search rules) in
    step.judged
