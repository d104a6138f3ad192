use Rattle.std.proofs.Common.{rules}
use Rattle.node_core.specs.declared.event.Event.TheVariants.{Deliver}
use Rattle.node_core.specs.Planned.{lent_by, wanted_by}
use Rattle.histories.specs.declared.history_event.HistoryEvent.TheVariants.{Did}
use Rattle.trace_check.specs.Twins.{twin}
use Rattle.trace_check.proofs.Twins.{handled, judged_same}
use Rattle.trace_check.proofs.node_model.NodeModel.deliver.Goals as goal

pub invariant_of-self-2 : goal.invariant_of-self-2
invariant_of-self-2 c =
    let step =
    handled c.args.self.now (Deliver c.args.message.now) c.plan_delivery.new.self c.commit_step-made.new.self c.table.result.now.pending
    c.in-Ok.plan (lent_by c.wanted-wants.result) (wanted_by c.self.inside.doubt) c.in_ok-answer.answer c.take.new.self
    c.commit_step-made.result.items
    (search rules) (search rules) (search rules) (search rules) c.in-Ok.ensures.plan c.wanted-wants.ensures (search rules)
    c.commit_step-made.ensures.step (search rules) (search rules) (search rules) (search rules) (search rules) (search rules) in
    (record { twin = step.twin; size = search rules; within = search rules; most = search rules }, search rules, search rules)

pub returns-clause-judged : goal.returns-clause-judged
returns-clause-judged c =
    let step =
    handled c.args.self.now (Deliver c.args.message.now) c.plan_delivery.new.self c.commit_step-made.new.self c.table.result.now.pending
    c.in-Ok.plan (lent_by c.wanted-wants.result) (wanted_by c.self.inside.doubt) c.in_ok-answer.answer c.take.new.self
    c.commit_step-made.result.items
    (search rules) (search rules) (search rules) (search rules) c.in-Ok.ensures.plan c.wanted-wants.ensures (search rules)
    c.commit_step-made.ensures.step (search rules) (search rules) (search rules) (search rules) (search rules) (search rules) in
    rw c.has_made.ensures.unchanged
    (judged_same c.args.self.now (twin c.commit_step-made.new.self c.take.new.self (wanted_by c.self.inside.doubt))
    (Did (Deliver c.args.message.now)) c.commit_step-made.result.items c.args.sent.now c.has_made.result step.judged (search rules))
