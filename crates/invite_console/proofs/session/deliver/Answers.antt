use Rattle.invite_console.proofs.Deliveries.{delivers, quiet_after}
use Rattle.invite_console.proofs.session.deliver.Goals as goal

pub returns-clause-sent : goal.returns-clause-sent
returns-clause-sent c =
    delivers c.args.core.now c.plan_delivery.new.self c.commit_step.new.self c.args.table.now.pending c.args.message.now c.in-Ok.plan
    c.commit_step.result.items
    c.requires.empty c.plan_delivery.ensures.kept c.commit_step.ensures.kept c.in-Ok.ensures.plan c.commit_step.ensures.step

pub returns-clause-still_quiet : goal.returns-clause-still_quiet
returns-clause-still_quiet c =
    quiet_after c.args.core.now c.commit_step.new.self c.args.message.now c.commit_step.result.items c.requires.quiet
    (delivers c.args.core.now c.plan_delivery.new.self c.commit_step.new.self c.args.table.now.pending c.args.message.now c.in-Ok.plan
    c.commit_step.result.items
    c.requires.empty c.plan_delivery.ensures.kept c.commit_step.ensures.kept c.in-Ok.ensures.plan c.commit_step.ensures.step)
