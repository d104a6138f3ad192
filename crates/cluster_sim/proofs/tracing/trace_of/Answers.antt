use Rattle.cluster_sim.proofs.Judgings.{traced_is_run}
use Rattle.cluster_sim.proofs.tracing.trace_of.Goals as goal

pub returns-clause-traced : goal.returns-clause-traced
returns-clause-traced c = c.in_ok-whole.ensures.recorded.run

pub returns-clause-run : goal.returns-clause-run
returns-clause-run c = traced_is_run c.args.schedule.now.size.nodes c.args.schedule.now.size.slots c.args.schedule.now.acts.items
    c.in_ok-whole.whole.trace c.in_ok-whole.ensures.recorded.run
