use Rattle.node_threads.proofs.Facts.{all_fit}
use Rattle.node_threads.proofs.Runs.{whole_run}
use Rattle.node_threads.proofs.run.run_threads.Goals as goal

pub returns : goal.returns
returns g c = record {
  whole = whole_run _ _ _ _ _ c.requires.nodes.0 c.in-Ok.ensures c.in-Ok-gather_links.ensures;
  fits = all_fit _ _ _ _ c.in-Ok.ensures;
  reason = tt;
}

pub returns-in-Err-clause-reason : goal.returns-in-Err-clause-reason
returns-in-Err-clause-reason g c = c.after_run.ensures g.G.Gate.may_shut c.args.plans.now

pub returns-in-Err-gather_links-clause-reason : goal.returns-in-Err-gather_links-clause-reason
returns-in-Err-gather_links-clause-reason g c = c.after_run-in-Err-gather_links.ensures g.G.Gate.may_shut c.args.plans.now
