use Rattle.std.proofs.Common.{refl}
use Rattle.cluster_sim.specs.Cluster.{cluster_with}
use Rattle.cluster_sim.proofs.Promised.{promised}
use Rattle.cluster_sim.proofs.cluster.Cluster.report.Goals as goal

pub returns-clause-run : goal.returns-clause-run
returns-clause-run c = rw (← c.self.view_is) (record {
  last = c.self.invariant.last;
  reports = c.self.invariant.reports;
  as_many = refl;
  of_acts = refl;
})

pub returns-clause-keeps : goal.returns-clause-keeps
returns-clause-keeps c =
    let inv = c.self.invariant in
    let was = c.self.inside in
    rw (← c.self.view_is) (promised (cluster_with was.world was.report) inv.last inv.reports)
