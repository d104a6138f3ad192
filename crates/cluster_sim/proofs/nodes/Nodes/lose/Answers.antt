use Rattle.std.proofs.Common.{◌∙◌}
use Rattle.cluster_sim.proofs.Doings.{lost_by, not_lost_by}
use Rattle.cluster_sim.proofs.nodes.Nodes.lose.Goals.{in-Ok, in-Err}
use Rattle.cluster_sim.proofs.nodes.Nodes.lose.Goals as goal

pub returns-clause-acted : goal.returns-clause-acted
returns-clause-acted c = λ w stands.
    elim c.match-lose.branch [
      | in-Ok b ↦ lost_by w c.args.number _ c.args.self.now c.lose.new.self.network c.match-lose.result c.self.view_is stands
          (λ fault at. cc (b.in-Ok.is, (c.lose.ensures.refused fault).1 at)) (λ i. (b.in-Ok.ensures.lost i).network)
          (b.result-is ∙ b.nothing_sent.ensures)
      | in-Err b ↦ not_lost_by w c.args.number b.in-Err.fault _ c.args.self.now c.lose.new.self.network c.match-lose.result c.self.view_is
          stands
          ((c.lose.ensures.refused b.in-Err.fault).0 b.in-Err.is) (λ i. (b.in-Err.ensures.unchanged i).network) b.result-is
    ]
