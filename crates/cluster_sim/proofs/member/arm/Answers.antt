use Rattle.std.proofs.Common.{◌≡◌, length, sym, ◌∙◌}
use Rattle.durable_node.specs.Arming.{armed_disk}
use Rattle.cluster_sim.proofs.Answering.{area_stays, armed_within}
use Rattle.cluster_sim.proofs.Arming.{arm_counted}
use Rattle.cluster_sim.proofs.member.arm.Goals as goal

pub returns-clause-counted : goal.returns-clause-counted
returns-clause-counted c =
    let disk : c.arm.new.self.disk ≡ armed_disk c.args.calls c.args.node.now.disk = λ i. (c.arm.ensures.armed i).disk in
    rw (c.nothing_sent.ensures, disk) (arm_counted c.args.calls (length c.args.net.now.network.sent) c.args.node.now.disk)

pub returns-clause-areas : goal.returns-clause-areas
returns-clause-areas c =
    area_stays c.args.node.now.disk c.arm.new.self.disk c.nothing_sent.result (λ area_exhausted. let bad = sym c.nothing_sent.ensures
    ∙ area_exhausted in cc)
    (armed_within c.args.calls c.args.node.now.disk c.arm.new.self.disk (λ i. (c.arm.ensures.armed i).disk))
