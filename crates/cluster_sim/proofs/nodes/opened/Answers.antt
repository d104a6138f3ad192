use Rattle.std.proofs.Common.{◌∙◌}
use Rattle.cluster_sim.proofs.Opening.{nodes_more}
use Rattle.cluster_sim.proofs.nodes.opened.Goals as goal

pub loop-number-preserved : goal.loop-number-preserved
loop-number-preserved c =
    let node = c.in_ok-node.node in
    let e = c.in_ok-node.ensures in
    let number = c.loop-number.number in
    rw c.in_ok-push.ensures.items
    (nodes_more c.args.slots c.args.nodes number c.loop-number.members.items node c.loop-number.invariant (e.id
    ∙ c.numbered-id.ensures) e.nodes (λ held at. e.disk.sectors held at ∙ c.in_ok-disk.ensures.sectors)
    (rw (← c.numbered-id.ensures) e.opens) e.disk.number (λ held at. (e.disk.disarmed held at, e.disk.failures held at)))
