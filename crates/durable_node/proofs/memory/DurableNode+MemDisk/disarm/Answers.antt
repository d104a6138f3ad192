use Rattle.std.proofs.Common.{None}
use Rattle.durable_node.proofs.Crashes.{arms, node_is_armed}
use Rattle.durable_node.proofs.memory.DurableNode+MemDisk.disarm.Goals as goal

pub returns-clause-stands : goal.returns-clause-stands
returns-clause-stands c = λ s stands.
    let was = c.self.inside in
    arms None c.args.self.now _ s (rw (← c.self.view_is, c.disarm.ensures)
    (node_is_armed was.setting.id was.setting.nodes None was.core was.disk was.doubt was.mounted)) stands
