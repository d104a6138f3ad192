use Rattle.std.proofs.Common.{Some}
use Rattle.durable_node.proofs.Crashes.{arms, node_is_armed}
use Rattle.durable_node.proofs.memory.DurableNode+MemDisk.arm.Goals as goal

pub returns-clause-stands : goal.returns-clause-stands
returns-clause-stands c = λ s stands.
    let was = c.self.inside in
    arms (Some c.args.calls) c.args.self.now _ s (rw (
      ← c.self.view_is,
      c.arm.ensures,
    ) (node_is_armed was.setting.id was.setting.nodes (Some c.args.calls) was.core was.disk was.doubt was.mounted)) stands
