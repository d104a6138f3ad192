use Rattle.durable_node.proofs.Crashes.{node_forgot}
use Rattle.durable_node.proofs.Forgets.{forgets}
use Rattle.durable_node.proofs.memory.DurableNode+MemDisk.forget.Goals as goal

pub returns-clause-forgot : goal.returns-clause-forgot
returns-clause-forgot c =
    let was = c.self.inside in rw (← c.self.view_is, c.forget.ensures)
    (node_forgot was.setting.id was.setting.nodes was.core was.disk was.doubt was.mounted)

pub returns-clause-stands : goal.returns-clause-stands
returns-clause-stands c = λ s stands.
    let was = c.self.inside in
    forgets c.args.self.now _ s (rw (← c.self.view_is, c.forget.ensures)
    (node_forgot was.setting.id was.setting.nodes was.core was.disk was.doubt was.mounted)) stands
