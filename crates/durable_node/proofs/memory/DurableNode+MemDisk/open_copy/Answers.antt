use Rattle.durable_node.proofs.Opens.{copy_fresh}
use Rattle.durable_node.proofs.memory.DurableNode+MemDisk.open_copy.Goals as goal

pub open_on-requires-clause-fresh : goal.open_on-requires-clause-fresh
open_on-requires-clause-fresh c = rw c.in_ok-copy.ensures (copy_fresh c.args.disk.now c.requires.fresh)
