use Rattle.durable_node.proofs.handle.planned.Goals as goal

pub returns-in-Recover : goal.returns-in-Recover
returns-in-Recover c = rw c.in-Recover.is (c.plan_recovery.ensures c.args.table.now.pending)
