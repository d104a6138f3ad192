use Rattle.node_lock.proofs.held.Held.is_kept.Goals as goal

pub returns : goal.returns
returns c = rw (← c.self.view_is) c.self.invariant
