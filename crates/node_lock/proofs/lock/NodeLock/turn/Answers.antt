use Rattle.node_lock.proofs.lock.NodeLock.turn.Goals as goal

pub returns-clause-turned : goal.returns-clause-turned
returns-clause-turned g c = record {
  old = c.deref_mut.result.now;
  new = c.turn_kept.new.held;
  was = c.turn_kept.ensures.was;
  is = c.turn_kept.ensures.is;
  asked = c.turn_kept.ensures.asked;
  turned = c.turn_kept.ensures.turned;
}
