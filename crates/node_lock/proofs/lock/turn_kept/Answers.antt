use Rattle.node_lock.proofs.lock.turn_kept.Goals as goal

pub returns-clause-turned : goal.returns-clause-turned
returns-clause-turned g c = record {
  used_up = c.turn_held-answer.ensures.used_up;
  unchanged = c.turn_held-answer.ensures.unchanged;
  taken = c.turn_held-answer.ensures.taken;
  shut = λ is. (c.turn_held-answer.ensures.shut is).0;
  full = c.turn_held-answer.ensures.full;
  memory = c.turn_held-answer.ensures.memory;
}
