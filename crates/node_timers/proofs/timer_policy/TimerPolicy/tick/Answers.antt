use Rattle.node_timers.proofs.timer_policy.TimerPolicy.tick.Goals as goal

pub returns-then-has_come-clause-set : goal.returns-then-has_come-clause-set
returns-then-has_come-clause-set c = λ none wait e. absurd
    (none c.in-Some.deadline (record {
      is_set = c.in-Some.ensures.some.0;
      wait = cc (c.in-Some.ensures.some.1, c.in_ok-wait.was);
      group =
          c.in-Some.ensures.some.2;
    }))

pub returns-clause-set : goal.returns-clause-set
returns-clause-set c = λ none wait e. absurd (none c.in-Some.deadline (record {
  is_set = c.in-Some.ensures.some.0;
  wait =
      cc (c.in-Some.ensures.some.1, c.in_ok-wait.was);
  group = c.in-Some.ensures.some.2;
}))
