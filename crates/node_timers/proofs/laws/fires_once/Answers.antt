use Rattle.std.proofs.Common.{arith, refl}
use Rattle.std.specs.Prelude.{◌==◌, ◌+◌, ◌*◌}
use Rattle.node_timers.specs.Policy.{may_dispatch}
use Rattle.node_timers.specs.Timers.{turns_of, least_of}
use Rattle.node_timers.proofs.Work.{not_over, rests_first, some_at}
use Rattle.node_timers.proofs.laws.fires_once.Goals as goal

pub returns-clause-timer : goal.returns-clause-timer
returns-clause-timer c = λ p s setting soon settled raise slowest jitter wait group d set come. let some =
    some_at soon setting (least_of setting settled wait + jitter) (omega arith) in let least = set.long in
    not_over d.put_off d.length (turns_of d s.merge_wait * (p.setting.turn * p.setting.unit + p.raise)) d.waited (omega (
      arith,
      some,
      least,
    )) set.from_now come.over.come

pub returns-clause-work : goal.returns-clause-work
returns-clause-work c = λ old new s seen after due. let next = after.dispatch refl in
    rests_first (may_dispatch new seen) (old.pause == 0) old.setting s.pending old.pause new.pause new.rested due.1 next.rested next.pause
