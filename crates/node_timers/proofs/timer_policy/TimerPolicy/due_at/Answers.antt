use Rattle.std.proofs.Common.{◌∙◌, ◌-◌, ap}
use Rattle.node_timers.specs.Policy.{Policy}
use Rattle.node_timers.specs.Timers.{lasts}
use Rattle.node_timers.proofs.Due.{some_more, timer_fires, work_fires}
use Rattle.node_timers.proofs.timer_policy.TimerPolicy.due_at.Goals.{in-Normal, in_default-phase}
use Rattle.node_timers.proofs.timer_policy.TimerPolicy.due_at.Goals as goal

pub returns-clause-fires : goal.returns-clause-fires
returns-clause-fires c =
    let p = c.args.self.now in
    let s = c.args.snapshot.now in
    let long = c.left-timer.ensures ∙ ap (λ (q : Policy). lasts q.setting q.raise s.merge_wait c.in-Some.deadline -
    c.in-Some.deadline.waited) c.self.view_is in
    some_more c.time_in.result _ _
    (λ next come d runs told. elim c.match-snapshot.branch [
      | in-Normal w ↦ work_fires p s c.in-Some.deadline d next c.left-timer.result w.work_left.result c.match-snapshot.left
          w.work_left.ensures.fits w.in-Normal.is c.in-Some.ensures.some.0
          long w.work_left.ensures.value (w.left-is ∙ w.min-left.ensures) (come told) runs
      | in_default-phase w ↦ timer_fires p s c.in-Some.deadline d next c.left-timer.result c.match-snapshot.left c.in-Some.ensures.some.0
          long w.left-is (come told) runs
    ])
    c.time_in.ensures.come
