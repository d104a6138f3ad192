use Rattle.std.proofs.Common.{◌≡◌, ◌-◌, ◌^◌, ℕ, Bool, Option, Some, None, is_some, true, inl, inr, ⊎_elim, ap, ◌∙◌, arith}
use Rattle.std.specs.Prelude.{if◌then◌else◌}
use Rattle.std.specs.Option.{unwrap_or}
use Rattle.node_core.specs.declared.event.Event.{Event}
use Rattle.node_timers.specs.declared.deadline.Deadline.{Deadline}
use Rattle.node_timers.specs.Policy.{passed, IsDue, MayFire, Runs}
use Rattle.node_timers.specs.Retransmission.{has_come}
use Rattle.node_session.proofs.Next.{at_first, before}
use Rattle.node_session.proofs.due.next_due.Goals as goal

pub returns-clause-quiet : goal.returns-clause-quiet
returns-clause-quiet c = λ later less.
    before c.due_at.result (λ now. (event : Event) → MayFire (passed now c.args.pace.now) c.args.snapshot.now event
    → ⊥) later c.unwrap_or-timer.result c.unwrap_or-timer.ensures
    c.due_at.ensures.quiet c.due_at.ensures.never (let least = c.min.ensures in omega (arith, least, less))

pub returns-clause-fires : goal.returns-clause-fires
returns-clause-fires c = λ d runs told less.
    ⊎_elim (λ due. inl (due d runs told)) (λ come. inr come)
    (at_first c.due_at.result c.due_at-2.result (λ next. (d : Deadline) → Runs c.args.pace.now c.args.snapshot.now d
    → is_some c.args.pace.now.told ≡ true → IsDue (passed next c.args.pace.now) c.args.snapshot.now)
    (λ next. has_come next c.args.waiting.now ≡ true) c.unwrap_or-timer.result c.unwrap_or-again.result c.min.result
    c.unwrap_or-timer.ensures c.unwrap_or-again.ensures c.min.ensures less
    c.due_at.ensures.fires c.due_at-2.ensures.comes)

pub returns-clause-at_once : goal.returns-clause-at_once
returns-clause-at_once c = λ none up.
    let at : c.due_at.result ≡ Some 0 = c.due_at.ensures.at_once none ∙ ap (λ (b : Bool). if b then Some 0 else None) up in
    let now : c.unwrap_or-timer.result ≡ 0 = c.unwrap_or-timer.ensures ∙ ap (λ (o : Option ℕ). unwrap_or o (2 ^ 64 - 1)) at in
    omega (arith, c.min.ensures, now)
