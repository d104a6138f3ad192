use Rattle.std.proofs.Common.{sym, ap, ◌∙◌, false}
use Rattle.invite_console.proofs.Answering.{goes_on, ends_refused, ends_malformed, ends_well}
use Rattle.invite_console.proofs.answers.answers_to.Goals as goal

pub returns-then-not-branch : goal.returns-then-not-branch
returns-then-not-branch c =
    c.ended.ensures ∙ (sym (ends_refused c.loop-after.session c.take_next.new.self c.loop-after.left.now c.in-Ok-Some.after.now
    c.decode_front.new.message
    c.in_ok-take_next-in-Ok-Some.field-0 (rw c.in-Ok-Some.field-0-is at c.in-Ok-Some.ensures.front) c.in_ok-take_next-in-Ok-Some.ensures
    c.if-not-branch.true) ∙ c.loop-after.invariant)

pub loop-after-preserved : goal.loop-after-preserved
loop-after-preserved c =
    sym (goes_on c.loop-after.session c.take_next.new.self c.loop-after.left.now c.in-Ok-Some.after.now c.decode_front.new.message
    c.in_ok-take_next-in-Ok-Some.field-0 (rw c.in-Ok-Some.field-0-is at c.in-Ok-Some.ensures.front) c.in_ok-take_next-in-Ok-Some.ensures
    c.if-not-branch.false) ∙ c.loop-after.invariant

pub returns-in-Ok-None : goal.returns-in-Ok-None
returns-in-Ok-None c = c.ended-in-Ok-None.ensures ∙ (sym
    (ends_well c.loop-after.session c.loop-after.left.now (rw c.in-Ok-None.field-0-is at c.in-Ok-None.ensures.front).0)
    ∙ c.loop-after.invariant)

pub returns-in-Err : goal.returns-in-Err
returns-in-Err c =
    c.ended-in-Err.ensures ∙ (ap (λ p. record { text = p.text; good = false }) c.in_ok-print-in-Err.ensures
    ∙ (sym (ends_malformed c.loop-after.session c.loop-after.left.now c.in-Err.ensures.fault.1) ∙ c.loop-after.invariant))
