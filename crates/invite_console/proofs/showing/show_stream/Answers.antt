use Rattle.std.proofs.Common.{ℕ, List, sym, ap, ◌∙◌, true, false}
use Rattle.invite_console.proofs.Shown.{shown_next, shows_malformed, shows_rest}
use Rattle.invite_console.proofs.showing.show_stream.Goals as goal

pub loop-after-preserved : goal.loop-after-preserved
loop-after-preserved c =
    sym (shown_next c.loop-after.text.items c.push_message.new.text.items c.loop-after.left.now c.in-Ok-Some.after.now
    c.decode_front.new.message
    (rw c.in-Ok-Some.field-0-is at c.in-Ok-Some.ensures.front) c.in_ok-push_message-in-Ok-Some.ensures) ∙ c.loop-after.invariant

pub returns-in-Ok-None : goal.returns-in-Ok-None
returns-in-Ok-None c =
    ap (λ (t : List ℕ). record { text = t; good = true }) c.in_ok-push_rest-in-Ok-None.ensures
    ∙ (sym (shows_rest c.loop-after.text.items c.loop-after.left.now (rw c.in-Ok-None.field-0-is at c.in-Ok-None.ensures.front).0)
    ∙ c.loop-after.invariant)

pub returns-in-Err : goal.returns-in-Err
returns-in-Err c =
    ap (λ (t : List ℕ). record { text = t; good = false }) c.in_ok-push_text-in-Err.ensures
    ∙ (sym (shows_malformed c.loop-after.text.items c.loop-after.left.now c.in-Err.ensures.fault.1) ∙ c.loop-after.invariant)
