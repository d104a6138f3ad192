use Rattle.std.proofs.Common.{◌≡◌, ◌++◌, ℕ, List, sym, ◌∙◌, subst}
use Rattle.std.specs.Prelude.{OnOk}
use Rattle.trace_console.specs.Reported.{look_text}
use Rattle.trace_console.proofs.Looks.{look_here, look_more, look_none}
use Rattle.trace_console.proofs.reporting.push_look.Goals as goal

pub returns-then-not-waits : goal.returns-then-not-waits
returns-then-not-waits c =
    subst (λ (text : List ℕ). OnOk c.push_first.result (c.push_first.new.text.items ≡ text ++ look_text c.args.left.now))
    c.loop-leftover.invariant.0
    (subst (λ (more : List ℕ). OnOk c.push_first.result (c.push_first.new.text.items ≡ c.loop-leftover.text.items ++ more))
    (sym (look_here c.args.left.now c.loop-leftover.leftover-index c.leftover-item.result c.loop-leftover-test.true c.leftover-item.is
    (sym c.waits.ensures ∙ c.if-not-waits.true) c.loop-leftover.invariant.1)) c.push_first.ensures)

pub loop-leftover-preserved : goal.loop-leftover-preserved
loop-leftover-preserved c = (
  c.loop-leftover.invariant.0,
  look_more c.args.left.now c.loop-leftover.leftover-index c.leftover-item.result c.loop-leftover-test.true c.leftover-item.is
      (sym c.waits.ensures ∙ c.if-not-waits.false) c.loop-leftover.invariant.1,
)

pub returns : goal.returns
returns c =
    subst (λ (text : List ℕ). OnOk c.push_text.result (c.push_text.new.text.items ≡ text ++ look_text c.args.left.now))
    c.loop-leftover.invariant.0
    (subst (λ (more : List ℕ). OnOk c.push_text.result (c.push_text.new.text.items ≡ c.loop-leftover.text.items ++ more))
    (sym (look_none c.args.left.now c.loop-leftover.leftover-index c.loop-leftover-test.false c.loop-leftover.invariant.1))
    c.push_text.ensures)
