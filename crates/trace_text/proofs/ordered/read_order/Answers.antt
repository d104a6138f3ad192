use Rattle.std.proofs.Common.{◌≡◌, Option, option_map, ap, sym, subst, ◌∙◌}
use Rattle.std.specs.Prelude.{IfOk}
use Rattle.json.specs.Lex.{tokens}
use Rattle.trace_text.specs.Ordered.{Ordered, ordered_by, turns_of, words_at, words_in}
use Rattle.trace_text.proofs.Orders.{no_order, some_order}
use Rattle.trace_text.proofs.ordered.read_order.Goals as goal

pub returns-in_default : goal.returns-in_default
returns-in_default c = sym (no_order c.args.text.now c.in_default.ensures)

pub returns-in-Ok-Some : goal.returns-in-Ok-Some
returns-in-Ok-Some c =
    let there = ap words_at (ap tokens (sym c.in-Ok.ensures.0) ∙ sym c.in_ok-reader.ensures.ok) ∙ sym c.in-Ok-Some.ensures.ok
    ∙ ap (option_map (λ s. s.now)) c.in-Ok-Some.field-0-is in
    let same = ap (λ text. turns_of (words_in text)) c.as_bytes.ensures.value
    ∙ sym (some_order c.args.text.now c.in-Ok-Some.words.now c.in-Ok.ensures.1 there) in
    subst (λ (o : Option Ordered). IfOk c.read_turns.result (λ order. option_map ordered_by order ≡ o)) same c.read_turns.ensures
