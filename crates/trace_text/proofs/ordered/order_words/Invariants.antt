use Rattle.std.proofs.Common.{◌≡◌, ◌++◌, drop}
use Rattle.std.specs.Prelude.{nat_lt, string_bytes}
use Rattle.trace_text.specs.Ordered.{TurnsFit, order_text, ordered_by, turns_text}
use Rattle.trace_text.proofs.ordered.order_words.Given as goal

abbrev pub invariant-loop-place : goal.invariant-loop-place
invariant-loop-place l =
    (string_bytes l.text ++ turns_text (nat_lt 0 l.place) (drop l.place l.order.nodes.items) (drop l.place l.order.messages.items)
    ≡ order_text (ordered_by l.order))
    × (TurnsFit (drop l.place l.order.nodes.items) (drop l.place l.order.messages.items)
    → TurnsFit l.order.nodes.items l.order.messages.items)
