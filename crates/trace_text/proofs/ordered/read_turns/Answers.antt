use Rattle.std.proofs.Common.{◌≡◌, ap, ap₂, sym, ◌∙◌, rules, List, ℕ, Option, ◌++◌, ◌∷◌, []}
use Rattle.trace_text.specs.Ordered.{Ordered, turns_of, words_behind}
use Rattle.trace_text.proofs.Orders.{joined, turn_joined}
use Rattle.trace_text.proofs.ordered.read_turns.Goals as goal

pub turns-preserved : goal.turns-preserved
turns-preserved c =
    let l = c.turns in
    let turn = c.in-Some-cut_turn.turn in
    let nodes : c.push.new.self.items ≡ l.nodes.items ++ turn.node ∷ [] = search rules in
    let messages : c.push-in-Some.new.self.items ≡ l.messages.items ++ turn.message ∷ [] = search rules in
    let so_far : Ordered = (l.nodes.items, l.messages.items) in
    let rest = turns_of (words_behind turn.behind) in
    ap₂ (λ (ns : List ℕ) (ms : List (Option ℕ)). joined (ns, ms) rest) nodes messages
    ∙ sym (turn_joined l.nodes.items l.messages.items turn.node turn.message rest)
    ∙ ap (λ (o : Option Ordered). joined so_far o) (sym c.in-Some-cut_turn.ensures.turns)
    ∙ ap (λ left. joined so_far (turns_of (words_behind left))) (sym c.in-Some.is) ∙ l.invariant
