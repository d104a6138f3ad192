use Rattle.std.proofs.Common.{◌≡◌, length}
use Rattle.trace_text.specs.Ordered.{turns_of, words_behind, words_in}
use Rattle.trace_text.proofs.Orders.{joined}
use Rattle.trace_text.proofs.ordered.read_turns.Given as goal

abbrev pub invariant-turns : goal.invariant-turns
invariant-turns l = joined (l.nodes.items, l.messages.items) (turns_of (words_behind l.left)) ≡ turns_of (words_in l.text)

abbrev pub decreases-turns : goal.decreases-turns
decreases-turns l = length (words_behind l.left)
