use Rattle.std.proofs.Common.{◌≡◌, ◌++◌}
use Rattle.node_words.specs.Words.{ids_text, more_ids_text}
use Rattle.node_words.proofs.words.push_ids.Given as goal

abbrev pub invariant-loop-id : goal.invariant-loop-id
invariant-loop-id l = l.text.items ++ more_ids_text l.id-iterator ≡ l.fn.text.items ++ ids_text l.fn.ids
