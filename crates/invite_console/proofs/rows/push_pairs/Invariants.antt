use Rattle.std.proofs.Common.{◌≡◌, ◌++◌, drop}
use Rattle.invite_console.specs.Rows.{pairs_text, more_pairs_text}
use Rattle.invite_console.proofs.rows.push_pairs.Given as goal

abbrev pub invariant-loop-pair : goal.invariant-loop-pair
invariant-loop-pair l = l.text.items ++ more_pairs_text (drop l.pair-index l.rest) ≡ l.fn.text.items ++ pairs_text l.fn.pairs
