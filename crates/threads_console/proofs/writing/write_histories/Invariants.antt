use Rattle.std.proofs.Common.{◌≡◌, ◌++◌, false, length}
use Rattle.std.specs.Vec.Iter.{into_iter_items}
use Rattle.threads_console.specs.Texts.{histories_text}
use Rattle.threads_console.proofs.writing.write_histories.Given as goal

abbrev pub invariant-loop-history : goal.invariant-loop-history
invariant-loop-history l = l.text.items ++ histories_text l.later (into_iter_items l.left)
    ≡ l.initial.text.items ++ histories_text false l.fn.left.items

abbrev pub decreases-loop-history : goal.decreases-loop-history
decreases-loop-history l = length (into_iter_items l.left)
