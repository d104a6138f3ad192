use Rattle.std.proofs.Common.{◌≡◌, ◌++◌, false, drop}
use Rattle.threads_console.specs.Texts.{entries_text}
use Rattle.threads_console.proofs.writing.write_turns.Given as goal

abbrev pub invariant-loop-place : goal.invariant-loop-place
invariant-loop-place l = l.text.items ++ entries_text l.later (drop l.place l.history.turns)
    ≡ l.initial.text.items ++ entries_text false l.history.turns
