use Rattle.std.proofs.Common.{◌≡◌, ◌++◌, drop}
use Rattle.std.specs.List.{flat_map}
use Rattle.trace_console.specs.Turning.{turn_text}
use Rattle.trace_console.proofs.turning.push_turns.Given as goal

abbrev pub invariant-loop-turn : goal.invariant-loop-turn
invariant-loop-turn l = l.text.items ++ flat_map turn_text (drop l.turn-index l.turns) ≡ l.fn.text.items ++ flat_map turn_text l.turns
