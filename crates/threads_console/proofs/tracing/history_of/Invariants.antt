use Rattle.std.proofs.Common.{◌≡◌, map, take}
use Rattle.threads_console.specs.Texts.{turn_claim}
use Rattle.threads_console.proofs.tracing.history_of.Given as goal

abbrev pub invariant-loop-place : goal.invariant-loop-place
invariant-loop-place l = l.history ≡ map turn_claim (take l.place l.turns.turns)
