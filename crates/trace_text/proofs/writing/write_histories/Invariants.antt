use Rattle.std.proofs.Common.{◌≡◌, ◌++◌, drop}
use Rattle.trace_text.specs.Fits.{TraceFits}
use Rattle.trace_text.specs.Tokens.{histories_tokens}
use Rattle.trace_text.proofs.writing.write_histories.Given as goal

abbrev pub invariant-loop-history : goal.invariant-loop-history
invariant-loop-history l =
    (l.out.before ≡ l.initial.out.before) × (l.out.tokens ++ histories_tokens (drop l.history-index l.histories)
    ≡ l.initial.out.tokens ++ histories_tokens l.histories)
    × (TraceFits (drop l.history-index l.histories) → TraceFits l.histories)
