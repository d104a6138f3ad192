use Rattle.std.proofs.Common.{◌≡◌, ◌++◌, drop}
use Rattle.histories.specs.Lists.{Each}
use Rattle.trace_text.specs.Fits.{ClaimFits}
use Rattle.trace_text.specs.Tokens.{entries_tokens}
use Rattle.trace_text.proofs.writing.write_history.Given as goal

abbrev pub invariant-loop-place : goal.invariant-loop-place
invariant-loop-place l =
    (l.out.before ≡ l.initial.out.before) × (l.out.tokens ++ entries_tokens (drop l.place l.history)
    ≡ l.initial.out.tokens ++ entries_tokens l.history)
    × (Each ClaimFits (drop l.place l.history) → Each ClaimFits l.history)
