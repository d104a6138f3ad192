use Rattle.std.proofs.Common.{◌≡◌, ◌++◌, drop}
use Rattle.trace_text.specs.Tokens.{message_tokens}
use Rattle.threads_console.proofs.writing.write_sent.Given as goal

abbrev pub invariant-loop-place : goal.invariant-loop-place
invariant-loop-place l = (l.out.before ≡ l.initial.out.before)
    × (l.out.tokens ++ message_tokens (drop l.place l.messages) ≡ l.initial.out.tokens ++ message_tokens l.messages)
