use Rattle.std.proofs.Common.{◌≡◌, ◌++◌, drop}
use Rattle.histories.specs.Lists.{Each}
use Rattle.wire_msg.specs.Spelling.{IsMessage}
use Rattle.trace_text.specs.Tokens.{message_tokens}
use Rattle.trace_text.proofs.writing.write_messages.Given as goal

abbrev pub invariant-loop-place : goal.invariant-loop-place
invariant-loop-place l =
    (l.out.before ≡ l.initial.out.before) × (l.out.tokens ++ message_tokens (drop l.place l.messages)
    ≡ l.initial.out.tokens ++ message_tokens l.messages)
    × (Each IsMessage (drop l.place l.messages) → Each IsMessage l.messages)
