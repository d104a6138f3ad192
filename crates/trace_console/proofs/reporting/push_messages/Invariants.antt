use Rattle.std.proofs.Common.{◌≡◌, ◌++◌, drop}
use Rattle.trace_console.specs.Reported.{messages_text}
use Rattle.trace_console.proofs.reporting.push_messages.Given as goal

abbrev pub invariant-loop-message : goal.invariant-loop-message
invariant-loop-message l = l.text.items ++ messages_text (drop l.message-index l.messages) ≡ l.fn.text.items ++ messages_text l.messages
