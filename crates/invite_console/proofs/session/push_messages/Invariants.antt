use Rattle.std.proofs.Common.{◌≡◌, ◌++◌, drop}
use Rattle.invite_console.specs.Answer.{message_lines}
use Rattle.invite_console.proofs.session.push_messages.Given as goal

abbrev pub invariant-loop-message : goal.invariant-loop-message
invariant-loop-message l = l.text.items ++ message_lines (drop l.message-index l.messages) ≡ l.fn.text.items ++ message_lines l.messages
