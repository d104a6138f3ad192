use Rattle.std.proofs.Common.{◌≡◌, ◌++◌, drop, take, All}
use Rattle.wire_msg.specs.Spelling.{IsMessage}
use Rattle.node_session.specs.Text.{send_lines}
use Rattle.node_session.proofs.sending.push_messages.Given as goal

abbrev pub invariant-loop-message : goal.invariant-loop-message
invariant-loop-message l = record {
  text : l.text.items ++ send_lines (drop l.message-index l.messages) ≡ l.fn.text.items ++ send_lines l.messages;
  messages : All IsMessage (take l.message-index l.messages);
}
