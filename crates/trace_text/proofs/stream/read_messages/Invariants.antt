use Rattle.std.proofs.Common.{length}
use Rattle.trace_text.specs.Entries.{messages_in}
use Rattle.trace_text.proofs.Judged.{messages_then}
use Rattle.trace_text.proofs.Walks.{ItemsWalked}
use Rattle.trace_text.proofs.stream.read_messages.Given as goal

abbrev pub invariant-messages : goal.invariant-messages
invariant-messages l = ItemsWalked 122 messages_in (messages_then l.all l.sent.messages) l.initial.reader l.reader

abbrev pub decreases-messages : goal.decreases-messages
decreases-messages l = length l.reader
