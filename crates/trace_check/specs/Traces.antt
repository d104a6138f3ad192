-- What contracts see of an entry: what was done, and what was sent, without where it lies in memory.
use Rattle.std.specs.Prelude.{List}
use Rattle.wire_msg.specs.Envelope.{Envelope}
use Rattle.trace_check.specs.declared.trace.TraceAction.{TraceAction}
use Rattle.trace_check.specs.declared.history.EntryView.{EntryView}
use Rattle.trace_check.specs.Claims.{Claim}

abbrev pub claim : TraceAction → List Envelope → Claim
claim action sent = record { action = action; sent = sent }

abbrev pub claim_seen : EntryView → Claim
claim_seen e = record { action = e.action; sent = e.sent }
