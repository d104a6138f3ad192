-- How a history stores an entry: its numbers have 32 bits, and the id of a finish is two of them.
use Rattle.std.specs.Prelude.{ℕ, ◌+◌, ◌*◌, ◌^◌, Bool, true, false, List}
use Rattle.wire_msg.specs.Envelope.{Envelope}
use Rattle.trace_check.specs.declared.kept.PackedEvent.{PackedEvent}
use Rattle.trace_check.specs.declared.kept.PackedEvent.TheVariants as kept
use Rattle.trace_check.specs.declared.kept.PackedAction.{PackedAction}
use Rattle.trace_check.specs.declared.kept.PackedAction.TheVariants as done
use Rattle.trace_check.specs.declared.kept.PackedEntry.{PackedEntry}
use Rattle.trace_check.specs.declared.stored.StoredAction.{StoredAction}
use Rattle.trace_check.specs.declared.stored.StoredAction.TheVariants as stored
use Rattle.trace_check.specs.declared.stored.StoredEntry.{StoredEntry}
use Rattle.trace_check.specs.Claims.{Claim}
use Rattle.trace_check.specs.Kept.{claim_said, EntryStands}

abbrev pub happened : Bool → PackedEvent → PackedAction
happened true event = done.Done event
happened false event = done.Faulted event

abbrev pub action_of : StoredAction → PackedAction
action_of stored.Nothing = done.Nothing
action_of stored.Crashed = done.Crashed
action_of (stored.Recovered kept) = done.Recovered kept
action_of (stored.NotRecovered kept fault) = done.NotRecovered kept fault
action_of (stored.Timer is_done timer) = happened is_done (kept.Timer timer)
action_of (stored.Deliver is_done place) = happened is_done (kept.Deliver place)
action_of (stored.Submit is_done queue priority len start) = happened is_done (kept.Submit queue priority len start)
action_of (stored.Finish is_done origin low high) = happened is_done (kept.Finish origin (high * 2 ^ 32 + low))
action_of (stored.Recover is_done) = happened is_done kept.Recover

abbrev pub entry_of : StoredEntry → PackedEntry
entry_of e = record { action = action_of e.action; start = e.start; end = e.end }

-- ---- what it says, and that it can be read back

abbrev pub claim_stored : List Envelope → List ℕ → StoredEntry → Claim
claim_stored messages payloads e = claim_said messages payloads (entry_of e)

abbrev pub IsStored : ℕ → ℕ → StoredEntry → Type 0
IsStored messages payloads e = EntryStands messages payloads (entry_of e)
