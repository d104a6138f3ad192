-- How entries are kept: a few bytes for each, and what is longer in lists beside.
use Rattle.std.specs.Prelude.{ℕ, ◌+◌, ◌-◌, ◌<◌, ◌≤◌, ⊤, List, [], length, take, drop, Option, Some, None, slice_get}
use Rattle.job_model.specs.declared.payload.TheConstants.{PAYLOAD_CAPACITY}
use Rattle.wire_msg.specs.Envelope.{Envelope}
use Rattle.node_core.specs.declared.event.Event.{Event}
use Rattle.node_core.specs.declared.event.Event.TheVariants as on
use Rattle.trace_check.specs.declared.trace.TraceAction.{TraceAction}
use Rattle.trace_check.specs.declared.trace.TraceAction.TheVariants as action
use Rattle.trace_check.specs.declared.kept.PackedEvent.{PackedEvent}
use Rattle.trace_check.specs.declared.kept.PackedEvent.TheVariants as kept
use Rattle.trace_check.specs.declared.kept.PackedAction.{PackedAction}
use Rattle.trace_check.specs.declared.kept.PackedAction.TheVariants as done
use Rattle.trace_check.specs.declared.kept.PackedEntry.{PackedEntry}
use Rattle.trace_check.specs.Claims.{Claim}

-- ---- what is kept of an event, where so many messages and bytes of payloads are kept before it

abbrev pub kept_event : ℕ → ℕ → Event → PackedEvent
kept_event messages payloads (on.Timer timer) = kept.Timer timer
kept_event messages payloads (on.Deliver m) = kept.Deliver messages
kept_event messages payloads (on.Submit work) = kept.Submit work.queue work.priority (length work.payload) payloads
kept_event messages payloads (on.Finish origin id) = kept.Finish origin id
kept_event messages payloads on.Recover = kept.Recover

abbrev pub payload_of : Event → List ℕ
payload_of (on.Submit work) = work.payload
payload_of event = []

abbrev pub kept_action : ℕ → ℕ → TraceAction → PackedAction
kept_action messages payloads action.Nothing = done.Nothing
kept_action messages payloads (action.Done event) = done.Done (kept_event messages payloads event)
kept_action messages payloads (action.Faulted event) = done.Faulted (kept_event messages payloads event)
kept_action messages payloads action.Crashed = done.Crashed
kept_action messages payloads (action.Recovered kept) = done.Recovered kept
kept_action messages payloads (action.NotRecovered kept fault) = done.NotRecovered kept fault

abbrev pub payload_in : TraceAction → List ℕ
payload_in (action.Done event) = payload_of event
payload_in (action.Faulted event) = payload_of event
payload_in d = []

-- ---- what it says

-- the part from start up to end
abbrev pub part : {A : Type 0} → ℕ → ℕ → List A → List A
part start end xs = take (end - start) (drop start xs)

abbrev pub delivered : Option Envelope → Event
delivered None = on.Recover
delivered (Some m) = on.Deliver m

abbrev pub event_said : List Envelope → List ℕ → PackedEvent → Event
event_said messages payloads (kept.Timer timer) = on.Timer timer
event_said messages payloads (kept.Deliver place) = delivered (slice_get messages place)
event_said messages payloads (kept.Submit queue priority len start) =
    on.Submit (record { queue = queue; priority = priority; payload = take len (drop start payloads) })
event_said messages payloads (kept.Finish origin id) = on.Finish origin id
event_said messages payloads kept.Recover = on.Recover

abbrev pub action_said : List Envelope → List ℕ → PackedAction → TraceAction
action_said messages payloads done.Nothing = action.Nothing
action_said messages payloads (done.Done event) = action.Done (event_said messages payloads event)
action_said messages payloads (done.Faulted event) = action.Faulted (event_said messages payloads event)
action_said messages payloads done.Crashed = action.Crashed
action_said messages payloads (done.Recovered kept) = action.Recovered kept
action_said messages payloads (done.NotRecovered kept fault) = action.NotRecovered kept fault

abbrev pub claim_said : List Envelope → List ℕ → PackedEntry → Claim
claim_said messages payloads e = record { action = action_said messages payloads e.action; sent = part e.start e.end messages }

-- ---- where the message stands that it was brought

abbrev pub delivered_at : PackedEvent → Option ℕ
delivered_at (kept.Deliver place) = Some place
delivered_at event = None

abbrev pub brought_at : PackedAction → Option ℕ
brought_at (done.Done event) = delivered_at event
brought_at (done.Faulted event) = delivered_at event
brought_at d = None

-- ---- what can be read back, from so many messages and bytes of payloads

abbrev pub EventStands : ℕ → ℕ → PackedEvent → Type 0
EventStands messages payloads (kept.Deliver place) = place < messages
EventStands messages payloads (kept.Submit queue priority len start) = (start + len ≤ payloads) × (len ≤ PAYLOAD_CAPACITY)
EventStands messages payloads event = ⊤

abbrev pub ActionStands : ℕ → ℕ → PackedAction → Type 0
ActionStands messages payloads (done.Done event) = EventStands messages payloads event
ActionStands messages payloads (done.Faulted event) = EventStands messages payloads event
ActionStands messages payloads d = ⊤

pub record EntryStands (messages payloads : ℕ) (e : PackedEntry) : Type 0 where
  pub action : ActionStands messages payloads e.action
  pub sent : (e.start ≤ e.end) × (e.end ≤ messages)
