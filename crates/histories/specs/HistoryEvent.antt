-- What may come of an event at a node with its disk, and the entries of a node's history.
use Rattle.std.specs.Prelude.{ℕ, ◌≡◌, List, [], ◌∷◌, Option, Some, None}
use Rattle.wire_msg.specs.Envelope.{Envelope}
use Rattle.node_core.specs.declared.event.Event.{Event}
use Rattle.node_core.specs.declared.event.Event.TheVariants.{Deliver, Recover}
use Rattle.histories.specs.declared.history_event.HistoryEvent.{HistoryEvent}
use Rattle.histories.specs.declared.history_event.HistoryEvent.TheVariants.{Did, Refused, Faulted, NoOp, Crashed}
use Rattle.histories.specs.Lists.{Each}

-- one entry of a node's history: what came of an event, and the messages that were handed out
pub record Entry : Type 0 where
  pub what : HistoryEvent
  pub sent : List Envelope

-- the event that it came of: a node that is down mounts its disk at a Recover
abbrev pub event_of : HistoryEvent → Option Event
event_of (Did event) = Some event
event_of (Refused event fault) = Some event
event_of (Faulted event) = Some event
event_of (NoOp rest) = None
event_of Crashed = None
event_of mounting = Some Recover

-- it came of this event
abbrev pub IsOf : Event → HistoryEvent → Type 0
IsOf event what = event_of what ≡ Some event

-- the message that an event brings
abbrev pub brought : Option Event → List Envelope
brought (Some (Deliver m)) = m ∷ []
brought event = []

-- the messages are addressed to the node
abbrev pub AreAddressed : ℕ → List Envelope → Type 0
AreAddressed self ms = Each (λ (m : Envelope). m.receiver ≡ self) ms
