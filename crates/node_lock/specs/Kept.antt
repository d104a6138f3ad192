-- How the turns of a history are kept: a short line for each, and the events and the messages that they sent in lists beside.
use Rattle.std.specs.Prelude.{ℕ, ◌≡◌, ◌<◌, ◌≤◌, ⊤, List, [], Option, Some, None, slice_get}
use Rattle.wire_msg.specs.Envelope.{Envelope}
use Rattle.node_core.specs.declared.event.Event.{Event}
use Rattle.histories.specs.declared.event_outcome.EventOutcome.{EventOutcome}
use Rattle.histories.specs.declared.history_event.HistoryEvent.{HistoryEvent}
use Rattle.histories.specs.declared.history_event.HistoryEvent.TheVariants as what
use Rattle.histories.specs.declared.history_event.NoOpKind.TheVariants.{Nothing}
use Rattle.histories.specs.EventOutcomes.{what_of}
use Rattle.trace_check.specs.Kept.{part}
use Rattle.node_lock.specs.declared.line.Quiet.{Quiet}
use Rattle.node_lock.specs.declared.line.Quiet.TheVariants as quiet
use Rattle.node_lock.specs.declared.line.PackedHistoryEvent.{PackedHistoryEvent}
use Rattle.node_lock.specs.declared.line.PackedHistoryEvent.TheVariants as kept
use Rattle.node_lock.specs.declared.line.Line.{Line}
use Rattle.node_lock.specs.declared.turn_log.Loss.{Loss}
use Rattle.node_lock.specs.History.{Turn}

-- the turns, and the number of each among the turns of all nodes; for how many more of them there is room, for how many more messages, for
-- how
-- many more events, and for how many more messages that are lost; the messages that were lost; and, at its end, how many calls of the disk
-- failed
pub record Log : Type 0 where
  pub turns : List Turn
  pub numbers : List ℕ
  pub room : ℕ
  pub sends : ℕ
  pub events : ℕ
  pub losses : ℕ
  pub lost : List Loss
  pub failures : ℕ

-- what came of a turn that handed no event to its node
abbrev pub what_quiet : Quiet → HistoryEvent
what_quiet quiet.Rested = what.NoOp Nothing
what_quiet quiet.Crashed = what.Crashed

-- what came of an event, where there is one
abbrev pub what_came : Option Event → EventOutcome → HistoryEvent
what_came None event_outcome = what.NoOp Nothing
what_came (Some event) event_outcome = what_of event event_outcome

-- what came of a turn, by the list of events
abbrev pub what_in : List Event → PackedHistoryEvent → HistoryEvent
what_in events (kept.Handed event_outcome place) = what_came (slice_get events place) event_outcome
what_in events (kept.Quiet q) = what_quiet q

-- the turn that a line says, by the list of messages and that of events
abbrev pub turn_in : List Envelope → List Event → Line → Turn
turn_in ms events l = record {
  worker = l.worker;
  index = l.index;
  entry =
      record { what = what_in events l.what; sent = part l.start l.end ms };
}

-- the turn at this place sent nothing, and this came of it
pub record IsQuietAt (place : ℕ) (q : Quiet) (turns : List Turn) : Type 0 where
  pub turn : Turn
  pub at : slice_get turns place ≡ Some turn
  pub what : turn.entry.what ≡ what_quiet q
  pub sent : turn.entry.sent ≡ []

-- this event was handled in the turn at this place, which sent these messages
pub record IsHandledAt (place : ℕ) (event : Event) (messages : List Envelope) (turns : List Turn) : Type 0 where
  pub turn : Turn
  pub at : slice_get turns place ≡ Some turn
  pub what : turn.entry.what ≡ what.Did event
  pub sent : turn.entry.sent ≡ messages

-- the event of a line is among so many
abbrev pub WhatStands : ℕ → PackedHistoryEvent → Type 0
WhatStands events (kept.Handed event_outcome place) = place < events
WhatStands events (kept.Quiet q) = ⊤

-- the messages of a line are among so many, and so is its event
pub record LineStands (messages events : ℕ) (l : Line) : Type 0 where
  pub sent : (l.start ≤ l.end) × (l.end ≤ messages)
  pub what : WhatStands events l.what
