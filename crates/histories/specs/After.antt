-- What an entry makes of a node with its disk, what it sends, the count that it gives, and what it mounts.
use Rattle.std.specs.Prelude.{ℕ, ◌+◌, List, [], ◌∷◌, Option, Some, None}
use Rattle.job_model.specs.declared.node_command.NodeCommand.{NodeCommand as Command}
use Rattle.job_model.specs.declared.node_command.NodeCommand.TheVariants.{Raise}
use Rattle.job_model.specs.Durable.{Durable}
use Rattle.job_model.specs.Fold.{after_command, after_wanted}
use Rattle.wire_msg.specs.Envelope.{Envelope}
use Rattle.node_core.specs.Start.{alone, down}
use Rattle.histories.specs.NodeState.{NodeState, wants_at, effect_at, settled}
use Rattle.histories.specs.declared.history_event.HistoryEvent.{HistoryEvent}
use Rattle.histories.specs.declared.history_event.HistoryEvent.TheVariants.{Did, Faulted, Crashed, Recovered, RaiseFailed, RaiseRefused}

-- the state after an entry: a failed device puts the wanted command in doubt, a mounting settles the doubt, but one
-- whose raise is refused leaves all as it was, and so does what is refused or rests
abbrev pub after : ℕ → ℕ → NodeState → HistoryEvent → NodeState
after self nodes s (Did event) = record {
  state = (effect_at self nodes s event).state;
  durable = after_wanted s.durable (wants_at self nodes s event);
  doubt = s.doubt;
}
after self nodes s (Faulted event) = record { state = down self; durable = s.durable; doubt = wants_at self nodes s event }
after self nodes s Crashed = record { state = down self; durable = s.durable; doubt = s.doubt }
after self nodes s (Recovered kept) = record {
  state = alone self ((settled kept s).counter + 1);
  durable = after_command (settled kept s) Raise;
  doubt = None;
}
after self nodes s (RaiseFailed kept) = record { state = down self; durable = settled kept s; doubt = Some Raise }
after self nodes s what = s

-- the messages that an entry sends: only an event that is handled sends any
abbrev pub sent_at : ℕ → ℕ → NodeState → HistoryEvent → List Envelope
sent_at self nodes s (Did event) = (effect_at self nodes s event).sent
sent_at self nodes s what = []

-- the count that a command gives to a new group
abbrev pub raised : Durable → Option Command → List ℕ
raised d (Some Raise) = (d.counter + 1) ∷ []
raised d wants = []

-- the count that an entry gives to a new group
abbrev pub given_at : ℕ → ℕ → NodeState → HistoryEvent → List ℕ
given_at self nodes s (Did event) = raised s.durable (wants_at self nodes s event)
given_at self nodes s (Recovered kept) = ((settled kept s).counter + 1) ∷ []
given_at self nodes s what = []

-- what an entry mounts
abbrev pub mounted_at : NodeState → HistoryEvent → Option Durable
mounted_at s (Recovered kept) = Some (settled kept s)
mounted_at s (RaiseFailed kept) = Some (settled kept s)
mounted_at s (RaiseRefused kept) = Some (settled kept s)
mounted_at s what = None
