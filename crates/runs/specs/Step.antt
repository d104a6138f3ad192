-- One step of a cluster: of one node, or of the network.
use Rattle.std.specs.Prelude.{ℕ, List, [], slice_set}
use Rattle.wire_msg.specs.Envelope.{Envelope}
use Rattle.sim_net.specs.Network.{Network, after_all_sent}
use Rattle.histories.specs.declared.history_event.HistoryEvent.{HistoryEvent}
use Rattle.histories.specs.After.{after, sent_at}
use Rattle.runs.specs.declared.outcome.ActRefusal.{ActRefusal}
use Rattle.runs.specs.World.{World, node_in}

pub data Step : Type 0 where
  -- something comes of an event at a node, the message of this number being the one that it was brought, if any
  Takes : (node : ℕ) (number : ℕ) (what : HistoryEvent) → Step
  -- the network alone changes, and is this from then on
  Changes : (net : Network) → Step
  -- nothing is done, for this reason, and it is reported of this node
  Denies : (node : ℕ) (why : ActRefusal) → Step

-- the messages that a step sends
abbrev pub step_sent : ℕ → World → Step → List Envelope
step_sent nodes w (Takes n number what) = sent_at n nodes (node_in w.states n) what
step_sent nodes w step = []

-- the cluster after a step
abbrev pub world_after : ℕ → World → Step → World
world_after nodes w (Takes n number what) = record {
  states = slice_set w.states n (after n nodes (node_in w.states n) what);
  net = after_all_sent w.net (sent_at n nodes (node_in w.states n) what);
}
world_after nodes w (Changes net) = record { states = w.states; net = net }
world_after nodes w (Denies n why) = w
