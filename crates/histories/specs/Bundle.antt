-- The histories of all nodes of a cluster, without any order across nodes.
use Rattle.std.specs.Prelude.{ℕ, ◌≡◌, List, [], ◌∷◌, ◌++◌, length, slice_get, Some}
use Rattle.wire_msg.specs.Envelope.{Envelope}
use Rattle.histories.specs.Lists.{IsAmong}
use Rattle.histories.specs.NodeState.{opening}
use Rattle.histories.specs.HistoryEvent.{Entry, AreAddressed}
use Rattle.histories.specs.History.{Follows, sent_in, brought_in}

-- all messages that the histories of a cluster have sent
abbrev pub sent_by_all : List (List Entry) → List Envelope
sent_by_all [] = []
sent_by_all (h ∷ hs) = sent_in h ++ sent_by_all hs

-- a bundle is one history for each node, each entry possible where it stands, such that each message that is delivered
-- was sent by some history and is addressed to the node
pub record Bundle (histories : List (List Entry)) : Type 0 where
  pub follows : (n : ℕ) (h : List Entry) → slice_get histories n ≡ Some h → Follows n (length histories) (opening n) h
  pub delivers : (n : ℕ) (h : List Entry) → slice_get histories n ≡ Some h →
      (m : Envelope) → IsAmong m (brought_in h) → IsAmong m (sent_by_all histories)
  pub addressed : (n : ℕ) (h : List Entry) → slice_get histories n ≡ Some h → AreAddressed n (brought_in h)
