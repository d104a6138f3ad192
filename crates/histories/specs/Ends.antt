-- From whom and to whom the messages of a history go.
use Rattle.std.specs.Prelude.{ℕ, ◌≡◌, ◌≢◌, ◌<◌, List, length, slice_get, Some}
use Rattle.wire_msg.specs.Envelope.{Envelope}
use Rattle.histories.specs.Lists.{IsAmong, Each}
use Rattle.histories.specs.NodeState.{NodeState}
use Rattle.histories.specs.HistoryEvent.{Entry}
use Rattle.histories.specs.History.{Follows, sent_in}
use Rattle.histories.specs.Bundle.{Bundle}

-- the messages are this node's own
abbrev pub AreOf : ℕ → List Envelope → Type 0
AreOf self ms = Each (λ (m : Envelope). m.sender ≡ self) ms

-- the messages are addressed to nodes of the cluster
abbrev pub AreToNodes : ℕ → List Envelope → Type 0
AreToNodes nodes ms = Each (λ (m : Envelope). m.receiver < nodes) ms

-- whatever state a history begins with, each message that it sends has its node as sender
abbrev pub HistorySendsItsOwn : Type 0
HistorySendsItsOwn = (self nodes : ℕ) (s : NodeState) (h : List Entry) → Follows self nodes s h → AreOf self (sent_in h)

-- the message goes from this node to another one of the cluster
pub record GoesOut (nodes self : ℕ) (m : Envelope) : Type 0 where
  pub own : m.sender ≡ self
  pub within : m.receiver < nodes
  pub another : m.receiver ≢ self

-- and so does each message that a history of a bundle sends
abbrev pub EachGoesOut : Type 0
EachGoesOut = (histories : List (List Entry)) → Bundle histories → (n : ℕ) (h : List Entry) → slice_get histories n ≡ Some h →
    (m : Envelope) → IsAmong m (sent_in h) → GoesOut (length histories) n m
