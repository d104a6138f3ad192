-- The history of a node, and what it replays to: the state after each entry, and all that was sent and brought.
use Rattle.std.specs.Prelude.{ℕ, ◌≡◌, List, [], ◌∷◌, ◌++◌}
use Rattle.wire_msg.specs.Envelope.{Envelope}
use Rattle.node_core.specs.State.{State}
use Rattle.histories.specs.NodeState.{NodeState}
use Rattle.histories.specs.HistoryEvent.{Entry, event_of, brought}
use Rattle.histories.specs.After.{after, sent_at, given_at}
use Rattle.histories.specs.Possible.{IsPossible, IsOfSlots}

-- from s on, the entries are steps of the node, one after another
abbrev pub Follows : ℕ → ℕ → NodeState → List Entry → Type 0
Follows self nodes s [] = Unit {0}
Follows self nodes s (e ∷ es) =
    IsPossible self nodes s e.what × (e.sent ≡ sent_at self nodes s e.what) × Follows self nodes (after self nodes s e.what) es

-- and the journal of its disk has so many slots
abbrev pub FollowsSlots : ℕ → ℕ → ℕ → NodeState → List Entry → Type 0
FollowsSlots slots self nodes s [] = Unit {0}
FollowsSlots slots self nodes s (e ∷ es) =
    IsOfSlots slots self nodes s e.what × FollowsSlots slots self nodes (after self nodes s e.what) es

-- the state that a history leaves
abbrev pub replay : ℕ → ℕ → NodeState → List Entry → NodeState
replay self nodes s [] = s
replay self nodes s (e ∷ es) = replay self nodes (after self nodes s e.what) es

-- the states of the node with its disk, before a history and after each of its entries
abbrev pub states : ℕ → ℕ → NodeState → List Entry → List NodeState
states self nodes s [] = s ∷ []
states self nodes s (e ∷ es) = s ∷ states self nodes (after self nodes s e.what) es

-- the state vectors, before a history and after each of its entries
abbrev pub vectors : ℕ → ℕ → NodeState → List Entry → List State
vectors self nodes s [] = s.state ∷ []
vectors self nodes s (e ∷ es) = s.state ∷ vectors self nodes (after self nodes s e.what) es

-- the counts that a history gives to new groups
abbrev pub counts_given : ℕ → ℕ → NodeState → List Entry → List ℕ
counts_given self nodes s [] = []
counts_given self nodes s (e ∷ es) = given_at self nodes s e.what ++ counts_given self nodes (after self nodes s e.what) es

-- the messages that a history sends
abbrev pub sent_in : List Entry → List Envelope
sent_in [] = []
sent_in (e ∷ es) = e.sent ++ sent_in es

-- the messages that a history is brought, those that it refuses among them
abbrev pub brought_in : List Entry → List Envelope
brought_in [] = []
brought_in (e ∷ es) = brought (event_of e.what) ++ brought_in es

-- a history with one more possible entry is one, and leaves the state after that entry
abbrev pub HistoryGoesOn : Type 0
HistoryGoesOn = (self nodes : ℕ) (s : NodeState) (es : List Entry) (e : Entry) → Follows self nodes s es →
    IsPossible self nodes (replay self nodes s es) e.what →
    e.sent ≡ sent_at self nodes (replay self nodes s es) e.what →
    Follows self nodes s (es ++ e ∷ []) × (replay self nodes s (es ++ e ∷ []) ≡ after self nodes (replay self nodes s es) e.what)

-- and so for the slots
abbrev pub SlotsGoOn : Type 0
SlotsGoOn = (slots self nodes : ℕ) (s : NodeState) (es : List Entry) (e : Entry) → FollowsSlots slots self nodes s es →
    IsOfSlots slots self nodes (replay self nodes s es) e.what → FollowsSlots slots self nodes s (es ++ e ∷ [])
