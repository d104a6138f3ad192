-- Where a check stands after some turns.
use Rattle.std.specs.Prelude.{◌≡◌, ◌↔◌, ◌⊎◌, ℕ, ◌+◌, Bool, true, false, List, [], ◌∷◌, length, reverse, Some, slice_get, slice_set}
use Rattle.group_task.specs.Ids.{has}
use Rattle.wire_msg.specs.Envelope.{Envelope}
use Rattle.histories.specs.Lists.{IsAmong, Each}
use Rattle.histories.specs.HistoryEvent.{AreAddressed}
use Rattle.trace_check.specs.declared.search.NodeCursor.{NodeCursor}
use Rattle.trace_check.specs.declared.search.Search.{Search}
use Rattle.trace_check.specs.declared.search.Judgement.{Judgement}
use Rattle.trace_check.specs.declared.search.Judgement.TheVariants.{Stops, Waits, Takes}
use Rattle.trace_check.specs.Claims.{Claim, MayCome, after_claim, brought_by}
use Rattle.trace_check.specs.Orders.{history, taken, state_of, IsSent, MayTake, IsLegal, IsLeast, IsStuck}
use Rattle.trace_check.specs.Posts.{IsPosted}
use Rattle.trace_check.specs.Twins.{Twin}

-- the node after so many entries of its history
abbrev pub twin_after : List (List Claim) → ℕ → ℕ → Twin
twin_after hs n many = record { id = n; nodes = length hs; node = state_of hs n many }

-- the node as its entries leave it that were taken
abbrev pub twin_at : List (List Claim) → List ℕ → ℕ → Twin
twin_at hs past n = twin_after hs n (taken n past)

-- the next entry of the node can't come, whatever is sent
abbrev pub IsDead : List (List Claim) → List ℕ → ℕ → Type 0
IsDead hs past n = (c : Claim) → slice_get (history hs n) (taken n past) ≡ Some c → MayCome n (length hs) (state_of hs n (taken n past)) c
    → AreAddressed n (brought_by c.action) → ⊥

-- a node represents its node: one that is stopped keeps its place alone
pub record SeatFits (hs : List (List Claim)) (past : List ℕ) (n : ℕ) (stopped : Bool) (s : NodeCursor) : Type 0 where
  pub place : s.place ≡ taken n past
  pub node_model : stopped ≡ false → s.node_model ≡ twin_at hs past n

-- after the turns of the past, newest first
pub record IsDesk (hs : List (List Claim)) (seats : List NodeCursor) (ready stopped : List ℕ) (posted : List Envelope) (past : List ℕ) :
    Type 0 where
  pub count : length seats ≡ length hs
  pub fits : (n : ℕ) (s : NodeCursor) → slice_get seats n ≡ Some s → SeatFits hs past n (has stopped n) s
  pub legal : IsLegal hs past
  pub least : IsLeast hs past
  pub posts : (m : Envelope) → IsPosted posted m ↔ IsSent hs past m
  pub live : (n : ℕ) → has ready n ≡ true → has stopped n ≡ false
  pub waits : (n : ℕ) → has ready n ≡ false → MayTake hs past n → ⊥
  pub dead : (n : ℕ) → has stopped n ≡ true → IsDead hs past n

abbrev pub Fits : List (List Claim) → Search → Type 0
Fits hs d = IsDesk hs d.seats.items d.ready d.stopped d.posted (reverse d.order.items)

-- no entry more can be taken, and each node stands at its next
pub record IsAtRest (hs : List (List Claim)) (seats : List NodeCursor) (past : List ℕ) : Type 0 where
  pub count : length seats ≡ length hs
  pub places : (n : ℕ) (s : NodeCursor) → slice_get seats n ≡ Some s → s.place ≡ taken n past
  pub legal : IsLegal hs past
  pub least : IsLeast hs past
  pub stuck : IsStuck hs past

abbrev pub Rests : List (List Claim) → Search → Type 0
Rests hs d = IsAtRest hs d.seats.items (reverse d.order.items)

-- ---- what is said of a node's next entry

-- what it is brought wasn't sent
pub record IsUnsent (hs : List (List Claim)) (posted : List Envelope) (n place : ℕ) : Type 0 where
  pub message : Envelope
  pub unsent : IsPosted posted message → ⊥
  pub brought : (c : Claim) → slice_get (history hs n) place ≡ Some c → brought_by c.action ≡ message ∷ []

-- it can be taken, and the node stands after it
pub record IsTaken (hs : List (List Claim)) (posted : List Envelope) (n : ℕ) (old new : NodeCursor) : Type 0 where
  pub claim : Claim
  pub next : slice_get (history hs n) old.place ≡ Some claim
  pub possible : MayCome old.node_model.id old.node_model.nodes old.node_model.node claim
  pub sent : Each (IsPosted posted) (brought_by claim.action)
  pub addressed : AreAddressed n (brought_by claim.action)
  pub place : new.place ≡ old.place + 1
  pub node_model : new.node_model ≡ record {
    id = old.node_model.id;
    nodes = old.node_model.nodes;
    node =
        after_claim old.node_model.id old.node_model.nodes old.node_model.node claim;
  }

abbrev pub Judges : List (List Claim) → List Envelope → ℕ → NodeCursor → NodeCursor → Judgement → Type 0
Judges hs posted n old new Stops =
    (new.place ≡ old.place) × ((c : Claim) → slice_get (history hs n) old.place ≡ Some c
    → MayCome old.node_model.id old.node_model.nodes old.node_model.node c → AreAddressed n (brought_by c.action) → ⊥)
Judges hs posted n old new Waits = (new ≡ old) × IsUnsent hs posted n old.place
Judges hs posted n old new Takes = IsTaken hs posted n old new

-- each node of the list is at its next entry
pub record AreAtPlaces (hs : List (List Claim)) (seats : List NodeCursor) (past : List ℕ) : Type 0 where
  pub legal : IsLegal hs past
  pub places : (n : ℕ) (s : NodeCursor) → slice_get seats n ≡ Some s → s.place ≡ taken n past

-- these messages are sent, and wake their receivers
pub record PostsAll (stopped : List ℕ) (posted posted' : List Envelope) (ready ready' : List ℕ) (sent : List Envelope) : Type 0 where
  pub posts : (m : Envelope) → IsPosted posted' m ↔ (IsAmong m sent ⊎ IsPosted posted m)
  pub grows : (k : ℕ) → has ready k ≡ true → has ready' k ≡ true
  pub wakes : (m : Envelope) → IsAmong m sent → has stopped m.receiver ≡ false → has ready' m.receiver ≡ true
  pub only : (k : ℕ) → has ready' k ≡ true → (has ready k ≡ true) ⊎ (has stopped k ≡ false)

-- ---- a node's turn

-- what its next entry sent is sent if it is taken, and else all is as it was
abbrev pub SendsIts : List (List Claim) → Search → Search → ℕ → ℕ → Judgement → Type 0
SendsIts hs old new n place Takes = (c : Claim) → slice_get (history hs n) place ≡ Some c
    → PostsAll old.stopped old.posted new.posted old.ready new.ready c.sent
SendsIts hs old new n place answer = (new.posted ≡ old.posted) × (new.ready ≡ old.ready)

-- its next entry is judged, and the other nodes stay where they are
pub record IsTurn (hs : List (List Claim)) (old new : Search) (n : ℕ) (answer : Judgement) : Type 0 where
  pub was : NodeCursor
  pub is : NodeCursor
  pub at : slice_get old.seats.items n ≡ Some was
  pub judged : Judges hs old.posted n was is answer
  pub sends : SendsIts hs old new n was.place answer
  pub seats : new.seats.items ≡ slice_set old.seats.items n is
  pub order : new.order.items ≡ old.order.items
  pub stopped : new.stopped ≡ old.stopped
