-- Orders in which the entries of histories can be taken. An order is the list of the nodes, the newest first.
use Rattle.std.specs.Prelude.{◌≡◌, ◌≤◌, ◌<◌, ◌==◌, ℕ, ◌+◌, List, [], ◌∷◌, length, take, if◌then◌else◌, Option, Some, None, slice_get}
use Rattle.wire_msg.specs.Envelope.{Envelope}
use Rattle.histories.specs.Lists.{IsAmong, Each}
use Rattle.histories.specs.NodeState.{NodeState, opening}
use Rattle.histories.specs.HistoryEvent.{AreAddressed}
use Rattle.trace_check.specs.Claims.{Claim, MayCome, state_after, brought_by}

-- the history of a node, empty outside the cluster
abbrev pub claims_of : Option (List Claim) → List Claim
claims_of None = []
claims_of (Some h) = h

abbrev pub history : List (List Claim) → ℕ → List Claim
history hs n = claims_of (slice_get hs n)

-- how many entries of a node an order takes
abbrev pub taken : ℕ → List ℕ → ℕ
taken n [] = 0
taken n (m ∷ order) = if m == n then taken n order + 1 else taken n order

-- the state of a node after so many entries of its history
abbrev pub state_of : List (List Claim) → ℕ → ℕ → NodeState
state_of hs n many = state_after n (length hs) (opening n) (take many (history hs n))

-- some entry that was taken sent the message
pub record IsSent (hs : List (List Claim)) (order : List ℕ) (m : Envelope) : Type 0 where
  pub node : ℕ
  pub index : ℕ
  pub claim : Claim
  pub before : index < taken node order
  pub stands : slice_get (history hs node) index ≡ Some claim
  pub sends : IsAmong m claim.sent

-- The next entry of a node can be taken: it is possible after those before it in its history, and what it was brought was
-- sent, and is for this node.
pub record MayTake (hs : List (List Claim)) (order : List ℕ) (n : ℕ) : Type 0 where
  pub claim : Claim
  pub next : slice_get (history hs n) (taken n order) ≡ Some claim
  pub possible : MayCome n (length hs) (state_of hs n (taken n order)) claim
  pub sent : Each (λ (m : Envelope). IsSent hs order m) (brought_by claim.action)
  pub addressed : AreAddressed n (brought_by claim.action)

-- the entries can be taken in this order
abbrev pub IsLegal : List (List Claim) → List ℕ → Type 0
IsLegal hs [] = Unit {0}
IsLegal hs (n ∷ order) = MayTake hs order n × IsLegal hs order

-- no entry more can be taken
abbrev pub IsStuck : List (List Claim) → List ℕ → Type 0
IsStuck hs order = (n : ℕ) → MayTake hs order n → ⊥

-- all entries are taken
abbrev pub IsComplete : List (List Claim) → List ℕ → Type 0
IsComplete hs order = (n : ℕ) → taken n order ≡ length (history hs n)

-- at each turn no lesser node could be taken
abbrev pub IsLeast : List (List Claim) → List ℕ → Type 0
IsLeast hs [] = Unit {0}
IsLeast hs (n ∷ order) = ((m : ℕ) → m < n → MayTake hs order m → ⊥) × IsLeast hs order

-- where nothing more can be taken, no order takes more of any history
abbrev pub NoneGoesFurther : Type 0
NoneGoesFurther = (hs : List (List Claim)) (order other : List ℕ) → IsStuck hs order → IsLegal hs other → (n : ℕ)
    → taken n other ≤ taken n order

-- where nothing more can be taken and an entry is left, no order takes all
abbrev pub NoneComplete : Type 0
NoneComplete = (hs : List (List Claim)) (order other : List ℕ) (n : ℕ) → IsStuck hs order → taken n order < length (history hs n)
    → IsLegal hs other → IsComplete hs other → ⊥
