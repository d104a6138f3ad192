-- The turns of a run, and where a walk through them stands.
use Rattle.std.specs.Prelude.{ℕ, ◌≡◌, ◌+◌, List, length, slice_get, Some}
use Rattle.trace_check.specs.Claims.{Claim}
use Rattle.trace_check.specs.Searches.{twin_at}
use Rattle.trace_check.specs.Followed.{before}
use Rattle.trace_check.specs.Orders.{history, taken}
use Rattle.trace_console.specs.declared.turn.Turn.{Turn}
use Rattle.trace_console.specs.declared.walk.NodeCursor.{NodeCursor}
use Rattle.trace_console.specs.Stands.{stand_after}

-- ---- turns

-- the turn of this number takes this entry of its node
pub record IsTurnOf (hs : List (List Claim)) (order : List ℕ) (number : ℕ) (c : Claim) (t : Turn) : Type 0 where
  pub node : slice_get order number ≡ Some t.node
  pub index : t.index ≡ taken t.node (before order number)
  pub entry : slice_get (history hs t.node) t.index ≡ Some c
  pub stand : t.stand ≡ stand_after hs order t.node (number + 1)

abbrev pub IsTurn : List (List Claim) → List ℕ → ℕ → Turn → Type 0
IsTurn hs order number t = (c : Claim) × IsTurnOf hs order number c t

-- the first turns of the order
abbrev pub AreFirst : List (List Claim) → List ℕ → List Turn → Type 0
AreFirst hs order turns = (k : ℕ) (t : Turn) → slice_get turns k ≡ Some t → IsTurn hs order k t

-- all of them
abbrev pub AreTurns : List (List Claim) → List ℕ → List Turn → Type 0
AreTurns hs order turns = (length turns ≡ length order) × AreFirst hs order turns

-- ---- the walk

-- a node after these turns, the newest first
abbrev pub seat_at : List (List Claim) → List ℕ → ℕ → NodeCursor
seat_at hs past n = record { node_model = twin_at hs past n; index = taken n past }

abbrev pub AreSeats : List (List Claim) → List ℕ → List NodeCursor → Type 0
AreSeats hs past seats = (length seats ≡ length hs) × ((n : ℕ) (s : NodeCursor) → slice_get seats n ≡ Some s → s ≡ seat_at hs past n)
