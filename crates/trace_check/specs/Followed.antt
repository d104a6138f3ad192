-- Where a check stands that takes the entries in an order that is given.
use Rattle.std.specs.Prelude.{◌≡◌, ◌↔◌, ℕ, ◌∷◌, Bool, true, false, List, length, reverse, take, Some, slice_get}
use Rattle.wire_msg.specs.Envelope.{Envelope}
use Rattle.trace_check.specs.declared.search.NodeCursor.{NodeCursor}
use Rattle.trace_check.specs.declared.search.Search.{Search}
use Rattle.trace_check.specs.Claims.{Claim}
use Rattle.trace_check.specs.Orders.{taken, IsSent, IsLegal, MayTake}
use Rattle.trace_check.specs.Posts.{IsPosted}
use Rattle.trace_check.specs.Searches.{twin_at}

-- the nodes of the turns before this one, the newest first
abbrev pub before : List ℕ → ℕ → List ℕ
before order number = reverse (take number order)

abbrev pub seat_at : List (List Claim) → List ℕ → ℕ → NodeCursor
seat_at hs past n = record { node_model = twin_at hs past n; place = taken n past }

-- after the turns of the past, newest first
pub record AreFollowed (hs : List (List Claim)) (seats : List NodeCursor) (posted : List Envelope) (past : List ℕ) : Type 0 where
  pub count : length seats ≡ length hs
  pub fits : (n : ℕ) (s : NodeCursor) → slice_get seats n ≡ Some s → s ≡ seat_at hs past n
  pub posts : (m : Envelope) → IsPosted posted m ↔ IsSent hs past m
  pub legal : IsLegal hs past

abbrev pub IsFollowed : List (List Claim) → Search → List ℕ → Type 0
IsFollowed hs d past = AreFollowed hs d.seats.items d.posted past

-- one turn more was taken, or can't be
abbrev pub Followed : List (List Claim) → Search → List ℕ → ℕ → Bool → Type 0
Followed hs new past n true = IsFollowed hs new (n ∷ past)
Followed hs new past n false = MayTake hs past n → ⊥

abbrev pub Follows : List (List Claim) → Search → Search → ℕ → Bool → Type 0
Follows hs old new n b = (past : List ℕ) → IsFollowed hs old past → Followed hs new past n b
