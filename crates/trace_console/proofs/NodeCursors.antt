-- The nodes after one turn more.
use Rattle.std.proofs.Common.{◌≡◌, ◌≢◌, ◌<◌, ◌==◌, ℕ, ◌+◌, true, List, [], ◌∷◌, ◌++◌, length, reverse, slice_get, slice_set, slice_index_or}
use Rattle.std.proofs.Common.{Some, inl, inr, refl, sym, ap, ◌∙◌, subst, arith, length-append}
use Rattle.std.proofs.lemmas.Bool.{cases_Bool, cases_lt, eqb-true}
use Rattle.std.proofs.lemmas.Bool.Decides.{nat_tests}
use Rattle.std.proofs.lemmas.Option.{slice_get_read}
use Rattle.histories.specs.NodeState.{opening}
use Rattle.trace_check.specs.Claims.{Claim, after_claim}
use Rattle.trace_check.specs.Followed.{before}
use Rattle.trace_check.specs.Orders.{history, taken, state_of, IsLegal, MayTake}
use Rattle.trace_check.specs.Twins.{Twin}
use Rattle.trace_check.proofs.PublicLaws.{may_take, twin_in, turns, none_past}
use Rattle.trace_console.specs.declared.walk.NodeCursor.{NodeCursor}
use Rattle.trace_console.specs.Turns.{AreSeats, seat_at}
use Rattle.trace_console.proofs.Lists.{set_length, set_at, last_or_before}

-- ---- nodes

pub taken_same : (n : ℕ) (past : List ℕ) → taken n (n ∷ past) ≡ taken n past + 1
taken_same n past = let same : (n == n) ≡ true = grind (arith, nat_tests) in rw same refl

pub taken_other : (k n : ℕ) (past : List ℕ) → k ≢ n → taken k (n ∷ past) ≡ taken k past
taken_other k n past other = elim (cases_Bool (n == k)) [ inl same ↦ absurd (other (sym (eqb-true n k same))) | inr apart ↦ rw apart refl ]

-- a node after its turn
pub seat_more : (hs : List (List Claim)) (past : List ℕ) (n : ℕ) (c : Claim) (t : Twin) → slice_get (history hs n) (taken n past) ≡ Some c
    → t.id ≡ n → t.nodes ≡ length hs
    → t.node ≡ after_claim n (length hs) (state_of hs n (taken n past)) c
    → record { node_model = t; index = taken n past + 1 } ≡ seat_at hs (n ∷ past) n
seat_more hs past n c t at id nodes node =
    (λ i. record {
      node_model = record { id = id i; nodes = nodes i; node = (node ∙ sym (turns hs past n c at).state) i };
      index =
          taken n past + 1;
    })
    ∙ ap (λ (k : ℕ). record { node_model = twin_in n (length hs) (state_of hs n k); index = k }) (sym (taken_same n past))

pub seat_after : (hs : List (List Claim)) (past : List ℕ) (n : ℕ) (c : Claim) (s : NodeCursor) (t : Twin) → s ≡ seat_at hs past n
    → slice_get (history hs n) s.index ≡ Some c → t.id ≡ s.node_model.id → t.nodes ≡ s.node_model.nodes
    → t.node ≡ after_claim s.node_model.id s.node_model.nodes s.node_model.node c
    → record { node_model = t; index = s.index + 1 } ≡ seat_at hs (n ∷ past) n
seat_after hs past n c s t is at id nodes node =
    ap (λ (x : NodeCursor). record { node_model = t; index = x.index + 1 }) is
    ∙ seat_more hs past n c t (ap (λ (x : NodeCursor). slice_get (history hs n) x.index) (sym is) ∙ at)
    (id ∙ ap (λ (x : NodeCursor). x.node_model.id) is) (nodes ∙ ap (λ (x : NodeCursor). x.node_model.nodes) is)
    (node ∙ ap (λ (x : NodeCursor). after_claim x.node_model.id x.node_model.nodes x.node_model.node c) is)

pub seats_more : (hs : List (List Claim)) (past : List ℕ) (n : ℕ) (seats : List NodeCursor) (s : NodeCursor) → AreSeats hs past seats
    → s ≡ seat_at hs (n ∷ past) n → AreSeats hs (n ∷ past) (slice_set seats n s)
seats_more hs past n seats s are is = (
  set_length seats n s ∙ are.0,
  λ k t at. elim (set_at seats n s k t at) [
    | inl here ↦ here.1 ∙ is ∙ ap (λ (j : ℕ). seat_at hs (n ∷ past) j) (sym here.0)
    | inr other ↦ are.1 k t other.1 ∙ ap (λ (p : ℕ). record { node_model = twin_in k (length hs) (state_of hs k p); index = p })
        (sym (taken_other k n past other.0))
  ],
)

-- ---- the opening

abbrev pub AreOpen : ℕ → List NodeCursor → Type 0
AreOpen nodes seats = (n : ℕ) (s : NodeCursor) → slice_get seats n ≡ Some s
    → s ≡ record { node_model = record { id = n; nodes = nodes; node = opening n }; index = 0 }

open_more : (nodes : ℕ) (seats : List NodeCursor) (s : NodeCursor) → AreOpen nodes seats
    → s ≡ record { node_model = record { id = length seats; nodes = nodes; node = opening (length seats) }; index = 0 }
    → AreOpen nodes (seats ++ s ∷ [])
open_more nodes seats s each is n t at = elim (last_or_before seats s t n at) [
  | inl early ↦ each n t early
  | inr now ↦ now.1 ∙ is ∙ ap (λ (k : ℕ). record { node_model = record { id = k; nodes = nodes; node = opening k }; index = 0 }) (sym now.0)
]

pub opens : (nodes number : ℕ) (seats new : List NodeCursor) (s : NodeCursor) → (length seats ≡ number) × AreOpen nodes seats
    → new ≡ seats ++ s ∷ [] → s ≡ record { node_model = record { id = number; nodes = nodes; node = opening number }; index = 0 }
    → (length new ≡ number + 1) × AreOpen nodes new
opens nodes number seats new s so_far pushed is =
    rw pushed (
      length-append seats (s ∷ []) ∙ ap (λ (k : ℕ). k + 1) so_far.0,
      open_more nodes seats s so_far.1 (is ∙ ap (λ (k : ℕ). record {
        node_model =
            record { id = k; nodes = nodes; node = opening k };
        index = 0;
      }) (sym so_far.0)),
    )

-- ---- which node is next

pub node_within : (hs : List (List Claim)) (past : List ℕ) (n : ℕ) → MayTake hs past n → n < length hs
node_within hs past n may = elim (cases_lt n (length hs)) [
  | inl less ↦ less
  | inr outside ↦ (let none : slice_get [] (taken n past) ≡ Some may.claim =
      subst (λ (h : List Claim). slice_get h (taken n past) ≡ Some may.claim) (none_past hs n outside) may.next in absurd cc)
]

seat_here : (seats : List NodeCursor) (k n : ℕ) (s : NodeCursor) → k ≡ n → k < length seats → s ≡ slice_index_or seats k s
    → slice_get seats n ≡ Some s
seat_here seats k n s is within at = subst (λ (j : ℕ). slice_get seats j
    ≡ Some s) is (slice_get_read seats (length seats) k s refl within at)

-- the node of a turn can take it, and stands before it
turn_seat : (hs : List (List Claim)) (order : List ℕ) (number node : ℕ) (seats : List NodeCursor) (k : ℕ) (s : NodeCursor)
    → IsLegal hs (reverse order) → slice_get order number ≡ Some node → AreSeats hs (before order number) seats → k ≡ node
    → s ≡ slice_index_or seats k s → MayTake hs (before order number) node × (s ≡ seat_at hs (before order number) node)
turn_seat hs order number node seats k s legal now are here at =
    let may = may_take hs order number node legal now in
    let within = node_within hs (before order number) node may in
    let count = are.0 in (may, are.1 node s (seat_here seats k node s here (omega (arith, within, count, here)) at))

-- as they are read
pub seat_read : (hs : List (List Claim)) (order : List ℕ) (number node : ℕ) (seats : List NodeCursor) (k : ℕ) (s : NodeCursor)
    → IsLegal hs (reverse order) → number < length order → node ≡ slice_index_or order number node → AreSeats hs (before order number) seats
    → k ≡ node
    → s ≡ slice_index_or seats k s → (slice_get order number ≡ Some node) × MayTake hs (before order number) node
    × (s ≡ seat_at hs (before order number) node)
seat_read hs order number node seats k s legal less there are here at =
    let now = slice_get_read order (length order) number node refl less there in
    let seat = turn_seat hs order number node seats k s legal now are here at in (now, seat.0, seat.1)
