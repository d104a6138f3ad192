-- What the calls of a check make of where it stands.
use Rattle.std.proofs.Common.{◌≡◌, ◌≢◌, ◌≤◌, ◌<◌, ◌⊎◌, ◌||◌, ℕ, zero, suc, Bool, true, false, eqb, List, [], ◌∷◌, ◌++◌, length, reverse}
use Rattle.std.proofs.Common.{slice_get, slice_set, slice_index_or, Option, Some, None, inl, inr, refl, sym, ap, ◌∙◌, subst, arith}
use Rattle.std.specs.Prelude.{MatchOption}
use Rattle.std.proofs.lemmas.Bool.{cases_Bool, cases_lt, eqb-true, eq-eqb, lt-ltb}
use Rattle.std.proofs.lemmas.List.{reverse-append}
use Rattle.std.proofs.lemmas.Option.{same_Some, slice_get_within, slice_get_past, slice_get_read}
use Rattle.group_task.specs.Ids.{has, with_id, without_id, ids_below, IsSet}
use Rattle.group_task.specs.declared.node.TheConstants.{NODES}
use Rattle.group_task.proofs.PublicLaws.{has_below, has_ids_below}
use Rattle.wire_msg.specs.Envelope.{Envelope}
use Rattle.histories.specs.Lists.{Each}
use Rattle.histories.specs.NodeState.{opening}
use Rattle.trace_check.specs.declared.search.NodeCursor.{NodeCursor}
use Rattle.trace_check.specs.declared.search.Judgement.TheVariants.{Stops, Waits}
use Rattle.trace_check.specs.Claims.{Claim, MayCome}
use Rattle.trace_check.specs.Orders.{history, claims_of, taken, IsSent, IsLegal, IsStuck}
use Rattle.trace_check.specs.Twins.{Twin}
use Rattle.trace_check.specs.Searches.{twin_at, IsAtRest, IsDesk, IsTaken, Judges, PostsAll}
use Rattle.trace_check.proofs.Searches.{Reseats, same_or_other, twin_in, stop_desk, wait_desk, take_desk}

-- ---- lists of nodes

set_length : (xs : List NodeCursor) (i : ℕ) (v : NodeCursor) → length (slice_set xs i v) ≡ length xs
set_length [] i v = refl
set_length (x ∷ xs) zero v = refl
set_length (x ∷ xs) (suc i) v = ap suc (set_length xs i v)

set_here : (xs : List NodeCursor) (i : ℕ) (v t : NodeCursor) → slice_get (slice_set xs i v) i ≡ Some t → t ≡ v
set_here [] i v t at = absurd cc
set_here (x ∷ xs) zero v t at = sym (same_Some v t at)
set_here (x ∷ xs) (suc i) v t at = set_here xs i v t at

pub set_other : (xs : List NodeCursor) (i : ℕ) (v : NodeCursor) (k : ℕ) → k ≢ i → slice_get (slice_set xs i v) k ≡ slice_get xs k
set_other [] i v k other = refl
set_other (x ∷ xs) zero v zero other = absurd (other refl)
set_other (x ∷ xs) zero v (suc k) other = refl
set_other (x ∷ xs) (suc i) v zero other = refl
set_other (x ∷ xs) (suc i) v (suc k) other = set_other xs i v k (λ same. other (ap suc same))

set_same : (xs : List NodeCursor) (i : ℕ) (v : NodeCursor) → slice_get xs i ≡ Some v → slice_set xs i v ≡ xs
set_same [] i v at = absurd cc
set_same (x ∷ xs) zero v at = ap (λ (s : NodeCursor). s ∷ xs) (sym (same_Some x v at))
set_same (x ∷ xs) (suc i) v at = ap (λ (ss : List NodeCursor). x ∷ ss) (set_same xs i v at)

pub reseats_set : (seats : List NodeCursor) (n : ℕ) (s : NodeCursor) → Reseats seats (slice_set seats n s) n s
reseats_set seats n s = record {
  count = set_length seats n s;
  here = λ t at. set_here seats n s t at;
  others =
      λ k other. set_other seats n s k other;
}

-- ---- the three answers

pub desk_stops : (hs : List (List Claim)) (seats : List NodeCursor) (ready stopped : List ℕ) (posted : List Envelope) (past : List ℕ)
    (n : ℕ) (old new : NodeCursor) → IsDesk hs seats ready stopped posted past → has ready n ≡ true
    → slice_get seats n ≡ Some old → Judges hs posted n old new Stops
    → IsDesk hs (slice_set seats n new) (without_id ready n) (with_id stopped n) posted past
desk_stops hs seats ready stopped posted past n old new search is_ready at judged =
    let fits = search.fits n old at in
    let twin : old.node_model ≡ twin_at hs past n = fits.node_model (search.live n is_ready) in
    stop_desk hs seats (slice_set seats n new) ready stopped posted past n old new search (reseats_set seats n new) at judged.0
    (λ c next possible addressed.
    judged.1 c (subst (λ (k : ℕ). slice_get (history hs n) k ≡ Some c) (sym fits.place) next)
    (subst (λ (w : Twin). MayCome w.id w.nodes w.node c) (sym twin) possible) addressed)

pub desk_waits : (hs : List (List Claim)) (seats : List NodeCursor) (ready stopped : List ℕ) (posted : List Envelope) (past : List ℕ)
    (n : ℕ) (old new : NodeCursor) → IsDesk hs seats ready stopped posted past
    → slice_get seats n ≡ Some old → Judges hs posted n old new Waits
    → IsDesk hs (slice_set seats n new) (without_id ready n) stopped posted past
desk_waits hs seats ready stopped posted past n old new search at judged =
    let fits = search.fits n old at in
    let unsent = judged.1 in
    let same : slice_set seats n new ≡ seats = ap (λ (s : NodeCursor). slice_set seats n s) judged.0 ∙ set_same seats n old at in
    subst (λ (ss : List NodeCursor). IsDesk hs ss (without_id ready n) stopped posted past) (sym same)
    (wait_desk hs seats ready stopped posted past n search (λ may.
    let brought = unsent.brought may.claim (subst (λ (k : ℕ). slice_get (history hs n) k ≡ Some may.claim) (sym fits.place) may.next) in
    let sent : Each (λ (m : Envelope). IsSent hs past m) (unsent.message ∷ []) =
    subst (λ (ms : List Envelope). Each (λ (m : Envelope). IsSent hs past m) ms) brought may.sent in
    unsent.unsent ((search.posts unsent.message).1 sent.0)))

pub desk_takes : (hs : List (List Claim)) (seats : List NodeCursor) (ready ready' stopped : List ℕ) (posted posted' : List Envelope)
    (order : List ℕ) (n : ℕ) (old new : NodeCursor) (c : Claim) → IsDesk hs seats ready stopped posted (reverse order)
    → has ready n ≡ true → ((m : ℕ) → m < n → has ready m ≡ false) → slice_get seats n ≡ Some old → IsTaken hs posted n old new
    → slice_get (history hs n) old.place ≡ Some c
    → PostsAll stopped posted posted' ready ready' c.sent → IsDesk hs (slice_set seats n new) ready' stopped posted'
    (reverse (order ++ n ∷ []))
desk_takes hs seats ready ready' stopped posted posted' order n old new c search is_ready first at t next all =
    let is : c ≡ t.claim = same_Some c t.claim (sym next ∙ t.next) in
    subst (λ (past : List ℕ). IsDesk hs (slice_set seats n new) ready' stopped posted' past) (sym (reverse-append order (n ∷ [])))
    (take_desk hs seats (slice_set seats n new) ready ready' stopped posted posted' (reverse order) n old new search
    (reseats_set seats n new) at is_ready first t
    (subst (λ (d : Claim). PostsAll stopped posted posted' ready ready' d.sent) is all))

-- a node that isn't there has no entries
pub none_past : (hs : List (List Claim)) (n : ℕ) → length hs ≤ n → history hs n ≡ []
none_past hs n past = ap claims_of (slice_get_past hs n past)

pub desk_without : (hs : List (List Claim)) (seats : List NodeCursor) (ready stopped : List ℕ) (posted : List Envelope) (past : List ℕ)
    (n : ℕ) → IsDesk hs seats ready stopped posted past → length seats ≤ n
    → IsDesk hs seats (without_id ready n) stopped posted past
desk_without hs seats ready stopped posted past n search outside =
    let count = search.count in
    wait_desk hs seats ready stopped posted past n search (λ may.
    let none : slice_get [] (taken n past) ≡ Some may.claim =
    subst (λ (h : List Claim). slice_get h (taken n past) ≡ Some may.claim) (none_past hs n (omega (arith, count, outside))) may.next in
    cc)

-- ---- the least node

pub least_first : (ready : List ℕ) (first : Option ℕ) → IsSet ready
    → MatchOption first (ready ≡ []) (λ (id : ℕ). ready ≡ id ∷ without_id ready id)
    → MatchOption first (ready ≡ []) (λ (id : ℕ). (has ready id ≡ true) × ((m : ℕ) → m < id → has ready m ≡ false)
    × (length (without_id ready id) < length ready))
least_first ready None set is = is
least_first ready (Some id) set is =
    let set' : IsSet (id ∷ without_id ready id) = subst (λ (ids : List ℕ). IsSet ids) is set in (
      ap (λ (ids : List ℕ). has ids id) is ∙ ap (λ (b : Bool). b || has (without_id ready id) id) (eq-eqb id id refl),
      λ m less. ap (λ (ids : List ℕ). has ids m) is ∙ has_below m id NODES (id ∷ without_id ready id) less (omega arith, set'.1, set'.2),
      let many : length ready ≡ suc (length (without_id ready id)) = ap (λ (ids : List ℕ). length ids) is in omega (arith, many),
    )

-- ---- the opening

-- each seat is of a node that has just opened
abbrev pub AreOpen : ℕ → List NodeCursor → Type 0
AreOpen nodes seats = (n : ℕ) (s : NodeCursor) → slice_get seats n ≡ Some s
    → s ≡ record { node_model = record { id = n; nodes = nodes; node = opening n }; place = 0 }

last_or_before : (xs : List NodeCursor) (v s : NodeCursor) (n : ℕ) → slice_get (xs ++ v ∷ []) n ≡ Some s
    → (slice_get xs n ≡ Some s) ⊎ ((n ≡ length xs) × (s ≡ v))
last_or_before [] v s zero at = inr (refl, sym (same_Some v s at))
last_or_before [] v s (suc n) at = absurd cc
last_or_before (x ∷ xs) v s zero at = inl at
last_or_before (x ∷ xs) v s (suc n) at = elim (last_or_before xs v s n at) [ inl before ↦ inl before | inr now ↦ inr (ap suc now.0, now.1) ]

pub open_more : (nodes : ℕ) (seats : List NodeCursor) (s : NodeCursor) → AreOpen nodes seats
    → s ≡ record { node_model = record { id = length seats; nodes = nodes; node = opening (length seats) }; place = 0 }
    → AreOpen nodes (seats ++ s ∷ [])
open_more nodes seats s each is n t at = elim (last_or_before seats s t n at) [
  | inl before ↦ each n t before
  | inr now ↦ now.1 ∙ is ∙ ap (λ (k : ℕ). record { node_model = record { id = k; nodes = nodes; node = opening k }; place = 0 }) (sym now.0)
]

pub desk_opens : (hs : List (List Claim)) (nodes : ℕ) (seats : List NodeCursor) → nodes ≡ length hs → length seats ≡ length hs
    → AreOpen nodes seats → IsDesk hs seats (ids_below nodes) [] [] []
desk_opens hs nodes seats size count each = record {
  count = count;
  fits = λ n s at. record {
    place = ap (λ (x : NodeCursor). x.place) (each n s at);
    node_model = λ _. ap (λ (x : NodeCursor). x.node_model) (each n s at) ∙ ap (λ (k : ℕ). twin_in n k (opening n)) size;
  };
  legal = tt;
  least = tt;
  posts = λ m. (λ there. absurd cc, λ sent. let before = sent.before in absurd (omega (arith, before)));
  live = λ n _. refl;
  waits = λ n not_ready may.
      elim (cases_lt n nodes) [
        | inl less ↦ absurd (let is : true ≡ false = sym (lt-ltb n nodes less) ∙ sym (has_ids_below nodes n) ∙ not_ready in cc)
        | inr outside ↦ (let none : slice_get [] 0 ≡ Some may.claim =
            subst (λ (h : List Claim). slice_get h 0 ≡ Some may.claim) (none_past hs n (omega (arith, size, outside))) may.next in
            absurd cc)
      ];
  dead = λ n gone. absurd cc;
}

-- ---- the end

pub legal_within : (hs : List (List Claim)) (past : List ℕ) (n : ℕ) → IsLegal hs past → taken n past ≤ length (history hs n)
legal_within hs [] n legal = omega arith
legal_within hs (m ∷ past) n legal = elim (cases_Bool (eqb m n)) [
  | inl same ↦ rw same (
      let less : taken m past < length (history hs m) = slice_get_within (history hs m) (taken m past) legal.0.claim legal.0.next in
      let less' : taken n past < length (history hs n) = subst (λ (j : ℕ). taken j past < length (history hs j)) (eqb-true m n same) less in
      omega (arith, less')
      )
  | inr other ↦ rw other (legal_within hs past n legal.1)
]

none_left : (h : List Claim) (k : ℕ) → slice_get h k ≡ None → length h ≤ k
none_left [] k none = omega arith
none_left (c ∷ h) zero none = absurd cc
none_left (c ∷ h) (suc k) none = let less = none_left h k none in omega (arith, less)

pub all_taken : (hs : List (List Claim)) (past : List ℕ) (n k : ℕ) → IsLegal hs past → k ≡ taken n past → slice_get (history hs n) k ≡ None
    → taken n past ≡ length (history hs n)
all_taken hs past n k legal is none =
    let few = legal_within hs past n legal in
    let many = none_left (history hs n) k none in
    omega (arith, few, many, is)

pub outside_taken : (hs : List (List Claim)) (past : List ℕ) (n : ℕ) → IsLegal hs past → length hs ≤ n
    → taken n past ≡ length (history hs n)
outside_taken hs past n legal outside =
    let few = legal_within hs past n legal in
    let none : length (history hs n) ≡ 0 = ap (λ (h : List Claim). length h) (none_past hs n outside) in
    omega (arith, few, none)

pub desk_stuck : (hs : List (List Claim)) (seats : List NodeCursor) (ready stopped : List ℕ) (posted : List Envelope) (past : List ℕ)
    → IsDesk hs seats ready stopped posted past → ready ≡ [] → IsStuck hs past
desk_stuck hs seats ready stopped posted past search none n may = search.waits n (ap (λ (ids : List ℕ). has ids n) none) may

pub desk_rests : (hs : List (List Claim)) (seats : List NodeCursor) (ready stopped : List ℕ) (posted : List Envelope) (past : List ℕ)
    → IsDesk hs seats ready stopped posted past → ready ≡ [] → IsAtRest hs seats past
desk_rests hs seats ready stopped posted past search none = record {
  count = search.count;
  places = λ n s at. (search.fits n s at).place;
  legal = search.legal;
  least = search.least;
  stuck = desk_stuck hs seats ready stopped posted past search none;
}

-- a node model may change there
pub rests_spoiled : (hs : List (List Claim)) (seats : List NodeCursor) (past : List ℕ) (n : ℕ) (old new : NodeCursor)
    → IsAtRest hs seats past → slice_get seats n ≡ Some old → new.place ≡ old.place → IsAtRest hs (slice_set seats n new) past
rests_spoiled hs seats past n old new rests at same = record {
  count = set_length seats n new ∙ rests.count;
  places = λ k s here. elim (same_or_other k n) [
    | inl is ↦ ap (λ (t : NodeCursor). t.place) (set_here seats n new s
        (subst (λ (j : ℕ). slice_get (slice_set seats n new) j ≡ Some s) is here)) ∙ same ∙ rests.places n old at
        ∙ ap (λ (j : ℕ). taken j past) (sym is)
    | inr other ↦ rests.places k s (sym (set_other seats n new k other) ∙ here)
  ];
  legal = rests.legal;
  least = rests.least;
  stuck = rests.stuck;
}

-- the same under other names
pub desk_same : (hs : List (List Claim)) (s s' : List NodeCursor) (r r' t t' : List ℕ) (p p' : List Envelope) (past : List ℕ) → s' ≡ s
    → r' ≡ r → t' ≡ t → p' ≡ p → IsDesk hs s r t p past → IsDesk hs s' r' t' p' past
desk_same hs s s' r r' t t' p p' past es er et ep search =
    subst (λ (x : List NodeCursor). IsDesk hs x r' t' p' past) (sym es)
    (subst (λ (x : List ℕ). IsDesk hs s x t' p' past) (sym er)
    (subst (λ (x : List ℕ). IsDesk hs s r x p' past) (sym et) (subst (λ (x : List Envelope). IsDesk hs s r t x past) (sym ep) search)))

-- the seat at a place of the list
pub seat_at : (seats : List NodeCursor) (k n : ℕ) (s : NodeCursor) → k ≡ n → k < length seats → s ≡ slice_index_or seats k s
    → slice_get seats n ≡ Some s
seat_at seats k n s is within at = subst (λ (j : ℕ). slice_get seats j ≡ Some s) is (slice_get_read seats (length seats) k s refl within at)

-- so where a loop comes to it that goes over the nodes
pub seat_numbered : (hs : List (List Claim)) (seats : List NodeCursor) (k n end : ℕ) (s : NodeCursor) → length seats ≡ length hs
    → end ≡ length hs → k ≡ n → n < end → s ≡ slice_index_or seats k s → slice_get seats n ≡ Some s
seat_numbered hs seats k n end s count size is less at = seat_at seats k n s is (omega (arith, count, size, is, less)) at
