-- Entries of one node that can't be, whatever the other nodes do.
use Rattle.std.proofs.Common.{◌≡◌, ◌<◌, ◌≤◌, ◌==◌, ◌⊎◌, ℕ, zero, suc, ◌+◌, ◌-◌, Bool, true, false, List, [], ◌∷◌, ◌++◌, length, take, drop}
use Rattle.std.proofs.Common.{Option, Some, None, slice_get, reverse, inl, inr, refl, sym, ap, ◌∙◌, subst, arith, append_assoc}
use Rattle.std.proofs.Math.Seq.{take-append_seam, take-nil, take-suc}
use Rattle.std.proofs.lemmas.List.{length_push}
use Rattle.std.proofs.lemmas.Bool.{cases_Bool, cases_lt, eqb-true}
use Rattle.std.proofs.lemmas.Option.{same_Some, get_or_from_slice_get, slice_get_within}
use Rattle.histories.specs.Lists.{IsAmong}
use Rattle.histories.specs.NodeState.{NodeState, opening}
use Rattle.histories.specs.HistoryEvent.{AreAddressed}
use Rattle.trace_check.specs.declared.contradiction.Contradiction.{Contradiction}
use Rattle.trace_check.specs.declared.contradiction.TheConstants.{MOST_ENTRIES}
use Rattle.trace_check.specs.declared.leftover.Leftover.{Leftover}
use Rattle.trace_check.specs.Claims.{Claim, MayCome, state_after, after_claim, brought_by}
use Rattle.trace_check.specs.Contradictions.{CantBe, IsContradiction, IsCore, IsLastOpening, IsOpenedAt, IsStart, IsStopped, LeftoversStop}
use Rattle.trace_check.specs.Twins.{opened}
use Rattle.trace_check.specs.Kept.{part}
use Rattle.trace_check.specs.Followed.{before}
use Rattle.trace_check.specs.Leftovers.{AddsLeft, AreLeftBelow, CanReplay, HoldsUp}
use Rattle.trace_check.specs.Orders.{history, claims_of, taken, state_of, MayTake, IsLegal}
use Rattle.trace_check.specs.Searches.{twin_after}
use Rattle.trace_check.specs.Twins.{Twin}
use Rattle.trace_check.proofs.Leftovers.{can_replay, hold}
use Rattle.trace_check.proofs.Prefixes.{legal_before}

-- ---- parts of a list

take_both : {A : Type 0} → (n m : ℕ) (xs : List A) → take (n + m) xs ≡ take n xs ++ take m (drop n xs)
take_both zero m xs = let e : zero + m ≡ m = omega arith in rw e refl
take_both (suc n) m [] = let e : suc n + m ≡ suc (n + m) = omega arith in rw e (sym (take-nil m))
take_both (suc n) m (x ∷ xs) = let e : suc n + m ≡ suc (n + m) = omega arith in rw e (ap (λ (ys : List _). x ∷ ys) (take_both n m xs))

get_drop : {A : Type 0} → (n m : ℕ) (xs : List A) → slice_get (drop n xs) m ≡ slice_get xs (n + m)
get_drop zero m xs = let e : zero + m ≡ m = omega arith in rw e refl
get_drop (suc n) m [] = refl
get_drop (suc n) m (x ∷ xs) = let e : suc n + m ≡ suc (n + m) = omega arith in rw e (get_drop n m xs)

pub part_whole : {A : Type 0} → (first index : ℕ) (h : List A) → first ≤ index → take index h ≡ take first h ++ part first index h
part_whole first index h within = let e : index ≡ first + (index - first) = omega (arith, within) in
    ap (λ (k : ℕ). take k h) e ∙ take_both first (index - first) h

pub part_more : {A : Type 0} → (first index : ℕ) (h : List A) (c : A) → first ≤ index → slice_get h index ≡ Some c
    → part first (index + 1) h ≡ part first index h ++ c ∷ []
part_more first index h c within at =
    let rest = drop first h in
    let m = index - first in
    let more : index + 1 - first ≡ suc m = omega (arith, within) in
    let place : first + m ≡ index = omega (arith, within) in
    let there : slice_get rest m ≡ Some c = get_drop first m h ∙ ap (λ (k : ℕ). slice_get h k) place ∙ at in
    ap (λ (k : ℕ). take k rest) more ∙ take-suc rest m c (slice_get_within rest m c there)
    ∙ ap (λ (d : _). take m rest ++ d ∷ []) (get_or_from_slice_get rest m c c there)

pub part_none : {A : Type 0} → (first : ℕ) (h : List A) → part first first h ≡ []
part_none first h = let e : first - first ≡ zero = omega arith in rw e refl

-- one element more was copied
pub taken_more : {A : Type 0} → (xs old new : List A) (k : ℕ) (x : A) → old ≡ take k xs → slice_get xs k ≡ Some x → new ≡ old ++ x ∷ []
    → new ≡ take (k + 1) xs
taken_more xs old new k x is at added =
    let more : k + 1 ≡ suc k = omega arith in
    added ∙ ap (λ (ys : List _). ys ++ x ∷ []) is
    ∙ sym (ap (λ (j : ℕ). take j xs) more ∙ take-suc xs k x (slice_get_within xs k x at)
    ∙ ap (λ (d : _). take k xs ++ d ∷ []) (get_or_from_slice_get xs k x x at))

pub copied_more : {A : Type 0} → (h old new : List A) (first place : ℕ) (c : A) → first ≤ place → old ≡ part first place h
    → slice_get h place ≡ Some c → new ≡ old ++ c ∷ [] → new ≡ part first (place + 1) h
copied_more h old new first place c within is at added = added ∙ ap (λ (xs : List _). xs ++ c ∷ []) is
    ∙ sym (part_more first place h c within at)

get_seam : {A : Type 0} → (xs : List A) (c : A) (ys : List A) → slice_get (xs ++ c ∷ ys) (length xs) ≡ Some c
get_seam [] c ys = refl
get_seam (x ∷ xs) c ys = get_seam xs c ys

-- ---- what was taken

addressed_by : (hs : List (List Claim)) (past : List ℕ) (n k : ℕ) (c : Claim) → MayTake hs past n → k ≡ taken n past
    → slice_get (history hs n) k ≡ Some c → AreAddressed n (brought_by c.action)
addressed_by hs past n k c may here at =
    let same : may.claim ≡ c = same_Some _ _ (sym may.next ∙ ap (λ (j : ℕ). slice_get (history hs n) j) (sym here) ∙ at) in
    subst (λ (d : Claim). AreAddressed n (brought_by d.action)) same may.addressed

-- what an entry was brought that an order takes is for its node
are_addressed : (hs : List (List Claim)) (past : List ℕ) (n k : ℕ) (c : Claim) → IsLegal hs past → k < taken n past
    → slice_get (history hs n) k ≡ Some c → AreAddressed n (brought_by c.action)
are_addressed hs [] n k c legal less at = absurd (omega (arith, less))
are_addressed hs (m ∷ past) n k c legal less at = elim (cases_Bool (m == n)) [
  | inl same ↦ (
      let within : k < taken n past + 1 = rw same at less in
      elim (cases_lt k (taken n past)) [
        | inl before ↦ are_addressed hs past n k c legal.1 before at
        | inr now ↦ addressed_by hs past n k c (subst (λ (j : ℕ). MayTake hs past j) (eqb-true m n same) legal.0)
            (omega (arith, within, now)) at
      ]
      )
  | inr other ↦ are_addressed hs past n k c legal.1 (rw other at less) at
]

state_append : (self nodes : ℕ) (s : NodeState) (xs ys : List Claim)
    → state_after self nodes s (xs ++ ys) ≡ state_after self nodes (state_after self nodes s xs) ys
state_append self nodes s [] ys = refl
state_append self nodes s (c ∷ xs) ys = state_append self nodes (after_claim self nodes s c) xs ys

-- ---- what can't be

-- an entry of one trace is the last of so many of its node in another one, behind the same state
pub record StandsAgain (hs gs : List (List Claim)) (n index : ℕ) (c : Claim) (many : ℕ) : Type 0 where
  pub place : ℕ
  pub last : place + 1 ≡ many
  pub at : slice_get (history gs n) place ≡ Some c
  pub state : state_of gs n place ≡ state_of hs n index

-- so it is behind those before it, from a place on where its node stood so
pub stands_again : (hs gs : List (List Claim)) (n first index : ℕ) (c : Claim) (front behind : List Claim) → first ≤ index
    → slice_get (history hs n) index ≡ Some c → length gs ≡ length hs
    → history gs n ≡ front ++ (part first (index + 1) (history hs n) ++ behind)
    → state_after n (length hs) (opening n) front ≡ state_of hs n first
    → StandsAgain hs gs n index c (length (front ++ part first (index + 1) (history hs n)))
stands_again hs gs n first index c front behind within at count is stands =
    let h = history hs n in
    let nodes = length hs in
    let since = part first index h in
    let early = front ++ since in
    let more = part_more first index h c within at in
    let whole : history gs n ≡ early ++ (c ∷ behind) = is ∙ ap (λ (xs : List Claim). front ++ (xs ++ behind)) more
    ∙ ap (λ (xs : List Claim). front ++ xs) (append_assoc since (c ∷ []) behind) ∙ sym (append_assoc front since (c ∷ behind)) in
    let there : take (length early) (history gs n) ≡ early =
    ap (λ (xs : List Claim). take (length early) xs) whole ∙ take-append_seam early (c ∷ behind) in
    let state : state_of hs n index ≡ state_after n nodes (state_of hs n first) since =
    ap (λ (xs : List Claim). state_after n nodes (opening n) xs) (part_whole first index h within)
    ∙ state_append n nodes (opening n) (take first h) since in
    record {
      place = length early;
      last = sym (ap (λ (xs : List Claim). length (front ++ xs)) more
          ∙ ap (λ (xs : List Claim). length xs) (sym (append_assoc front since (c ∷ [])))
          ∙ length_push early c);
      at = ap (λ (xs : List Claim). slice_get xs (length early)) whole ∙ get_seam early c behind;
      state = ap (λ (xs : List Claim). state_after n (length gs) (opening n) xs) there
          ∙ ap (λ (m : ℕ). state_after n m (opening n) early) count ∙ state_append n nodes (opening n) front since
          ∙ ap (λ (t : NodeState). state_after n nodes t since) stands ∙ sym state;
    }

-- the state behind one entry more
pub state_more : (hs : List (List Claim)) (n k : ℕ) (c : Claim) → slice_get (history hs n) k ≡ Some c
    → state_of hs n (k + 1) ≡ after_claim n (length hs) (state_of hs n k) c
state_more hs n k c at = ap (λ (xs : List Claim). state_after n (length hs) (opening n) xs)
    (sym (taken_more (history hs n) (take k (history hs n)) (take k (history hs n) ++ c ∷ []) k c refl at refl))
    ∙ state_append n (length hs) (opening n) (take k (history hs n)) (c ∷ [])

-- those of a history from one place up to an entry that can't come
pub cant_part : (hs : List (List Claim)) (n first index : ℕ) (s : NodeState) → IsStopped hs n index → first ≤ index
    → s ≡ state_of hs n first → CantBe (length hs) n s (part first (index + 1) (history hs n))
cant_part hs n first index s stopped within is gs front behind count whole stands run =
    let c = stopped.claim in
    let again = stands_again hs gs n first index c front behind within stopped.next count whole (stands ∙ is) in
    let k = again.place in
    let all = run.2 n in
    let some = slice_get_within (history gs n) k c again.at in
    let less : k < taken n run.0 = omega (arith, all, some) in
    let may = can_replay gs run.0 n run.1 k c less again.at in
    stopped.dead (subst (λ (t : NodeState). MayCome n (length hs) t c) again.state
    (subst (λ (m : ℕ). MayCome n m (state_of gs n k) c) count may))
    (are_addressed gs run.0 n k c run.1 less again.at)

-- the entries before that which a turn takes can come one behind another
pub replays_to : (hs : List (List Claim)) (order : List ℕ) (k n : ℕ) → IsLegal hs (reverse order)
    → CanReplay hs n (taken n (before order k))
replays_to hs order k n legal = can_replay hs (before order k) n (legal_before hs order k legal)

-- ---- what is left

in_some : (o : Option (List Claim)) (k : ℕ) → k < length (claims_of o) → (h : List Claim) × (o ≡ Some h)
in_some None k less = absurd (omega (arith, less))
in_some (Some h) k less = (h, refl)

-- a node with an entry is one of the cluster
pub stopped_within : (hs : List (List Claim)) (n index : ℕ) → index < length (history hs n) → n < length hs
stopped_within hs n index there = let found = in_some (slice_get hs n) index there in slice_get_within hs n found.0 found.1

among_front : {A : Type 0} → (x y : A) (xs : List A) → IsAmong x (xs ++ y ∷ []) → IsAmong x xs ⊎ (x ≡ y)
among_front x y [] (inl here) = inr here
among_front x y [] (inr none) = absurd none
among_front x y (z ∷ xs) (inl here) = inl (inl here)
among_front x y (z ∷ xs) (inr later) = elim (among_front x y xs later) [ inl before ↦ inl (inr before) | inr last ↦ inr last ]

-- it is the next entry of its node, and this holds it up
record IsNextLeft (hs : List (List Claim)) (past : List ℕ) (l : Leftover) : Type 0 where
  claim : Claim
  index : l.index ≡ taken l.node past
  next : slice_get (history hs l.node) (taken l.node past) ≡ Some claim
  holds : HoldsUp l.node (length hs) (state_of hs l.node (taken l.node past)) claim l.holdup

adds_left : (hs : List (List Claim)) (past : List ℕ) (n : ℕ) (o : Option Claim) (front left : List Leftover) (l : Leftover)
    → slice_get (history hs n) (taken n past) ≡ o → AddsLeft hs past n o front left → IsAmong l left
    → IsAmong l front ⊎ IsNextLeft hs past l
adds_left hs past n None front left l at adds among = inl (subst (λ (ls : List Leftover). IsAmong l ls) adds among)
adds_left hs past n (Some c) front left l at adds among =
    let r : Leftover = record { node = n; index = taken n past; holdup = adds.0 } in
    elim (among_front l r front (subst (λ (ls : List Leftover). IsAmong l ls) adds.1 among)) [
      | inl before ↦ inl before
      | inr last ↦ inr (subst (λ (x : Leftover). IsNextLeft hs past x) (sym last) (record {
        claim = c;
        index = refl;
        next = at;
        holds =
            adds.2.0;
      }))
    ]

left_next : (hs : List (List Claim)) (past : List ℕ) (n : ℕ) (left : List Leftover) (l : Leftover) → AreLeftBelow hs past n left
    → IsAmong l left → IsNextLeft hs past l
left_next hs past zero left l below among = absurd (subst (λ (ls : List Leftover). IsAmong l ls) below among)
left_next hs past (suc n) left l below among = elim (adds_left hs past n (slice_get (history hs n) (taken n past)) below.0 left l refl
    below.2 among) [
      | inl before ↦ left_next hs past n below.0 l below.1 before
      | inr next ↦ next
    ]

pub stop : LeftoversStop
stop hs left l are among waits =
    let past = are.0 in
    let next = left_next hs past (length hs) left l are.3 among in
    subst (λ (k : ℕ). IsStopped hs l.node k) (sym next.index)
    (record {
      claim = next.claim;
      next = next.next;
      before = can_replay hs past l.node are.1;
      dead =
          hold l.node (length hs) (state_of hs l.node (taken l.node past)) next.claim l.holdup waits next.holds;
    })

-- ---- the last opening

pub opened_at : (hs : List (List Claim)) (n k : ℕ) (t : Twin) → t ≡ twin_after hs n k → t.node ≡ opened t.id t.node.durable
    → IsOpenedAt hs n k
opened_at hs n k t is stands = subst (λ (u : Twin). u.node ≡ opened u.id u.node.durable) is stands

pub unopened_at : (hs : List (List Claim)) (n k : ℕ) (t : Twin) → t ≡ twin_after hs n k → (t.node ≡ opened t.id t.node.durable → ⊥)
    → IsOpenedAt hs n k → ⊥
unopened_at hs n k t is stands = subst (λ (u : Twin). u.node ≡ opened u.id u.node.durable → ⊥) is stands

pub opens_now : (hs : List (List Claim)) (n k : ℕ) → IsOpenedAt hs n k → IsLastOpening hs n k k
opens_now hs n k stands = record { within = omega arith; stands = stands; last = λ j after up_to. absurd (omega (arith, after, up_to)) }

pub opens_no_more : (hs : List (List Claim)) (n k first : ℕ) → IsLastOpening hs n k first → (IsOpenedAt hs n (k + 1) → ⊥)
    → IsLastOpening hs n (k + 1) first
opens_no_more hs n k first opening not = record {
  within = let within = opening.within in omega (arith, within);
  stands = opening.stands;
  last = λ j after up_to. elim (cases_lt k j) [
    | inl later ↦ (let here : j ≡ k + 1 = omega (arith, later, up_to) in subst (λ (m : ℕ). IsOpenedAt hs n m → ⊥) (sym here) not)
    | inr earlier ↦ opening.last j after (omega (arith, earlier))
  ];
}

pub not_true : (b : Bool) → b ≡ false → b ≡ true → ⊥
not_true true low high = absurd cc
not_true false low high = absurd cc

-- ---- what is found

pub cant_core : (hs : List (List Claim)) (n index : ℕ) (c : Contradiction) → IsStopped hs n index → IsCore hs n index c
    → IsContradiction hs n index c
cant_core hs n index c stopped core = record {
  core = core;
  cant = cant_part hs n c.first index c.before.node stopped core.start.few.0 (ap (λ (t : Twin). t.node) core.before);
}

-- ---- where the entries begin

pub starts_there : (hs : List (List Claim)) (n index opening : ℕ) → IsLastOpening hs n index opening → index - opening < MOST_ENTRIES
    → IsStart hs n index opening
starts_there hs n index opening last near = let within = last.within in
    record { opening = opening; last = last; few = (within, omega (arith, within, near)); whole = inl refl }

pub starts_later : (hs : List (List Claim)) (n index opening first : ℕ) → IsLastOpening hs n index opening → MOST_ENTRIES ≤ index - opening
    → first ≡ index - (MOST_ENTRIES - 1) → IsStart hs n index first
starts_later hs n index opening first last far is =
    let within = last.within in record {
      opening = opening;
      last = last;
      few = (omega (arith, far, is), omega (arith, far, is));
      whole =
          inr (omega (arith, within, far, is), omega (arith, far, is));
    }
