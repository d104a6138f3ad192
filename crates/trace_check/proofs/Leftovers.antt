-- What is left where no entry more can be taken.
use Rattle.std.proofs.Common.{◌≡◌, ◌<◌, ◌≤◌, ◌==◌, ℕ, suc, ◌+◌, Bool, true, false, List, [], ◌∷◌, ◌++◌, length, Option, Some, None}
use Rattle.std.proofs.Common.{slice_get, slice_set, inl, inr, refl, sym, ap, ◌∙◌, subst, arith}
use Rattle.std.specs.Prelude.{IfSome, IsSomeAnd}
use Rattle.std.proofs.lemmas.Bool.{cases_Bool, cases_lt, eqb-true}
use Rattle.std.proofs.lemmas.Option.{same_Some}
use Rattle.wire_msg.specs.Envelope.{Envelope}
use Rattle.histories.specs.Lists.{Each}
use Rattle.histories.specs.NodeState.{NodeState, opening}
use Rattle.histories.specs.HistoryEvent.{brought}
use Rattle.histories.specs.declared.history_event.HistoryEvent.{HistoryEvent}
use Rattle.histories.specs.After.{sent_at}
use Rattle.histories.specs.Possible.{IsPossible}
use Rattle.node_core.specs.declared.event.Event.{Event}
use Rattle.node_core.specs.declared.event.Event.TheVariants as on
use Rattle.trace_check.specs.declared.trace.TraceAction.{TraceAction}
use Rattle.trace_check.specs.declared.trace.TraceAction.TheVariants as action
use Rattle.trace_check.specs.declared.trace.RecoverFault.TheVariants as recover
use Rattle.trace_check.specs.declared.leftover.Holdup.{Holdup}
use Rattle.trace_check.specs.declared.leftover.Holdup.TheVariants.{Waits, Misaddressed, Refused, Sends}
use Rattle.trace_check.specs.declared.leftover.Leftover.{Leftover}
use Rattle.trace_check.specs.declared.search.NodeCursor.{NodeCursor}
use Rattle.trace_check.specs.Claims.{Claim, MayCome, what_at, what_of, after_claim, brought_by}
use Rattle.trace_check.specs.Orders.{history, taken, state_of, IsSent, MayTake, IsLegal, IsStuck}
use Rattle.trace_check.specs.Leftovers.{HoldsUp, HoldupsHold, IsMissing, IsHeldUp, AddsLeft, AreLeftBelow, CanReplay, IsFound}
use Rattle.trace_check.specs.Searches.{IsAtRest, twin_after}
use Rattle.trace_check.specs.Twins.{Twin}
use Rattle.trace_check.proofs.Turning.{state_more}
use Rattle.trace_check.proofs.Turns.{rests_spoiled, set_other}

-- ---- a history that is brought forward again

taken_by : (hs : List (List Claim)) (past : List ℕ) (n k : ℕ) (c : Claim) → MayTake hs past n → k ≡ taken n past
    → slice_get (history hs n) k ≡ Some c → MayCome n (length hs) (state_of hs n k) c
taken_by hs past n k c may here at =
    let same : may.claim ≡ c = same_Some _ _ (sym may.next ∙ ap (λ (j : ℕ). slice_get (history hs n) j) (sym here) ∙ at) in
    subst (λ (d : Claim). MayCome n (length hs) (state_of hs n k) d) same
    (subst (λ (j : ℕ). MayCome n (length hs) (state_of hs n j) may.claim) (sym here) may.possible)

-- each entry that an order takes may come after those before it
pub can_replay : (hs : List (List Claim)) (past : List ℕ) (n : ℕ) → IsLegal hs past → CanReplay hs n (taken n past)
can_replay hs [] n legal k c less at = absurd (omega (arith, less))
can_replay hs (m ∷ past) n legal k c less at = elim (cases_Bool (m == n)) [
  | inl same ↦ (
      let within : k < taken n past + 1 = rw same at less in
      elim (cases_lt k (taken n past)) [
        | inl before ↦ can_replay hs past n legal.1 k c before at
        | inr now ↦ taken_by hs past n k c (subst (λ (j : ℕ). MayTake hs past j) (eqb-true m n same) legal.0)
            (omega (arith, within, now)) at
      ]
      )
  | inr other ↦ can_replay hs past n legal.1 k c (rw other at less) at
]

-- ---- a message that is missing

event_brings : (event : Event) → length (brought (Some event)) < 2
event_brings (on.Deliver m) = omega arith
event_brings event = omega arith

pub brings_few : (d : TraceAction) → length (brought_by d) < 2
brings_few (action.Done event) = event_brings event
brings_few (action.Faulted event) = event_brings event
brings_few d = omega arith

missing : (hs : List (List Claim)) (past : List ℕ) (ms : List Envelope) → length ms < 2 → (Each (λ (m : Envelope). IsSent hs past m) ms → ⊥)
    → IsMissing hs past ms
missing hs past [] few none = absurd (none tt)
missing hs past (m ∷ []) few none = record { message = m; alone = refl; unsent = λ sent. none (sent, tt) }
missing hs past (m ∷ k ∷ ms) few none = absurd (omega (arith, few))

-- what waits lacks its message, where no entry more can be taken
pub held_up : (hs : List (List Claim)) (past : List ℕ) (n : ℕ) (c : Claim) (holdup : Holdup) → IsStuck hs past
    → slice_get (history hs n) (taken n past) ≡ Some c
    → HoldsUp n (length hs) (state_of hs n (taken n past)) c holdup → IsHeldUp hs past n c holdup
held_up hs past n c Waits stuck next holds = (
  holds,
  missing hs past (brought_by c.action) (brings_few c.action)
      (λ sent. stuck n (record { claim = c; next = next; possible = holds.0; sent = sent; addressed = holds.1 })),
)
held_up hs past n c Misaddressed stuck next holds = (holds, tt)
held_up hs past n c (Refused phase) stuck next holds = (holds, tt)
held_up hs past n c (Sends ms) stuck next holds = (holds, tt)

-- ---- what holds an entry up, holds it up whatever is sent

possible_so : (self nodes : ℕ) (s : NodeState) (c : Claim) (o : Option HistoryEvent)
    → IsSomeAnd o (λ (what : HistoryEvent). IsPossible self nodes s what × (c.sent ≡ sent_at self nodes s what))
    → IsSomeAnd o (λ (what : HistoryEvent). IsPossible self nodes s what)
possible_so self nodes s c None may = may
possible_so self nodes s c (Some what) may = may.0

sends_so : (self nodes : ℕ) (s : NodeState) (c : Claim) (ms : List Envelope) (o : Option HistoryEvent)
    → IsSomeAnd o (λ (what : HistoryEvent). IsPossible self nodes s what × (ms ≡ sent_at self nodes s what))
    → IsSomeAnd o (λ (what : HistoryEvent). IsPossible self nodes s what × (c.sent ≡ sent_at self nodes s what)) → ms ≡ c.sent
sends_so self nodes s c ms None would may = absurd may
sends_so self nodes s c ms (Some what) would may = would.1 ∙ sym may.1

pub hold : HoldupsHold
hold self nodes s c Waits other holds may addressed = other refl
hold self nodes s c Misaddressed other holds may addressed = holds addressed
hold self nodes s c (Refused phase) other holds may addressed = holds.1 (possible_so self nodes s c (what_at s c) may)
hold self nodes s c (Sends ms) other holds may addressed = holds.1 (sends_so self nodes s c ms.items (what_at s c) holds.0 may)

-- ---- what sends nothing

pub silent_refused : (self nodes : ℕ) (s : NodeState) (o : Option HistoryEvent)
    → IfSome o (λ (what : HistoryEvent). sent_at self nodes s what ≡ [])
    → (IsSomeAnd o (λ (what : HistoryEvent). IsPossible self nodes s what × ([] ≡ sent_at self nodes s what)) → ⊥)
    → IsSomeAnd o (λ (what : HistoryEvent). IsPossible self nodes s what) → ⊥
silent_refused self nodes s None silent cant may = may
silent_refused self nodes s (Some what) silent cant may = cant (may, sym silent)

-- but for an event that is handled, and a recovery
abbrev pub IsQuiet : Bool → TraceAction → Type 0
IsQuiet down (action.Done event) = ⊥
IsQuiet down (action.Recovered kept) = down ≡ true
IsQuiet down d = Unit {0}

pub quiet_silent : (self nodes : ℕ) (s : NodeState) (down : Bool) (d : TraceAction) → IsQuiet down d
    → IfSome (what_of down d) (λ (what : HistoryEvent). sent_at self nodes s what ≡ [])
quiet_silent self nodes s down action.Nothing quiet = refl
quiet_silent self nodes s down (action.Done event) quiet = absurd quiet
quiet_silent self nodes s down (action.Faulted event) quiet = refl
quiet_silent self nodes s down action.Crashed quiet = refl
quiet_silent self nodes s true (action.Recovered kept) quiet = refl
quiet_silent self nodes s false (action.Recovered kept) quiet = absurd cc
quiet_silent self nodes s true (action.NotRecovered false recover.Mount) quiet = refl
quiet_silent self nodes s true (action.NotRecovered true recover.Mount) quiet = tt
quiet_silent self nodes s true (action.NotRecovered false recover.Raise) quiet = refl
quiet_silent self nodes s true (action.NotRecovered true recover.Raise) quiet = refl
quiet_silent self nodes s false (action.NotRecovered false recover.Mount) quiet = tt
quiet_silent self nodes s false (action.NotRecovered true recover.Mount) quiet = tt
quiet_silent self nodes s false (action.NotRecovered false recover.Raise) quiet = refl
quiet_silent self nodes s false (action.NotRecovered true recover.Raise) quiet = tt

-- ---- the node's next entry, and those before it

pub replayed_more : (hs : List (List Claim)) (n k : ℕ) (old new : Twin) (c : Claim) → old ≡ twin_after hs n k
    → slice_get (history hs n) k ≡ Some c → new.id ≡ old.id
    → new.nodes ≡ old.nodes → new.node ≡ after_claim old.id old.nodes old.node c → new ≡ twin_after hs n (k + 1)
replayed_more hs n k old new c is at id nodes node =
    let more : suc k ≡ k + 1 = omega arith in
    let next : new.node ≡ state_of hs n (k + 1) =
    node ∙ ap (λ (t : Twin). after_claim t.id t.nodes t.node c) is ∙ sym (state_more n (length hs) (opening n) (history hs n) k c at)
    ∙ ap (λ (j : ℕ). state_of hs n j) more in
    λ i. record { id = (id ∙ ap (λ (t : Twin). t.id) is) i; nodes = (nodes ∙ ap (λ (t : Twin). t.nodes) is) i; node = next i }

pub left_none : (hs : List (List Claim)) (past : List ℕ) (n : ℕ) (left : List Leftover) → slice_get (history hs n) (taken n past) ≡ None
    → AreLeftBelow hs past n left → AreLeftBelow hs past (suc n) left
left_none hs past n left none before = (left, before, subst (λ (o : Option Claim). AddsLeft hs past n o left left) (sym none) refl)

pub left_some : (hs : List (List Claim)) (past : List ℕ) (n : ℕ) (left : List Leftover) (c : Claim) (holdup : Holdup) → IsStuck hs past
    → slice_get (history hs n) (taken n past) ≡ Some c
    → HoldsUp n (length hs) (state_of hs n (taken n past)) c holdup → AreLeftBelow hs past n left
    → AreLeftBelow hs past (suc n) (left ++ record { node = n; index = taken n past; holdup = holdup } ∷ [])
left_some hs past n left c holdup stuck next holds before = (
  left,
  before,
  subst (λ (o : Option Claim). AddsLeft hs past n o left (left ++ record { node = n; index = taken n past; holdup = holdup } ∷ []))
      (sym next) (holdup, refl, held_up hs past n c holdup stuck next holds),
)

-- what was found at the place of a node says which comes next
found_none : (hs : List (List Claim)) (n place : ℕ) (o : Option Claim) → IsFound hs n place o None → o ≡ None
found_none hs n place None is = refl
found_none hs n place (Some c) is = absurd is

found_some : (hs : List (List Claim)) (n place : ℕ) (o : Option Claim) (holdup : Holdup) → IsFound hs n place o (Some holdup)
    → (c : Claim) × (o ≡ Some c) × HoldsUp n (length hs) (state_of hs n place) c holdup
found_some hs n place None holdup is = absurd is
found_some hs n place (Some c) holdup is = (c, refl, is)

pub left_nothing : (hs : List (List Claim)) (past : List ℕ) (n k place : ℕ) (left : List Leftover) → k ≡ n + 1 → place ≡ taken n past
    → IsFound hs n place (slice_get (history hs n) place) None
    → AreLeftBelow hs past n left → AreLeftBelow hs past k left
left_nothing hs past n k place left up is found before =
    let more : suc n ≡ k = omega (arith, up) in
    subst (λ (j : ℕ). AreLeftBelow hs past j left) more
    (left_none hs past n left (ap (λ (p : ℕ). slice_get (history hs n) p) (sym is)
    ∙ found_none hs n place (slice_get (history hs n) place) found) before)

pub left_one : (hs : List (List Claim)) (past : List ℕ) (n k place : ℕ) (left new : List Leftover) (holdup : Holdup) → k ≡ n + 1
    → IsStuck hs past → place ≡ taken n past
    → IsFound hs n place (slice_get (history hs n) place) (Some holdup)
    → new ≡ left ++ record { node = n; index = place; holdup = holdup } ∷ [] → AreLeftBelow hs past n left → AreLeftBelow hs past k new
left_one hs past n k place left new holdup up stuck is found pushed before =
    let more : suc n ≡ k = omega (arith, up) in
    let at = found_some hs n place (slice_get (history hs n) place) holdup found in
    subst (λ (j : ℕ). AreLeftBelow hs past j new) more
    (subst (λ (ls : List Leftover). AreLeftBelow hs past (suc n) ls) (sym (pushed
    ∙ ap (λ (p : ℕ). left ++ record { node = n; index = p; holdup = holdup } ∷ []) is))
    (left_some hs past n left at.0 holdup stuck (ap (λ (p : ℕ). slice_get (history hs n) p) (sym is)
    ∙ at.1) (subst (λ (p : ℕ). HoldsUp n (length hs) (state_of hs n p) at.0 holdup) is at.2) before))

-- the nodes from this number on stand as they did, and each at its place
pub record StandStill (hs : List (List Claim)) (olds seats : List NodeCursor) (past : List ℕ) (number : ℕ) : Type 0 where
  pub rests : IsAtRest hs seats past
  pub kept : (n : ℕ) → number ≤ n → slice_get seats n ≡ slice_get olds n

pub still_on : (hs : List (List Claim)) (olds seats : List NodeCursor) (past : List ℕ) (number k : ℕ) (s new : NodeCursor)
    → StandStill hs olds seats past number → k ≡ number → slice_get seats number ≡ Some s → new.place ≡ s.place
    → StandStill hs olds (slice_set seats k new) past (number + 1)
still_on hs olds seats past number k s new still is at same = record {
  rests = subst (λ (j : ℕ). IsAtRest hs (slice_set seats j new) past) (sym is)
      (rests_spoiled hs seats past number s new still.rests at same);
  kept = λ n above. set_other seats k new n (λ here. absurd (omega (arith, above, here, is))) ∙ still.kept n (omega (arith, above));
}
