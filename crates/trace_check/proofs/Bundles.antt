-- Histories of which all entries can be taken in some order are a bundle.
use Rattle.std.proofs.Common.{◌≡◌, ◌≤◌, ◌<◌, ◌==◌, ℕ, zero, suc, ◌+◌, List, [], ◌∷◌, length, take, slice_get, Bool, true, false, Option}
use Rattle.std.proofs.Common.{Some, None, inl, inr, refl, sym, ap, ◌∙◌, subst, arith}
use Rattle.std.specs.Prelude.{IsSomeAnd}
use Rattle.std.proofs.lemmas.Bool.{cases_Bool, cases_lt, eqb-true}
use Rattle.std.proofs.lemmas.Option.{same_Some}
use Rattle.wire_msg.specs.Envelope.{Envelope}
use Rattle.node_core.specs.State.{is_down}
use Rattle.histories.specs.Lists.{IsAmong, Each}
use Rattle.histories.specs.NodeState.{NodeState, opening}
use Rattle.histories.specs.declared.history_event.HistoryEvent.{HistoryEvent}
use Rattle.histories.specs.HistoryEvent.{Entry, event_of, brought, AreAddressed}
use Rattle.histories.specs.After.{sent_at}
use Rattle.histories.specs.Possible.{IsPossible}
use Rattle.histories.specs.History.{Follows, sent_in, brought_in}
use Rattle.histories.specs.Bundle.{sent_by_all}
use Rattle.histories.proofs.PublicLaws.{among_left, among_right, sent_of_one, each_append, each_at, each_more}
use Rattle.trace_check.specs.declared.trace.TraceAction.{TraceAction}
use Rattle.trace_check.specs.declared.trace.TraceAction.TheVariants as action
use Rattle.trace_check.specs.declared.trace.RecoverFault.TheVariants as recover
use Rattle.trace_check.specs.Claims.{Claim, what_of, what_at, MayCome, after_what, after_claim, state_after, brought_by}
use Rattle.trace_check.specs.Orders.{history, taken, state_of, IsSent, MayTake, IsLegal, IsComplete}
use Rattle.trace_check.specs.Runs.{entry_with, entries_of, entries_from, OrdersAreBundles}
use Rattle.trace_check.proofs.Furthest.{sent_more}

-- ---- one history

-- each entry is possible after those before it, and P holds of what it was brought
abbrev AllCome : ℕ → ℕ → (Envelope → Type 0) → NodeState → List Claim → Type 0
AllCome self nodes P s [] = Unit {0}
AllCome self nodes P s (c ∷ cs) = MayCome self nodes s c × Each P (brought_by c.action)
    × AllCome self nodes P (after_claim self nodes s c) cs

-- the same, place by place
record ComesAt (self nodes : ℕ) (P : Envelope → Type 0) (s : NodeState) (h : List Claim) (k : ℕ) : Type 0 where
  claim : Claim
  at : slice_get h k ≡ Some claim
  possible : MayCome self nodes (state_after self nodes s (take k h)) claim
  brings : Each P (brought_by claim.action)

all_from_places : (self nodes : ℕ) (P : Envelope → Type 0) (s : NodeState) (h : List Claim)
    → ((k : ℕ) → k < length h → ComesAt self nodes P s h k) → AllCome self nodes P s h
all_from_places self nodes P s [] each = tt
all_from_places self nodes P s (c ∷ cs) each =
    let first = each 0 (omega arith) in
    let is : c ≡ first.claim = same_Some c first.claim first.at in (
      subst (λ (x : Claim). MayCome self nodes s x) (sym is) first.possible,
      subst (λ (x : Claim). Each P (brought_by x.action)) (sym is) first.brings,
      all_from_places self nodes P (after_claim self nodes s c) cs (λ k within.
          let here = each (suc k) (omega (arith, within)) in
          record { claim = here.claim; at = here.at; possible = here.possible; brings = here.brings }),
    )

follows_by : (self nodes : ℕ) (s : NodeState) (c : Claim) (o : Option HistoryEvent) (es : List Entry)
    → IsSomeAnd o (λ (what : HistoryEvent). IsPossible self nodes s what × (c.sent ≡ sent_at self nodes s what))
    → Follows self nodes (after_what self nodes s o) es → Follows self nodes s (entry_with c o es)
follows_by self nodes s c None es may rest = absurd may
follows_by self nodes s c (Some what) es may rest = (may.0, may.1, rest)

follows_all : (self nodes : ℕ) (P : Envelope → Type 0) (s : NodeState) (h : List Claim) → AllCome self nodes P s h
    → Follows self nodes s (entries_of self nodes s h)
follows_all self nodes P s [] all = tt
follows_all self nodes P s (c ∷ cs) all =
    follows_by self nodes s c (what_at s c) (entries_of self nodes (after_claim self nodes s c) cs) all.0
    (follows_all self nodes P (after_claim self nodes s c) cs all.2)

-- an entry stands for one that brings the same
same_brought : (down : Bool) (d : TraceAction) (what : HistoryEvent) → what_of down d ≡ Some what → brought (event_of what) ≡ brought_by d
same_brought down action.Nothing what is = rw (sym (same_Some _ what is)) refl
same_brought down (action.Done event) what is = rw (sym (same_Some _ what is)) refl
same_brought down (action.Faulted event) what is = rw (sym (same_Some _ what is)) refl
same_brought down action.Crashed what is = rw (sym (same_Some _ what is)) refl
same_brought true (action.Recovered kept) what is = rw (sym (same_Some _ what is)) refl
same_brought false (action.Recovered false) what is = rw (sym (same_Some _ what is)) refl
same_brought false (action.Recovered true) what is = absurd cc
same_brought true (action.NotRecovered false recover.Mount) what is = rw (sym (same_Some _ what is)) refl
same_brought true (action.NotRecovered true recover.Mount) what is = absurd cc
same_brought true (action.NotRecovered kept recover.Raise) what is = rw (sym (same_Some _ what is)) refl
same_brought false (action.NotRecovered kept recover.Mount) what is = absurd cc
same_brought false (action.NotRecovered false recover.Raise) what is = rw (sym (same_Some _ what is)) refl
same_brought false (action.NotRecovered true recover.Raise) what is = absurd cc

brings_by : (P : Envelope → Type 0) (down : Bool) (c : Claim) (o : Option HistoryEvent) (es : List Entry) → what_of down c.action ≡ o
    → Each P (brought_by c.action) → Each P (brought_in es) → Each P (brought_in (entry_with c o es))
brings_by P down c None es is here rest = rest
brings_by P down c (Some what) es is here rest =
    each_append P (brought (event_of what)) (brought_in es) (subst (λ (ms : List Envelope). Each P ms)
    (sym (same_brought down c.action what is)) here) rest

brings_all : (self nodes : ℕ) (P : Envelope → Type 0) (s : NodeState) (h : List Claim) → AllCome self nodes P s h
    → Each P (brought_in (entries_of self nodes s h))
brings_all self nodes P s [] all = tt
brings_all self nodes P s (c ∷ cs) all =
    brings_by P (is_down s.state.phase) c (what_at s c) (entries_of self nodes (after_claim self nodes s c) cs) refl all.1
    (brings_all self nodes P (after_claim self nodes s c) cs all.2)

sent_first : (c : Claim) (o : Option HistoryEvent) (Q : HistoryEvent → Type 0) (es : List Entry) (m : Envelope) → IsSomeAnd o Q
    → IsAmong m c.sent → IsAmong m (sent_in (entry_with c o es))
sent_first c None Q es m may is = absurd may
sent_first c (Some what) Q es m may is = among_left m c.sent (sent_in es) is

sent_later : (c : Claim) (o : Option HistoryEvent) (es : List Entry) (m : Envelope) → IsAmong m (sent_in es)
    → IsAmong m (sent_in (entry_with c o es))
sent_later c None es m is = is
sent_later c (Some what) es m is = among_right m c.sent (sent_in es) is

sends_all : (self nodes : ℕ) (P : Envelope → Type 0) (s : NodeState) (h : List Claim) (k : ℕ) (claim : Claim) (m : Envelope)
    → AllCome self nodes P s h → slice_get h k ≡ Some claim → IsAmong m claim.sent
    → IsAmong m (sent_in (entries_of self nodes s h))
sends_all self nodes P s [] k claim m all at is = absurd cc
sends_all self nodes P s (c ∷ cs) zero claim m all at is =
    sent_first c (what_at s c) (λ (what : HistoryEvent). IsPossible self nodes s what × (c.sent ≡ sent_at self nodes s what))
    (entries_of self nodes (after_claim self nodes s c) cs) m all.0
    (subst (λ (x : Claim). IsAmong m x.sent) (sym (same_Some c claim at)) is)
sends_all self nodes P s (c ∷ cs) (suc k) claim m all at is =
    sent_later c (what_at s c) (entries_of self nodes (after_claim self nodes s c) cs) m
    (sends_all self nodes P (after_claim self nodes s c) cs k claim m all.2 at is)

-- ---- what a legal order took

abbrev Brings : List (List Claim) → List ℕ → ℕ → Envelope → Type 0
Brings hs order n m = IsSent hs order m × (m.receiver ≡ n)

both : (hs : List (List Claim)) (order : List ℕ) (n : ℕ) (ms : List Envelope) → Each (λ (m : Envelope). IsSent hs order m) ms
    → AreAddressed n ms → Each (Brings hs order n) ms
both hs order n [] sent addressed = tt
both hs order n (m ∷ ms) sent addressed = ((sent.0, addressed.0), both hs order n ms sent.1 addressed.1)

comes_later : (hs : List (List Claim)) (earlier order : List ℕ) (n k : ℕ) → ((m : ℕ) → taken m earlier ≤ taken m order)
    → ComesAt n (length hs) (Brings hs earlier n) (opening n) (history hs n) k
    → ComesAt n (length hs) (Brings hs order n) (opening n) (history hs n) k
comes_later hs earlier order n k more t = record {
  claim = t.claim;
  at = t.at;
  possible = t.possible;
  brings = each_more (Brings hs earlier n) (Brings hs order n) (brought_by t.claim.action)
      (λ m b. (sent_more hs earlier order m more b.0, b.1)) t.brings;
}

comes_now : (hs : List (List Claim)) (order : List ℕ) (n k : ℕ) → k ≡ taken n order → MayTake hs order n
    → ComesAt n (length hs) (Brings hs order n) (opening n) (history hs n) k
comes_now hs order n k is t = record {
  claim = t.claim;
  at = rw is t.next;
  possible = subst (λ (j : ℕ). MayCome n (length hs) (state_of hs n j) t.claim) (sym is) t.possible;
  brings = both hs order n (brought_by t.claim.action) t.sent t.addressed;
}

taken_more : (m k : ℕ) (order : List ℕ) → taken k order ≤ taken k (m ∷ order)
taken_more m k order = elim (cases_Bool (m == k)) [ inl same ↦ rw same (omega arith) | inr other ↦ rw other (omega arith) ]

took : (hs : List (List Claim)) (order : List ℕ) (n k : ℕ) → IsLegal hs order → k < taken n order
    → ComesAt n (length hs) (Brings hs order n) (opening n) (history hs n) k
took hs [] n k legal within = absurd (omega (arith, within))
took hs (m ∷ order) n k legal within =
    comes_later hs order (m ∷ order) n k (λ j. taken_more m j order) (elim (cases_Bool (m == n)) [
      | inl same ↦ (let here : m ≡ n = eqb-true m n same in let within' : k < taken n order + 1 = rw same at within in
          elim (cases_lt k (taken n order)) [
            | inl before ↦ took hs order n k legal.1 before
            | inr now ↦ comes_now hs order n k (omega (arith, within', now)) (subst (λ (j : ℕ). MayTake hs order j) here legal.0)
          ])
      | inr other ↦ took hs order n k legal.1 (rw other at within)
    ])

all_come : (hs : List (List Claim)) (order : List ℕ) (n : ℕ) → IsLegal hs order → IsComplete hs order
    → AllCome n (length hs) (Brings hs order n) (opening n) (history hs n)
all_come hs order n legal complete =
    all_from_places n (length hs) (Brings hs order n) (opening n) (history hs n)
    (λ k within. took hs order n k legal (let all = complete n in omega (arith, within, all)))

-- ---- all histories

many_entries : (n nodes : ℕ) (hs : List (List Claim)) → length (entries_from n nodes hs) ≡ length hs
many_entries n nodes [] = refl
many_entries n nodes (h ∷ hs) = ap suc (many_entries (n + 1) nodes hs)

entries_at : (n nodes k : ℕ) (hs : List (List Claim)) (es : List Entry) → slice_get (entries_from n nodes hs) k ≡ Some es
    → es ≡ entries_of (n + k) nodes (opening (n + k)) (history hs k)
entries_at n nodes k [] es at = absurd cc
entries_at n nodes zero (h ∷ hs) es at =
    let is : entries_of n nodes (opening n) h ≡ es = same_Some _ es at in
    let here : n ≡ n + 0 = omega arith in
    sym is ∙ ap (λ (j : ℕ). entries_of j nodes (opening j) h) here
entries_at n nodes (suc k) (h ∷ hs) es at =
    let there : (n + 1) + k ≡ n + suc k = omega arith in
    entries_at (n + 1) nodes k hs es at ∙ ap (λ (j : ℕ). entries_of j nodes (opening j) (history hs k)) there

entries_there : (n nodes k : ℕ) (hs : List (List Claim)) (i : ℕ) (claim : Claim) → slice_get (history hs k) i ≡ Some claim
    → slice_get (entries_from n nodes hs) k ≡ Some (entries_of (n + k) nodes (opening (n + k)) (history hs k))
entries_there n nodes k [] i claim at = absurd cc
entries_there n nodes zero (h ∷ hs) i claim at =
    let here : n ≡ n + 0 = omega arith in ap (λ (j : ℕ). Some (entries_of j nodes (opening j) h)) here
entries_there n nodes (suc k) (h ∷ hs) i claim at =
    let there : (n + 1) + k ≡ n + suc k = omega arith in
    entries_there (n + 1) nodes k hs i claim at ∙ ap (λ (j : ℕ). Some (entries_of j nodes (opening j) (history hs k))) there

first_at : (nodes n : ℕ) (hs : List (List Claim)) (es : List Entry) → slice_get (entries_from 0 nodes hs) n ≡ Some es
    → es ≡ entries_of n nodes (opening n) (history hs n)
first_at nodes n hs es at =
    let here : 0 + n ≡ n = omega arith in
    entries_at 0 nodes n hs es at ∙ ap (λ (j : ℕ). entries_of j nodes (opening j) (history hs n)) here

first_there : (nodes n : ℕ) (hs : List (List Claim)) (i : ℕ) (claim : Claim) → slice_get (history hs n) i ≡ Some claim
    → slice_get (entries_from 0 nodes hs) n ≡ Some (entries_of n nodes (opening n) (history hs n))
first_there nodes n hs i claim at =
    let here : 0 + n ≡ n = omega arith in
    entries_there 0 nodes n hs i claim at ∙ ap (λ (j : ℕ). Some (entries_of j nodes (opening j) (history hs n))) here

-- what was sent in an order is sent by the bundle
sent_there : (hs : List (List Claim)) (order : List ℕ) (m : Envelope) → IsLegal hs order → IsComplete hs order → IsSent hs order m
    → IsAmong m (sent_by_all (entries_from 0 (length hs) hs))
sent_there hs order m legal complete s =
    sent_of_one m (entries_from 0 (length hs) hs) s.node _ (first_there (length hs) s.node hs s.index s.claim s.stands)
    (sends_all s.node (length hs) (Brings hs order s.node) (opening s.node) (history hs s.node) s.index s.claim m
    (all_come hs order s.node legal complete) s.stands s.sends)

pub bundle_of : OrdersAreBundles
bundle_of hs order legal complete =
    let nodes = length hs in
    record {
      follows = λ n h at.
          rw (many_entries 0 nodes hs, first_at nodes n hs h at) (follows_all n nodes (Brings hs order n) (opening n) (history hs n)
          (all_come hs order n legal complete));
      delivers = λ n h at m is.
          sent_there hs order m legal complete (each_at (Brings hs order n) (brought_in (entries_of n nodes (opening n) (history hs n))) m
          (brings_all n nodes (Brings hs order n) (opening n) (history hs n) (all_come hs order n legal complete))
          (subst (λ (es : List Entry). IsAmong m (brought_in es)) (first_at nodes n hs h at) is)).0;
      addressed = λ n h at.
          subst (λ (es : List Entry). AreAddressed n (brought_in es)) (sym (first_at nodes n hs h at))
          (each_more (Brings hs order n) (λ (m : Envelope). m.receiver
          ≡ n) (brought_in (entries_of n nodes (opening n) (history hs n))) (λ m b. b.1)
          (brings_all n nodes (Brings hs order n) (opening n) (history hs n) (all_come hs order n legal complete)));
    }
