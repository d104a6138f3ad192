-- What a poll takes.
use Rattle.std.proofs.Common.{◌≡◌, ℕ, ◌<◌, ◌==◌, cond, Option, Some, None, IfSome, IfNone, OnOk, Result, Ok, Err, is_err, List, [], ◌∷◌}
use Rattle.std.proofs.Common.{◌++◌, length, slice_get, slice_index, slice_index_or, slice_set, get_or, Bool, true, false, refl, ap, sym}
use Rattle.std.proofs.Common.{◌∙◌, subst, inl, inr, arith}
use Rattle.std.proofs.lemmas.List.{append-nil, get_or_read, get_or-set_other, length-set}
use Rattle.std.proofs.lemmas.Option.{slice_get-get_or}
use Rattle.std.proofs.lemmas.Grind.{get_or-set_at}
use Rattle.std.proofs.lemmas.Bool.{cases_eq}
use Rattle.std.proofs.lemmas.Bool.Decides.{nat_tests}
use Rattle.wire_msg.specs.Envelope.{Envelope}
use Rattle.histories.specs.HistoryEvent.{brought, event_of}
use Rattle.link_ring.specs.Sides.{Side, TookNext, with_room}
use Rattle.node_lock.specs.Asking.{asked_by}
use Rattle.node_lock.specs.Doing.{Gives}
use Rattle.node_lock.specs.Sending.{SameLink, SameSides, IsFirst, TookAt, Brings}
use Rattle.node_lock.specs.History.{Turn, polled, from_link, listed}
use Rattle.node_lock.specs.HeldView.{HeldView, HeldInvariant, IsTakeLink, IsOther, OfPolled, Finds}
use Rattle.node_lock.proofs.Keeping.{polled-snoc, from_nothing}
use Rattle.node_lock.proofs.Comings.{brought_polled}

-- the node that is read from a plan at a place
pub index_of : (plan list : List ℕ) (i from : ℕ) → i < length plan → from ≡ get_or list i from → list ≡ plan
    → (slice_get plan i ≡ Some from) × (from ≡ slice_index plan i)
index_of plan list i from more is same =
    let read : from ≡ get_or plan i from = is ∙ ap (λ (l : List ℕ). get_or l i from) same in
    (slice_get-get_or plan i from more ∙ ap (λ (j : ℕ). Some j) (sym read), get_or_read plan i from more read 0)

-- ---- a take at a place

-- the side has the message more, or not
abbrev IsSideWith : Envelope → Side → Side → Bool → Type 0
IsSideWith m old new b = SameLink old new × (new.messages ≡ old.messages ++ cond b (m ∷ []) [])

side_with : (m : Envelope) (was : Side) (room : ℕ) (new : Side) → TookNext m (with_room was room) new → IsSideWith m was new true
side_with m was room new took = (
  record {
    sender = ap (λ (s : Side). s.sender) took.taken;
    receiver = ap (λ (s : Side). s.receiver) took.taken;
    capacity = ap (λ (s : Side). s.capacity) took.taken;
  },
  ap (λ (s : Side). s.messages) took.taken,
)

side_same : (m : Envelope) (s : Side) → IsSideWith m s s false
side_same m s = (record { sender = refl; receiver = refl; capacity = refl }, sym (append-nil s.messages))

took_at : (place : ℕ) (m : Envelope) (sides : List Side) (was : Side) (room : ℕ) (new : Side) → place < length sides
    → was ≡ slice_index_or sides place was → TookNext m (with_room was room) new → TookAt place m sides (slice_set sides place new)
took_at place m sides was room new lt is took = record {
  len = length-set sides place new;
  each = λ k d within. elim (cases_eq k place) [
    | inl at ↦ (
        let here : slice_index_or (slice_set sides place new) k d ≡ new = get_or-set_at sides place k new d at lt in
        let old : slice_index_or sides k d ≡ was = ap (λ (i : ℕ). slice_index_or sides i d) at
        ∙ sym (get_or_read sides place was lt is d) in
        let test : (k == place) ≡ true = grind (arith, nat_tests, at) in
        rw (here, old, test) (side_with m was room new took))
    | inr far ↦ (
        let there : slice_index_or (slice_set sides place new) k d ≡ slice_index_or sides k d = get_or-set_other sides place k new d far in
        let test : (k == place) ≡ false = grind (arith, nat_tests, far) in
        rw (there, test) (side_same m (slice_index_or sides k d)))
  ];
  first = λ d within. subst (λ (s : Side). IsFirst m s.seen) (get_or_read sides place was lt is d) (new.seen, took.first);
}

-- what was taken at a place is what the poll brings
pub takes_at : (r : Option Envelope) (place : ℕ) (waiting : Option Envelope) (sides : List Side) (was : Side) (room : ℕ) (mid new : Side)
    → waiting ≡ None → place < length sides → was ≡ slice_index_or sides place was → mid ≡ with_room was room
    → IfSome r (λ m. TookNext m mid new) → IfSome r (λ m. Brings place m waiting sides (slice_set sides place new))
takes_at None place waiting sides was room mid new none lt is made took = tt
takes_at (Some m) place waiting sides was room mid new none lt is made took =
    inr (none, took_at place m sides was room new lt is (subst (λ (s : Side). TookNext m s new) made took))

-- where none was taken, only room was made
pub rooms_at : (place : ℕ) (sides : List Side) (was : Side) (room : ℕ) → place < length sides → was ≡ slice_index_or sides place was
    → SameSides sides (slice_set sides place (with_room was room))
rooms_at place sides was room lt is =
    let new = with_room was room in
    record {
      len = length-set sides place new;
      each = λ k d within. elim (cases_eq k place) [
        | inl at ↦ (
            let here : slice_index_or (slice_set sides place new) k d ≡ new = get_or-set_at sides place k new d at lt in
            let old : slice_index_or sides k d ≡ was = ap (λ (i : ℕ). slice_index_or sides i d) at
            ∙ sym (get_or_read sides place was lt is d) in
            rw (here, old) (record { sender = refl; receiver = refl; capacity = refl }, refl, refl))
        | inr far ↦ (
            let there : slice_index_or (slice_set sides place new) k d ≡ slice_index_or sides k d =
            get_or-set_other sides place k new d far in
            rw there (record { sender = refl; receiver = refl; capacity = refl }, refl, refl))
      ];
    }

pub empty_at : (r : Option Envelope) (place : ℕ) (waiting : Option Envelope) (sides : List Side) (was : Side) (room : ℕ) (mid new : Side)
    → waiting ≡ None → place < length sides → was ≡ slice_index_or sides place was → mid ≡ with_room was room
    → IfNone r ((mid.seen ≡ []) × (new ≡ mid)) → IfNone r ((waiting ≡ None) × SameSides sides (slice_set sides place new))
empty_at None place waiting sides was room mid new none lt is made empty =
    (none, subst (λ (s : Side). SameSides sides (slice_set sides place s)) (sym (empty.1 ∙ made)) (rooms_at place sides was room lt is))
empty_at (Some m) place waiting sides was room mid new none lt is made empty = tt

pub in_ok : {A E : Type 0} (r : Result A E) (P : Type 0) → is_err r ≡ false → OnOk r P → P
in_ok (Ok a) P is p = p
in_ok (Err e) P is p = absurd (let bad = is in cc)

-- places and nodes go with each other
pub same_other : (own k j place from : ℕ) → IsOther own k j → IsOther own place from → (k == place) ≡ (from == j)
same_other own k j place from a b = grind (arith, nat_tests, a.0, a.1, b.0, b.1)

-- what the list of a link has once this was taken
pub record IsFetched (h : HeldView) (f : Option Envelope) (old new : Side) : Type 0 where
  pub same : SameLink old new
  pub messages : new.messages ≡ polled h.plans.intake old.sender h.history ++ from_link h.plans.intake old.sender h.turns.intake (listed f)

pub from_same : (h : HeldView) (f : Option Envelope) (old new : Side) → IsTakeLink h old → h.waiting ≡ f → SameLink old new
    → new.messages ≡ old.messages → IsFetched h f old new
from_same h f old new k w same messages = record {
  same = same;
  messages = messages ∙ (k.messages ∙ ap (λ o. polled h.plans.intake old.sender h.history
      ++ from_link h.plans.intake old.sender h.turns.intake (listed o)) w);
}

from_took : (h : HeldView) (m : Envelope) (i place from : ℕ) (old new : Side) → IsTakeLink h old → h.waiting ≡ None
    → IsOther h.run.node i old.sender → IsOther h.run.node place from → from ≡ slice_index h.plans.intake h.turns.intake → SameLink old new
    → new.messages ≡ old.messages ++ cond (i == place) (m ∷ []) []
    → IsFetched h (Some m) old new
from_took h m i place from old new k w a b is same messages =
    let before : old.messages ≡ polled h.plans.intake old.sender h.history = k.messages
    ∙ (ap (λ o. polled h.plans.intake old.sender h.history ++ from_link h.plans.intake old.sender h.turns.intake (listed o)) w
    ∙ (ap (λ l. polled h.plans.intake old.sender h.history ++ l) (from_nothing h.plans.intake old.sender h.turns.intake [] refl)
    ∙ append-nil (polled h.plans.intake old.sender h.history))) in
    let test : (i == place) ≡ (slice_index h.plans.intake h.turns.intake == old.sender) = same_other h.run.node i old.sender place from a b
    ∙ ap (λ j. j == old.sender) is in
    record {
      same = same;
      messages = messages ∙ (ap (λ l. l ++ cond (i == place) (m ∷ []) []) before
          ∙ ap (λ b. polled h.plans.intake old.sender h.history ++ cond b (m ∷ []) []) test);
    }

pub fetched : (h : HeldView) (new : List Side) (place from : ℕ) (f : Option Envelope) → HeldInvariant h → IsOther h.run.node place from
    → from ≡ slice_index h.plans.intake h.turns.intake → IfNone f ((h.waiting ≡ None) × SameSides h.takes new)
    → IfSome f (λ m. Brings place m h.waiting h.takes new)
    → (length new ≡ length h.takes) × ((i : ℕ) (d : Side) → i < length h.takes
    → IsFetched h f (slice_index_or h.takes i d) (slice_index_or new i d))
fetched h new place from None k b is none some = (
  none.1.len,
  λ i d lt. from_same h None (slice_index_or h.takes i d) (slice_index_or new i d) (k.takes i d lt).0 none.0
      (none.1.each i d lt).0 (none.1.each i d lt).1,
)
fetched h new place from (Some m) k b is none some =
    elim some [
      | inl s ↦ (
        s.1.len,
        λ i d lt. from_same h (Some m) (slice_index_or h.takes i d) (slice_index_or new i d) (k.takes i d lt).0 s.0
            (s.1.each i d lt).0 (s.1.each i d lt).1,
      )
      | inr s ↦ (
        s.1.len,
        λ i d lt. from_took h m i place from (slice_index_or h.takes i d) (slice_index_or new i d) (k.takes i d lt).0 s.0
            (k.takes i d lt).1 b is (s.1.each i d lt).0 (s.1.each i d lt).1,
      )
    ]

one_place : (own k place j : ℕ) → IsOther own k j → IsOther own place j → k ≡ place
one_place own k place j a b = grind (arith, a.0, a.1, b.0, b.1)

at_polled : (h : HeldView) (place from : ℕ) (P : List Envelope → Type 0) → IsOther h.run.node place from
    → from ≡ slice_index h.plans.intake h.turns.intake → ((d : Side) → place < length h.takes → P (slice_index_or h.takes place d).seen)
    → OfPolled h P
at_polled h place from P b is all k d lt other =
    let same : k ≡ place = one_place h.run.node k place from (subst (IsOther h.run.node k) (sym is) other) b in
    subst (λ (i : ℕ). P (slice_index_or h.takes i d).seen) (sym same) (all d (subst (λ (i : ℕ). i < length h.takes) same lt))

-- a poll brings what it takes
pub finds : (h : HeldView) (new : List Side) (place from : ℕ) (f : Option Envelope) → IsOther h.run.node place from
    → from ≡ slice_index h.plans.intake h.turns.intake → IfNone f ((h.waiting ≡ None) × SameSides h.takes new)
    → IfNone f ((d : Side) → (slice_index_or h.takes place d).seen ≡ []) → IfSome f (λ m. Brings place m h.waiting h.takes new) → Finds h f
finds h new place from None b is none empty some = (none.0, at_polled h place from (λ seen. seen ≡ []) b is (λ d lt. empty d))
finds h new place from (Some m) b is none empty some =
    elim some [ inl s ↦ inl s.0 | inr s ↦ inr (s.0, at_polled h place from (IsFirst m) b is s.1.first) ]

-- once the turn stands, nothing waits
pub entered : (h n : HeldView) (e : Turn) (f : Option Envelope) (old new : Side) → IsTakeLink h old → IsFetched h f old new → n.run ≡ h.run
    → n.plans ≡ h.plans → n.history ≡ h.history ++ e ∷ [] → n.waiting ≡ None → e.index ≡ h.turns.intake → Gives (asked_by f) e.entry.what
    → IsTakeLink n new × (new.sender ≡ old.sender)
entered h n e f old new k g run plans history waiting index gives =
    let plan = h.plans.intake in
    let more : polled plan old.sender (h.history ++ e ∷ []) ≡ polled plan old.sender h.history
    ++ from_link plan old.sender h.turns.intake (listed f) = polled-snoc plan old.sender h.history e
    ∙ ap (λ l. polled plan old.sender h.history ++ l) (ap (λ i. from_link plan old.sender i (brought (event_of e.entry.what))) index
    ∙ ap (λ ms. from_link plan old.sender h.turns.intake ms) (brought_polled f e.entry.what gives)) in (
      record {
        receiver = g.same.receiver ∙ (k.receiver ∙ ap (λ r. r.node) (sym run));
        messages = rw (plans, history, waiting, g.same.sender) (g.messages
            ∙ (sym more ∙ sym (ap (λ l. polled plan old.sender (h.history ++ e ∷ [])
            ++ l) (from_nothing plan old.sender n.turns.intake [] refl) ∙ append-nil (polled plan old.sender (h.history ++ e ∷ [])))));
      },
      g.same.sender,
    )
