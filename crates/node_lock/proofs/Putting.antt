-- A message goes onto the link to its receiver.
use Rattle.std.proofs.Common.{◌≡◌, ℕ, ◌<◌, Bool, true, false, List, [], ◌∷◌, length, slice_index_or, slice_set, refl, ap, sym, ◌∙◌, subst}
use Rattle.std.proofs.Common.{inl, inr, arith}
use Rattle.std.specs.Prelude.{if◌then◌else◌}
use Rattle.std.proofs.lemmas.List.{get_or_read, get_or-set_other, length-set}
use Rattle.std.proofs.lemmas.Grind.{get_or-set_at}
use Rattle.std.proofs.lemmas.Bool.{cases_eq}
use Rattle.wire_msg.specs.Envelope.{Envelope}
use Rattle.link_ring.specs.Sides.{Side}
use Rattle.node_lock.specs.HeldView.{AreEnds, IsOther}
use Rattle.node_lock.specs.Sending.{PutsSome, SameLink, SameSides, SentTo, SentOn}
use Rattle.node_lock.proofs.Carried.{sent_here, sent_elsewhere}

-- the link at this place is the one to the message's receiver
pub record LeadsTo (m : Envelope) (place : ℕ) (sides : List Side) (was : Side) : Type 0 where
  pub within : place < length sides
  pub is : was ≡ slice_index_or sides place was
  pub to : was.receiver ≡ m.receiver
  pub only : (k : ℕ) (d : Side) → k < length sides → (slice_index_or sides k d).receiver ≡ m.receiver → k ≡ place

pub sent_at : (m : Envelope) (place : ℕ) (sides : List Side) (was new : Side) → LeadsTo m place sides was → SameLink was new
    → PutsSome was.capacity was.messages (m ∷ []) new.messages → SentOn (m ∷ []) sides (slice_set sides place new)
sent_at m place sides was new l same put = record {
  len = length-set sides place new;
  each = λ k d within. elim (cases_eq k place) [
    | inl at ↦ (
        let here : slice_index_or (slice_set sides place new) k d ≡ new = get_or-set_at sides place k new d at l.within in
        let old : slice_index_or sides k d ≡ was = ap (λ (i : ℕ). slice_index_or sides i d) at
        ∙ sym (get_or_read sides place was l.within l.is d) in
        subst (λ (s : Side). SentTo (m ∷ []) s (slice_index_or (slice_set sides place new) k d)) (sym old)
        (subst (SentTo (m ∷ []) was) (sym here) (sent_here m was new (sym l.to) same put)))
    | inr far ↦ (
        let there : slice_index_or (slice_set sides place new) k d ≡ slice_index_or sides k d = get_or-set_other sides place k new d far in
        subst (SentTo (m ∷ []) (slice_index_or sides k d)) (sym there)
        (sent_elsewhere m (slice_index_or sides k d) (λ same. far (l.only k d within (sym same)))))
  ];
}

-- ---- before a turn's messages are put

pub either_way : (b : Bool) (x y : ℕ) → y ≡ x → x ≡ (if b then x else y)
either_way true x y same = refl
either_way false x y same = sym same

pub ends_same : (id : ℕ) (old new : List Side) → AreEnds id old → SameSides old new → AreEnds id new
ends_same id old new ends same k d lt =
    let len = same.len in
    let lt' : k < length old = omega (arith, lt, len) in
    subst (IsOther id k) (sym (same.each k d lt').0.receiver) (ends k d lt')
