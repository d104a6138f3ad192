-- The messages that were sent, once one more is put in.
use Rattle.std.proofs.Common.{◌≡◌, Bool, true, false, not, ◌||◌, ◌⊎◌, List, ◌∷◌, inl, inr, refl, sym, ap, ◌∙◌, subst, MatchBool, Result, Ok}
use Rattle.std.proofs.Common.{Err}
use Rattle.std.specs.Prelude.{OnOk}
use Rattle.std.specs.List.{list_any}
use Rattle.std.specs.List.Sorted.{IsPermutation}
use Rattle.std.specs.Cmp.Lexicographic.{bytes_decides}
use Rattle.std.proofs.lemmas.List.Sorted.{list_any-IsPermutation}
use Rattle.wire_msg.specs.Envelope.{Envelope}
use Rattle.message_list.specs.Lent.{numbers_of, same_message}
use Rattle.message_list.proofs.PublicLaws.{one_message}
use Rattle.trace_check.specs.Posts.{IsPosted, Posts}

not_true : (b : Bool) → false ≡ not b → b ≡ true
not_true true h = refl
not_true false h = absurd cc

either_true : (a b : Bool) → (a || b) ≡ true → (a ≡ true) ⊎ (b ≡ true)
either_true true b h = inl refl
either_true false b h = inr h

or_right : (a b : Bool) → b ≡ true → (a || b) ≡ true
or_right true b h = refl
or_right false b h = h

or_left : (a b : Bool) → a ≡ true → (a || b) ≡ true
or_left true b h = refl
or_left false b h = absurd cc

-- the messages that were there, and one that is new or was among them
pub posts_put : (old new : List Envelope) (m : Envelope) (added : Bool) → MatchBool added (IsPermutation (m ∷ old) new) (new ≡ old)
    → added ≡ not (list_any (same_message m) old) → Posts old new m
posts_put old new m true put is n =
    let more : (same_message n m || list_any (same_message n) old) ≡ list_any (same_message n) new =
    list_any-IsPermutation (same_message n) (m ∷ old) new put in (
      λ there. elim (either_true (same_message n m) (list_any (same_message n) old) (more ∙ there)) [
        | inl same ↦ inl (one_message n m same)
        | inr before ↦ inr before
      ],
      λ either. sym more ∙ elim either [
        | inl it ↦ or_left (same_message n m) (list_any (same_message n) old)
            ((bytes_decides (numbers_of n) (numbers_of m)).1 (ap (λ (e : Envelope). numbers_of e) it))
        | inr before ↦ or_right (same_message n m) (list_any (same_message n) old) before
      ],
    )
posts_put old new m false put is n =
    let there : IsPosted old m = not_true (list_any (same_message m) old) is in (
      λ now. inr (subst (λ (ms : List Envelope). IsPosted ms n) put now),
      λ either. subst (λ (ms : List Envelope). IsPosted ms n) (sym put) (elim either [
        | inl it ↦ subst (λ (e : Envelope). IsPosted old e) (sym it) there
        | inr before ↦ before
      ]),
    )

pub on_ok : {A E : Type 0} (P Q : Type 0) (r : Result A E) → (P → Q) → OnOk r P → OnOk r Q
on_ok P Q (Ok a) more h = more h
on_ok P Q (Err e) more h = h
