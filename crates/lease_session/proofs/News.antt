-- What users were told last.
use Rattle.std.proofs.Common.{◌≡◌, Bool, true, false, List, [], ◌∷◌, ◌++◌, Option, Some, None, refl, sym, ◌∙◌}
use Rattle.std.proofs.Common.{ap}
use Rattle.std.specs.Prelude.{not, if◌then◌else◌, nat_eq}
use Rattle.std.specs.Cmp.Lexicographic.{pointwise}
use Rattle.std.proofs.lemmas.Slice.Eq.{bytes_eq-Decides}
use Rattle.lease_network.specs.Network.{Name}
use Rattle.lease_session.specs.declared.told.Told.{Told}
use Rattle.lease_session.specs.Holding.{last_told}
use Rattle.lease_session.specs.Telling.{told_of, without}

none_without : (name : Name) (ts : List Told) → last_told name (without name ts) ≡ None
none_without name [] = refl
none_without name (t ∷ ts) = by_test (pointwise nat_eq t.name name) refl (none_without name ts)
  where
    by_test : (b : Bool) → pointwise nat_eq t.name name ≡ b → last_told name (without name ts) ≡ None
        → last_told name (if not b then t ∷ without name ts else without name ts) ≡ None
    by_test true is rest = rest
    by_test false is rest = ap (λ (c : Bool). if c then Some t else last_told name (without name ts)) is ∙ rest

behind_none : (name : Name) (ts : List Told) (last : Told) → last_told name ts ≡ None
    → last_told name (ts ++ last ∷ []) ≡ last_told name (last ∷ [])
behind_none name [] last none = refl
behind_none name (t ∷ ts) last none = by_test (pointwise nat_eq t.name name) none (behind_none name ts last)
  where
    by_test : (b : Bool) → (if b then Some t else last_told name ts) ≡ None
        → (last_told name ts ≡ None → last_told name (ts ++ last ∷ []) ≡ last_told name (last ∷ []))
        → (if b then Some t else last_told name (ts ++ last ∷ [])) ≡ last_told name (last ∷ [])
    by_test true none rest = absurd cc
    by_test false none rest = rest none

same_is : (a b : Name) → a ≡ b → pointwise nat_eq a b ≡ true
same_is a b same = (bytes_eq-Decides a b).1 same

differ_is : (a b : Name) → (a ≡ b → ⊥) → pointwise nat_eq a b ≡ false
differ_is a b apart = by_test (pointwise nat_eq a b) refl
  where
    by_test : (c : Bool) → pointwise nat_eq a b ≡ c → c ≡ false
    by_test true is = absurd (apart ((bytes_eq-Decides a b).0 is))
    by_test false is = refl

-- what is told now
pub told_now : (ts : List Told) (t : Told) → last_told t.name (without t.name ts ++ t ∷ []) ≡ Some t
told_now ts t = behind_none t.name (without t.name ts) t (none_without t.name ts)
    ∙ ap (λ (c : Bool). if c then Some t else None) (same_is t.name t.name refl)

pub other_without : (name other : Name) (ts : List Told) → (other ≡ name → ⊥) → last_told name (without other ts) ≡ last_told name ts
other_without name other [] apart = refl
other_without name other (t ∷ ts) apart = by_test (pointwise nat_eq t.name other) refl (other_without name other ts apart)
  where
    by_test : (b : Bool) → pointwise nat_eq t.name other ≡ b → last_told name (without other ts) ≡ last_told name ts
        → last_told name (if not b then t ∷ without other ts else without other ts) ≡ last_told name (t ∷ ts)
    by_test true is rest =
        rest ∙ sym (ap (λ (c : Bool). if c then Some t else last_told name ts)
        (differ_is t.name name (λ same. apart (sym ((bytes_eq-Decides t.name other).0 is) ∙ same))))
    by_test false is rest = ap (λ (o : Option Told). if pointwise nat_eq t.name name then Some t else o) rest

behind_other : (name : Name) (ts : List Told) (last : Told) → (last.name ≡ name → ⊥) → last_told name (ts ++ last ∷ []) ≡ last_told name ts
behind_other name [] last apart = ap (λ (c : Bool). if c then Some last else None) (differ_is last.name name apart)
behind_other name (t ∷ ts) last apart = ap (λ (o : Option Told). if pointwise nat_eq t.name name then Some t else o)
    (behind_other name ts last apart)

-- and of other names nothing
pub told_other : (name : Name) (ts : List Told) (t : Told) → (t.name ≡ name → ⊥)
    → last_told name (without t.name ts ++ t ∷ []) ≡ last_told name ts
told_other name ts t apart = behind_other name (without t.name ts) t apart ∙ other_without name t.name ts apart

-- the epoch that was told
pub epoch_told : (name : Name) (ts : List Told) (t : Told) → last_told name ts ≡ Some t → told_of name ts ≡ Some t.epoch
epoch_told name [] t is = absurd cc
epoch_told name (s ∷ ts) t is = by_test (pointwise nat_eq s.name name) is (epoch_told name ts t)
  where
    some_told : (a b : Told) → Some a ≡ Some b → a ≡ b
    some_told a b e = cc

    by_test : (b : Bool) → (if b then Some s else last_told name ts) ≡ Some t
        → (last_told name ts ≡ Some t → told_of name ts ≡ Some t.epoch)
        → (if b then Some s.epoch else told_of name ts) ≡ Some t.epoch
    by_test true is rest = ap (λ (k : Told). Some k.epoch) (some_told s t is)
    by_test false is rest = rest is
