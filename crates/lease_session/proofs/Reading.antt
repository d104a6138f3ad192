-- Words of lines.
use Rattle.std.proofs.Common.{◌≡◌, ℕ, ◌<◌, ◌≤◌, ◌↔◌, List, [], ◌∷◌, length, Bool, true, false, Option, Some, None, refl, sym, ap, ◌∙◌}
use Rattle.std.proofs.Common.{arith}
use Rattle.std.specs.Prelude.{IfSome, IsNone, nat_le, ◌&&◌, if◌then◌else◌}
use Rattle.std.specs.List.{list_all}
use Rattle.lease_network.specs.Network.{Name}
use Rattle.lease_message.specs.declared.lease_name.TheConstants.{NAME_CAPACITY}
use Rattle.lease_message.specs.Spelling.{IsName}
use Rattle.lease_session.specs.Reading.{Bad, has_length, is_printable, meaning_words, name_of}

-- more than three fields
pub too_many : (name a b c : List ℕ) (rest : List (List ℕ)) → 0 < length rest → meaning_words (name ∷ a ∷ b ∷ c ∷ rest) ≡ Bad
too_many name a b c [] some = absurd (omega arith)
too_many name a b c (d ∷ rest) some = refl

both_true : (a b : Bool) → (a && b) ≡ true → (a ≡ true) × (b ≡ true)
both_true true true is = (refl, refl)
both_true true false is = absurd cc
both_true false b is = absurd cc

and_true : {a b : Bool} → a ≡ true → b ≡ true → (a && b) ≡ true
and_true {b = b} e f = ap (λ (x : Bool). x && b) e ∙ f

le_of : (a b : ℕ) → nat_le a b ≡ true → a ≤ b
le_of a b is = grind (arith, is)

of_le : (a b : ℕ) → a ≤ b → nat_le a b ≡ true
of_le a b less = grind (arith, less)

fits_so : (word : List ℕ) → has_length word ≡ true → IsName word
fits_so word fits =
    let both = both_true (nat_le 1 (length word)) (nat_le (length word) NAME_CAPACITY) fits in
    record { some = le_of 1 (length word) both.0; fits = le_of (length word) NAME_CAPACITY both.1 }

fits_not : (word : List ℕ) → has_length word ≡ false → IsName word → ⊥
fits_not word fits name =
    let both : has_length word ≡ true = and_true (of_le 1 (length word) name.some) (of_le (length word) NAME_CAPACITY name.fits) in
    absurd (let bad : true ≡ false = sym both ∙ fits in cc)

pub name_is : (word : List ℕ) (r : Option Name) → list_all is_printable word ≡ true → IfSome r (λ n. n ≡ word)
    → (IsNone r ↔ (IsName word → ⊥)) → r ≡ name_of word
name_is word r all some none = by_length (has_length word) refl r some none
    ∙ ap (λ (b : Bool). if b then (if has_length word then Some word else None) else None) (sym all)
  where
    by_length : (b : Bool) → has_length word ≡ b → (r : Option Name) → IfSome r (λ n. n ≡ word) → (IsNone r ↔ (IsName word → ⊥))
        → r ≡ (if b then Some word else None)
    by_length true is None some none = absurd (none.0 refl (fits_so word is))
    by_length true is (Some n) some none = ap (λ (x : Name). Some x) some
    by_length false is None some none = refl
    by_length false is (Some n) some none = absurd (let bad : true ≡ false = none.1 (fits_not word is) in cc)

pub no_name : (word : List ℕ) → list_all is_printable word ≡ false → None ≡ name_of word
no_name word not_all = ap (λ (b : Bool). if b then (if has_length word then Some word else None) else None) (sym not_all)
