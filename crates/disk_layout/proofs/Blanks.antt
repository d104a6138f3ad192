-- Bytes that are all zeros.
use Rattle.std.proofs.Common.{◌≡◌, ◌<◌, ◌+◌, ◌&&◌, ⊎_elim, ℕ, Bool, false, List, [], ◌∷◌, zero, suc, true, not, ◌==◌, cond, count_by}
use Rattle.std.proofs.Common.{get_or, length, take, replicate, sym, ◌∙◌, ap, subst, refl, arith}
use Rattle.std.proofs.lemmas.Bool.{false≢true}
use Rattle.std.proofs.lemmas.Bool.Decides.{eqb_tells}
use Rattle.std.proofs.lemmas.List.Sums.{sum_by-cons, count_by_more_yes, count_by_more_no}
use Rattle.disk_layout.specs.Blank.{is_blank}

no_other : (n : ℕ) → count_by (λ byte. not (byte == 0)) (replicate n 0) ≡ 0
no_other zero = refl
no_other (suc n) = no_other n

pub blank : (n : ℕ) → is_blank (replicate n 0) ≡ true
blank n = ap (λ k. k == 0) (no_other n)

pub zeros_alone : (xs : List ℕ) → is_blank xs ≡ true → xs ≡ replicate (length xs) 0
zeros_alone [] blank = refl
zeros_alone (x ∷ xs) blank = ⊎_elim
    (λ zero. ap (λ y. y ∷ xs) zero.1 ∙ ap (λ (l : List ℕ). 0 ∷ l) (zeros_alone xs (subst (λ y. is_blank (y ∷ xs) ≡ true) zero.1 blank)))
    (λ other. absurd (⊎_elim
    (λ none. omega (
      arith,
      none.1,
      sum_by-cons (λ y. cond (not (y == 0)) 1 0) x xs
          ∙ ap (λ b. cond (not b) 1 0 + count_by (λ byte. not (byte == 0)) xs) other.0,
    ))
    (λ some. false≢true (sym some.0 ∙ blank))
    (eqb_tells (count_by (λ byte. not (byte == 0)) (x ∷ xs)) 0)))
    (eqb_tells x 0)

and_true : (b : Bool) → (b && true) ≡ b
and_true true = refl
and_true false = refl

and_false : (b : Bool) → (b && false) ≡ false
and_false true = refl
and_false false = refl

-- one byte more
pub blank_more : (xs : List ℕ) (at : ℕ) (blank : Bool) → at < length xs → blank ≡ is_blank (take at xs)
    → (blank && (get_or xs at 0 == 0)) ≡ is_blank (take (at + 1) xs)
blank_more xs at blank on so_far = ⊎_elim
    (λ zero. ap (λ b. blank && b) zero.0
    ∙ and_true blank
    ∙ so_far
    ∙ ap (λ n. n == 0) (sym (count_by_more_no (λ byte. not (byte == 0)) xs at 0 on (ap not zero.0))))
    (λ other. ap (λ b. blank && b) other.0
    ∙ and_false blank
    ∙ sym (ap (λ n. n == 0) (count_by_more_yes (λ byte. not (byte == 0)) xs at 0 on (ap not other.0))
    ∙ never (count_by (λ byte. not (byte == 0)) (take at xs))))
    (eqb_tells (get_or xs at 0) 0)
  where
    never : (n : ℕ) → (n + 1 == 0) ≡ false
    never n = ⊎_elim (λ h. absurd (omega (arith, h.1))) (λ h. h.0) (eqb_tells (n + 1) 0)
