-- Lists to which an element is added, or in which one is set.
use Rattle.std.proofs.Common.{◌≡◌, ◌≢◌, ◌⊎◌, ℕ, zero, suc, List, [], ◌∷◌, ◌++◌, length, slice_get, slice_set, Some, inl, inr, refl, sym, ap}
use Rattle.std.proofs.Common.{subst, arith}
use Rattle.std.proofs.lemmas.Option.{same_Some}

pub set_length : {A : Type 0} (xs : List A) (i : ℕ) (v : A) → length (slice_set xs i v) ≡ length xs
set_length [] i v = refl
set_length (x ∷ xs) zero v = refl
set_length (x ∷ xs) (suc i) v = ap suc (set_length xs i v)

-- the element that was set, or another one
pub set_at : {A : Type 0} (xs : List A) (i : ℕ) (v : A) (k : ℕ) (t : A) → slice_get (slice_set xs i v) k ≡ Some t
    → ((k ≡ i) × (t ≡ v)) ⊎ ((k ≢ i) × (slice_get xs k ≡ Some t))
set_at [] i v k t at = absurd cc
set_at (x ∷ xs) zero v zero t at = inl (refl, sym (same_Some v t at))
set_at (x ∷ xs) zero v (suc k) t at = inr (λ same. absurd cc, at)
set_at (x ∷ xs) (suc i) v zero t at = inr (λ same. absurd cc, at)
set_at (x ∷ xs) (suc i) v (suc k) t at = elim (set_at xs i v k t at) [
  | inl here ↦ inl (ap suc here.0, here.1)
  | inr other ↦ inr (λ same. other.0 (omega (arith, same)), other.1)
]

pub last_or_before : {A : Type 0} (xs : List A) (v t : A) (n : ℕ) → slice_get (xs ++ v ∷ []) n ≡ Some t
    → (slice_get xs n ≡ Some t) ⊎ ((n ≡ length xs) × (t ≡ v))
last_or_before [] v t zero at = inr (refl, sym (same_Some v t at))
last_or_before [] v t (suc n) at = absurd cc
last_or_before (x ∷ xs) v t zero at = inl at
last_or_before (x ∷ xs) v t (suc n) at = elim (last_or_before xs v t n at) [ inl before ↦ inl before | inr now ↦ inr (ap suc now.0, now.1) ]

-- what holds of each element holds of one more
pub each_more : {A : Type 0} (P : ℕ → A → Type 0) (xs : List A) (x : A) → ((k : ℕ) (t : A) → slice_get xs k ≡ Some t → P k t)
    → P (length xs) x → (k : ℕ) (t : A) → slice_get (xs ++ x ∷ []) k ≡ Some t → P k t
each_more P xs x each is k t at = elim (last_or_before xs x t k at) [
  | inl early ↦ each k t early
  | inr now ↦ subst (λ (v : _). P k v) (sym now.1) (subst (λ (j : ℕ). P j x) (sym now.0) is)
]
