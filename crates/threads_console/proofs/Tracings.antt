-- Items of a run that are taken one after another.
use Rattle.std.proofs.Common.{◌≡◌, ◌+◌, ℕ, List, [], ◌∷◌, ◌++◌, take, map, slice_get, Some, sym, ap, ◌∙◌, append_assoc}
use Rattle.std.proofs.lemmas.List.{map-append, take_more}
use Rattle.std.proofs.lemmas.Option.{get_or_from_slice_get, slice_get_within}

-- one more is taken
taken : {A : Type 0} (xs : List A) (i : ℕ) (x : A) → slice_get xs i ≡ Some x → take (i + 1) xs ≡ take i xs ++ x ∷ []
taken xs i x at = take_more xs i x (slice_get_within xs i x at) ∙ ap (λ y. take i xs ++ y ∷ []) (get_or_from_slice_get xs i x x at)

pub item_more : {A : Type 0} (xs out new : List A) (i : ℕ) (x : A) → slice_get xs i ≡ Some x → out ≡ take i xs → new ≡ out ++ x ∷ []
    → new ≡ take (i + 1) xs
item_more xs out new i x at is added = added ∙ ap (λ front. front ++ x ∷ []) is ∙ sym (taken xs i x at)

-- so of what stands for each
pub image_more : {A B : Type 0} (f : A → B) (xs : List A) (out new : List B) (i : ℕ) (x : A) → slice_get xs i ≡ Some x
    → out ≡ map f (take i xs) → new ≡ out ++ f x ∷ [] → new ≡ map f (take (i + 1) xs)
image_more f xs out new i x at is added = added ∙ ap (λ front. front ++ f x ∷ []) is
    ∙ sym (ap (map f) (taken xs i x at) ∙ map-append f (take i xs) (x ∷ []))

-- behind what was there before
pub behind_more : {A : Type 0} (front xs out new : List A) (i : ℕ) (x : A) → slice_get xs i ≡ Some x → out ≡ front ++ take i xs
    → new ≡ out ++ x ∷ [] → new ≡ front ++ take (i + 1) xs
behind_more front xs out new i x at is added = added ∙ ap (λ ys. ys ++ x ∷ []) is ∙ append_assoc front (take i xs) (x ∷ [])
    ∙ ap (λ ys. front ++ ys) (sym (taken xs i x at))
