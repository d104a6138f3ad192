-- When a list is the front of another one, and when it stays so.
use Rattle.std.proofs.Common.{◌≡◌, ℕ, suc, ◌<◌, List, [], ◌∷◌, length, refl, sym, ap, arith, slice_get}
use Rattle.std.proofs.lemmas.Option.{none-some, same_Some}
use mathlib.Core.List.{IsPrefix}

-- what has at each of its places the item of the other list there is the front of that one
pub front_of_places : {A : Type 0} (xs ys : List A) → ((k : ℕ) → k < length xs → slice_get xs k ≡ slice_get ys k) → IsPrefix xs ys
front_of_places [] ys same = (ys, refl)
front_of_places (x ∷ xs) [] same = absurd (none-some x (sym (same 0 (omega arith))))
front_of_places {A} (x ∷ xs) (y ∷ ys) same =
    let rest = front_of_places xs ys (λ k below. same (suc k) (omega arith)) in
    let first : x ≡ y = same_Some x y (same 0 (omega arith)) in
    (rest.0, rw first (ap (λ (zs : List A). y ∷ zs) rest.1))
