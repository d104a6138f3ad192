-- Elements of lists: by their places, as the headline says it, and one after another, as proofs by recursion want it.
use Rattle.std.proofs.Common.{◌≡◌, ℕ, zero, suc, ◌<◌, List, [], ◌∷◌, length, sym, inl, inr, arith, Option, Some, None, IfSome}
use Rattle.std.specs.Prelude.{Contains, slice_index_or}
use Rattle.histories.specs.Lists.{IsAmong}

pub contains : {A : Type 0} (x : A) (xs : List A) → IsAmong x xs → Contains xs x
contains x [] i = absurd i
contains x (y ∷ xs) i = elim i [
  | inl e ↦ (0, omega arith, sym e)
  | inr j ↦ (let it = contains x xs j in (suc it.0, omega (arith, it.1), it.2))
]

found : {A : Type 0} (x d : A) (xs : List A) (k : ℕ) → k < length xs → slice_index_or xs k d ≡ x → IsAmong x xs
found x d [] k within is = absurd (let bad : k < 0 = within in omega (arith, bad))
found x d (y ∷ xs) zero within is = inl (sym is)
found x d (y ∷ xs) (suc k) within is = inr (found x d xs k (omega (arith, within)) is)

pub among : {A : Type 0} (x : A) (xs : List A) → Contains xs x → IsAmong x xs
among x xs it = found x x xs it.0 it.1 it.2

pub some_more : {A : Type 0} (P Q : A → Type 0) (o : Option A) → ((x : A) → P x → Q x) → IfSome o P → IfSome o Q
some_more P Q None more h = tt
some_more P Q (Some x) more h = more x h
