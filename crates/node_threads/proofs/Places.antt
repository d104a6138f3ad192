-- Places of lists.
use Rattle.std.proofs.Common.{◌≡◌, ◌≢◌, ℕ, zero, suc, ◌+◌, ◌<◌, ◌⊎◌, Some, List, [], ◌∷◌, ◌++◌, map, length, slice_get, slice_index_or}
use Rattle.std.proofs.Common.{get_or, refl, ap, sym, ◌∙◌, subst, inl, inr, arith}
use Rattle.std.proofs.lemmas.Option.{slice_get-get_or, slice_get_within, same_Some}
use Rattle.histories.specs.Lists.{IsAmong}
use Rattle.node_lock.specs.declared.run.Run.{Run}
use Rattle.node_lock.proofs.PublicLaws.{get_same, get_again}
use Rattle.node_lock.specs.Planned.{Planned}
use Rattle.node_threads.specs.declared.size.RunSize.{RunSize}
use Rattle.node_threads.specs.Nodes.{PollOthers, run_at}

-- the item at a place of the list
pub place_of : {A : Type 0} (xs : List A) (n : ℕ) → n < length xs → (x : A) × (slice_get xs n ≡ Some x)
place_of [] n within = absurd (omega (arith, within))
place_of (x ∷ xs) zero within = (x, refl)
place_of (x ∷ xs) (suc n) within = place_of xs n (omega (arith, within))

-- one of the list stands at a place
pub among_at : {A : Type 0} (x : A) (xs : List A) → IsAmong x xs → (k : ℕ) × (k < length xs) × (slice_index_or xs k x ≡ x)
among_at x [] is = absurd is
among_at x (y ∷ xs) (inl same) = (0, omega arith, sym same)
among_at x (y ∷ xs) (inr later) = let rest = among_at x xs later in let lt = rest.1 in (suc rest.0, omega (arith, lt), rest.2)

pub at_map : {A B : Type 0} (f : A → B) (xs : List A) (k : ℕ) (y : B) → slice_get (map f xs) k ≡ Some y
    → (x : A) × (slice_get xs k ≡ Some x) × (f x ≡ y)
at_map f [] k y at = absurd cc
at_map f (x ∷ xs) zero y at = (x, refl, same_Some (f x) y at)
at_map f (x ∷ xs) (suc k) y at = at_map f xs k y at

pub at_or_before : (k n : ℕ) → k < n + 1 → (k < n) ⊎ (k ≡ n)
at_or_before k n lt = grind (arith, lt)

-- what stands in a list stays there when the list is added to
pub get_more : {A : Type 0} (xs ys : List A) (k : ℕ) (x : A) → slice_get xs k ≡ Some x → slice_get (xs ++ ys) k ≡ Some x
get_more xs ys k x at = get_same xs ys k (slice_get_within xs k x at) ∙ at

pub get_before : {A : Type 0} (xs : List A) (k : ℕ) (x y : A) → k < length xs → slice_get (xs ++ y ∷ []) k ≡ Some x
    → slice_get xs k ≡ Some x
get_before xs k x y lt at = sym (get_same xs (y ∷ []) k lt) ∙ at

-- and what is added stands behind it
pub get_last : {A : Type 0} (xs : List A) (k : ℕ) (x : A) → k ≡ length xs → slice_get (xs ++ x ∷ []) k ≡ Some x
get_last xs k x is = rw is (get_again xs x)

-- what a node's intake polls, by the plan that stands at its place
pub polls_of : (size : RunSize) (plans : List Planned) (run : Run) (at node : ℕ) (own p : Planned) → PollOthers plans
    → length plans ≡ size.nodes → node < length plans → own ≡ get_or plans node own → p ≡ own → run ≡ run_at size at → at ≡ node
    → (i d : ℕ) → i < length p.intake → (run.node ≢ slice_index_or p.intake i d) × (slice_index_or p.intake i d < run.nodes)
polls_of size plans run at node own p polls len within is same runs places = λ i d lt.
    let got : slice_get plans node ≡ Some p = slice_get-get_or plans node own within ∙ ap (λ (q : Planned). Some q) (sym is ∙ sym same) in
    let other = polls node p got i (slice_index_or p.intake i d) (slice_get-get_or p.intake i d lt) in
    subst (λ (r : Run). (r.node ≢ slice_index_or p.intake i d) × (slice_index_or p.intake i d < r.nodes))
    (sym (runs ∙ ap (run_at size) places)) (other.0, subst (λ (n : ℕ). slice_index_or p.intake i d < n) len other.1)
