-- What is cut and what is lost, after one change.
use Rattle.std.proofs.Common.{◌≡◌, ◌≢◌, ℕ, zero, suc, ◌<◌, Bool, true, false, List, [], ◌∷◌, ◌++◌, length, refl, sym, ◌∙◌, ap, subst, arith}
use Rattle.std.proofs.Common.{slice_index_or}
use Rattle.std.specs.Prelude.{◌==◌, ◌&&◌, ◌||◌, not, nat_lt, if◌then◌else◌, slice_set, min, max}
use Rattle.std.proofs.lemmas.Bool.Decides.{nat_tests}
use Rattle.std.proofs.lemmas.List.{get_or-set_other}
use Rattle.std.proofs.lemmas.Grind.{get_or-set_at}
use Rattle.group_task.specs.Ids.{has, with_id, without_id}
use Rattle.sim_net.specs.Network.{is_cut, with_pair}
use Rattle.sim_net.specs.Changes.{same_pair}

or_twice : (b c : Bool) → b || c ≡ b || (b || c)
or_twice true c = refl
or_twice false c = refl

or_swap : (a b c : Bool) → b || (a || c) ≡ a || (b || c)
or_swap true true c = refl
or_swap true false c = refl
or_swap false true c = refl
or_swap false false c = refl

with_parts : (before same : Bool) (x y id : ℕ) (ys more : List ℕ) → (same ≡ true → x ≡ y) → has more id ≡ (id == x) || has ys id
    → has (if before then x ∷ y ∷ ys else (if same then y ∷ ys else y ∷ more)) id ≡ (id == x) || has (y ∷ ys) id
with_parts true same x y id ys more is rest = refl
with_parts false true x y id ys more is rest = let e : x ≡ y = is refl in rw e (or_twice (id == y) (has ys id))
with_parts false false x y id ys more is rest = ap (λ (b : Bool). (id == y) || b) rest ∙ or_swap (id == x) (id == y) (has ys id)

equal : (x y : ℕ) → (x == y) ≡ true → x ≡ y
equal x y h = grind (arith, nat_tests)

-- an id is in the set with another where it is that one, or was there
pub with_has : (ids : List ℕ) (x id : ℕ) → has (with_id ids x) id ≡ (id == x) || has ids id
with_has [] x id = refl
with_has (y ∷ ys) x id = with_parts (nat_lt x y) (x == y) x y id ys (with_id ys x) (equal x y) (with_has ys x id)

without_parts : (same : Bool) (x y id : ℕ) (ys less : List ℕ) → (y == x) ≡ same → has less id ≡ not (id == x) && has ys id
    → has (if not same then y ∷ less else less) id ≡ not (id == x) && ((id == y) || has ys id)
without_parts true x y id ys less is rest = let e : y ≡ x = equal y x is in rw e (rest ∙ not_twice (id == x) (has ys id))
  where
    not_twice : (a b : Bool) → not a && b ≡ not a && (a || b)
    not_twice true b = refl
    not_twice false b = refl
without_parts false x y id ys less is rest = by_id (id == y) (id == x) refl refl
  where
    by_id : (a b : Bool) → (id == y) ≡ a → (id == x) ≡ b → (id == y) || has less id ≡ not (id == x) && ((id == y) || has ys id)
    by_id true true at also = let both : id ≡ y = equal id y at in let other : id ≡ x = equal id x also in
        absurd (let ne : y ≢ x = grind (arith, nat_tests) in ne (sym both ∙ other))
    by_id true false at also = rw (at, also) refl
    by_id false b at also = rw at rest

pub without_has_all : (ids : List ℕ) (x id : ℕ) → has (without_id ids x) id ≡ not (id == x) && has ids id
without_has_all [] x id = none (id == x)
  where
    none : (b : Bool) → false ≡ not b && false
    none true = refl
    none false = refl
without_has_all (y ∷ ys) x id = without_parts (y == x) x y id ys (without_id ys x) refl (without_has_all ys x id)

-- ---- pairs

pub cut_now : (cuts : List (List ℕ)) (a b c d : ℕ) → c < length cuts → d < length cuts
    → is_cut (with_pair with_id cuts c d) a b ≡ same_pair a b c d || is_cut cuts a b
cut_now cuts a b c d in_c in_d = by_row (min a b == min c d) refl
  where
    by_row : (t : Bool) → (min a b == min c d) ≡ t
        → has (slice_index_or (slice_set cuts (min c d) (with_id (slice_index_or cuts (min c d) []) (max c d))) (min a b) []) (max a b)
        ≡ (t && max a b == max c d) || is_cut cuts a b
    by_row true is =
        let same : min a b ≡ min c d = equal (min a b) (min c d) is in
        ap (λ (ids : List ℕ). has ids (max a b)) (get_or-set_at cuts (min c d) (min a b)
        (with_id (slice_index_or cuts (min c d) []) (max c d)) [] same (omega (arith, in_c, in_d)))
        ∙ with_has (slice_index_or cuts (min c d) []) (max c d) (max a b)
        ∙ ap (λ (j : ℕ). (max a b == max c d) || has (slice_index_or cuts j []) (max a b)) (sym same)
    by_row false is =
        let ne : min a b ≢ min c d = grind (arith, nat_tests) in
        ap (λ (ids : List ℕ). has ids (max a b)) (get_or-set_other cuts (min c d) (min a b)
        (with_id (slice_index_or cuts (min c d) []) (max c d)) [] ne)

pub mended_now : (cuts : List (List ℕ)) (a b c d : ℕ) → c < length cuts → d < length cuts
    → is_cut (with_pair without_id cuts c d) a b ≡ not (same_pair a b c d) && is_cut cuts a b
mended_now cuts a b c d in_c in_d = by_row (min a b == min c d) refl
  where
    by_row : (t : Bool) → (min a b == min c d) ≡ t
        → has (slice_index_or (slice_set cuts (min c d) (without_id (slice_index_or cuts (min c d) []) (max c d))) (min a b) []) (max a b)
        ≡ not (t && max a b == max c d) && is_cut cuts a b
    by_row true is =
        let same : min a b ≡ min c d = equal (min a b) (min c d) is in
        ap (λ (ids : List ℕ). has ids (max a b)) (get_or-set_at cuts (min c d) (min a b)
        (without_id (slice_index_or cuts (min c d) []) (max c d)) [] same (omega (arith, in_c, in_d)))
        ∙ without_has_all (slice_index_or cuts (min c d) []) (max c d) (max a b)
        ∙ ap (λ (j : ℕ). not (max a b == max c d) && has (slice_index_or cuts j []) (max a b)) (sym same)
    by_row false is =
        let ne : min a b ≢ min c d = grind (arith, nat_tests) in
        ap (λ (ids : List ℕ). has ids (max a b)) (get_or-set_other cuts (min c d) (min a b)
        (without_id (slice_index_or cuts (min c d) []) (max c d)) [] ne)

-- ---- losses

pub not_lost_yet : (lost : List Bool) (k : ℕ) → slice_index_or (lost ++ false ∷ []) k false ≡ slice_index_or lost k false
not_lost_yet [] zero = refl
not_lost_yet [] (suc k) = refl
not_lost_yet (x ∷ lost) zero = refl
not_lost_yet (x ∷ lost) (suc k) = not_lost_yet lost k

pub lost_now : (lost : List Bool) (j k : ℕ) → slice_index_or (slice_set lost j true) k false
    ≡ (k == j && nat_lt k (length lost)) || slice_index_or lost k false
lost_now lost j k = by_number (k == j) (nat_lt k (length lost)) refl refl
  where
    past : (xs : List Bool) (i n : ℕ) → (n < length xs → ⊥) → slice_index_or (slice_set xs i true) n false ≡ slice_index_or xs n false
    past [] i n beyond = refl
    past (x ∷ xs) zero zero beyond = absurd (beyond (omega arith))
    past (x ∷ xs) zero (suc n) beyond = refl
    past (x ∷ xs) (suc i) zero beyond = refl
    past (x ∷ xs) (suc i) (suc n) beyond = past xs i n (λ lt. beyond (omega (arith, lt)))

    by_number : (t u : Bool) → (k == j) ≡ t → nat_lt k (length lost) ≡ u
        → slice_index_or (slice_set lost j true) k false ≡ (t && u) || slice_index_or lost k false
    by_number true true is there = let same : k ≡ j = equal k j is in let lt : k < length lost = grind (arith, nat_tests) in
        get_or-set_at lost j k true false same (subst (λ (n : ℕ). n < length lost) same lt)
    by_number true false is there = past lost j k (λ lt. (let yes_it : nat_lt k (length lost) ≡ true = grind (arith, nat_tests) in
        absurd cc (there, yes_it)))
    by_number false u is there = let ne : k ≢ j = grind (arith, nat_tests) in get_or-set_other lost j k true false ne
