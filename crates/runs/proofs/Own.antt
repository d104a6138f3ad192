-- Of a list of all nodes, what it has of one.
use Rattle.std.proofs.Common.{◌≡◌, ◌≢◌, ℕ, zero, suc, ◌+◌, ◌<◌, ◌≤◌, Bool, true, false, List, [], ◌∷◌, ◌++◌, map, refl, sym, ◌∙◌, ap, inl}
use Rattle.std.proofs.Common.{inr, arith}
use Rattle.std.specs.Prelude.{cond, ◌==◌}
use Rattle.std.specs.List.{filter}
use Rattle.std.proofs.lemmas.Bool.Decides.{nat_tests}
use Rattle.std.proofs.lemmas.List.{map-append}
use Rattle.std.proofs.lemmas.List.Elements.{filter-append}
use Rattle.histories.specs.Lists.{IsAmong}
use Rattle.histories.proofs.PublicLaws.{eq_nat}
use Rattle.std.specs.List.{range_with_len}

module _ {A B : Type 0} (node : A → ℕ) (part : A → B) where
  -- the elements of a node
  abbrev pub mine : ℕ → List A → List A
  mine n xs = filter (λ (x : A). node x == n) xs

  abbrev pub own : ℕ → List A → List B
  own n xs = map part (mine n xs)

  pub append_own : (n : ℕ) (xs ys : List A) → own n (xs ++ ys) ≡ own n xs ++ own n ys
  append_own n xs ys = ap (λ (zs : List A). map part zs) (filter-append (λ (x : A). node x == n) xs ys)
      ∙ map-append part (mine n xs) (mine n ys)

  pub among_mine : (n : ℕ) (x : A) (xs : List A) → node x ≡ n → IsAmong x xs → IsAmong (part x) (own n xs)
  among_mine n x [] of i = absurd i
  among_mine n x (y ∷ xs) of i = pick (node y == n) refl i (λ j. among_mine n x xs of j)
    where
      pick : (b : Bool) → (node y == n) ≡ b → IsAmong x (y ∷ xs) → (IsAmong x xs → IsAmong (part x) (own n xs))
          → IsAmong (part x) (map part (cond b (y ∷ mine n xs) (mine n xs)))
      pick true is i rest = elim i [ inl e ↦ inl (ap part e) | inr j ↦ inr (rest j) ]
      pick false is i rest = elim i [
        | inl e ↦ (let ne : node y ≢ n = grind (arith, nat_tests) in absurd (ne (sym (ap node e) ∙ of)))
        | inr j ↦ rest j
      ]

  pub of_mine : (n : ℕ) (b : B) (xs : List A) → IsAmong b (own n xs) → (x : A) × IsAmong x xs × (node x ≡ n) × (part x ≡ b)
  of_mine n b [] i = absurd i
  of_mine n b (y ∷ xs) i = pick (node y == n) refl i (λ j. of_mine n b xs j)
    where
      pick : (test : Bool) → (node y == n) ≡ test → IsAmong b (map part (cond test (y ∷ mine n xs) (mine n xs)))
          → (IsAmong b (own n xs) → (x : A) × IsAmong x xs × (node x ≡ n) × (part x ≡ b))
          → (x : A) × IsAmong x (y ∷ xs) × (node x ≡ n) × (part x ≡ b)
      pick true is i rest = elim i [
        | inl e ↦ (y, inl refl, eq_nat (node y) n is, sym e)
        | inr j ↦ (let it = rest j in (it.0, inr it.1, it.2, it.3))
      ]
      pick false is i rest = (let it = rest i in (it.0, inr it.1, it.2, it.3))

  -- elements that are all of node m
  module _ {C : Type 0} (each : C → A) (m n : ℕ) (of : (c : C) → node (each c) ≡ m) where
    pub all_mine : (m == n) ≡ true → (cs : List C) → own n (map each cs) ≡ map (λ (c : C). part (each c)) cs
    all_mine is [] = refl
    all_mine is (c ∷ cs) = let here : (node (each c) == n) ≡ true = rw (of c) is in
        rw here (ap (λ (bs : List B). part (each c) ∷ bs) (all_mine is cs))

    pub none_mine : (m == n) ≡ false → (cs : List C) → own n (map each cs) ≡ []
    none_mine is [] = refl
    none_mine is (c ∷ cs) = let other : (node (each c) == n) ≡ false = rw (of c) is in rw other (none_mine is cs)

  -- where each node has one element
  none_before : (each : ℕ → A) → ((i : ℕ) → node (each i) ≡ i) → (k i n : ℕ) → n < i → own n (map each (range_with_len i k)) ≡ []
  none_before each of zero i n lt = refl
  none_before each of (suc k) i n lt = let other : (node (each i) == n) ≡ false = rw (of i) (grind (arith, nat_tests, lt)) in
      rw other (none_before each of k (i + 1) n (omega (arith, lt)))

  pub one_each : (each : ℕ → A) → ((i : ℕ) → node (each i) ≡ i) → (k i n : ℕ) → i ≤ n → n < i + k
      → own n (map each (range_with_len i k)) ≡ part (each n) ∷ []
  one_each each of zero i n le lt = absurd (omega (arith, le, lt))
  one_each each of (suc k) i n le lt = pick (node (each i) == n) refl (λ above. one_each each of k (i + 1) n above (omega (arith, lt)))
    where
      pick : (b : Bool) → (node (each i) == n) ≡ b → (i + 1 ≤ n → own n (map each (range_with_len (i + 1) k)) ≡ part (each n) ∷ [])
          → map part (cond b (each i ∷ mine n (map each (range_with_len (i + 1) k))) (mine n (map each (range_with_len (i + 1) k))))
          ≡ part (each n) ∷ []
      pick true is rest =
          let same : i ≡ n = sym (of i) ∙ eq_nat (node (each i)) n is in
          (λ t. part (each (same t)) ∷ none_before each of k (i + 1) n (omega (arith, same)) t)
      pick false is rest = (let here = of i in let ne : i ≢ n = grind (arith, nat_tests) in rest (omega (arith, le, ne)))
