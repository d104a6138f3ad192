-- Which ids the words of sets have, whatever list they are given.
use Rattle.std.proofs.Common.{◌≡◌, ◌≢◌, ℕ, zero, suc, ◌+◌, ◌<◌, Bool, true, false, ◌||◌, List, [], ◌∷◌, length, refl, sym, ◌∙◌, arith, cond}
use Rattle.std.proofs.Common.{eqb, drop}
use Rattle.std.proofs.lemmas.Bool.Decides.{nat_tests}
use Rattle.std.specs.Prelude.{nat_lt}
use Rattle.group_task.specs.Ids.{has, with_id, without_id, either_of, ids_below, RisesWithin, IsSet}
use Rattle.group_task.specs.declared.node.TheConstants.{NODES}
use Rattle.group_task.specs.Others.{AreOthers}
use Rattle.group_task.proofs.Words.{has-with_id, has-without_id, has-either_of, RisesWithin-with_id, length-rising}

pub with_has_same : (ids : List ℕ) (id : ℕ) → has (with_id ids id) id ≡ true
with_has_same ids id = grind (arith, nat_tests, has-with_id id id ids)

pub with_has_other : (ids : List ℕ) (other id : ℕ) → id ≢ other → has ids id ≡ false → has (with_id ids other) id ≡ false
with_has_other ids other id ne h = grind (arith, nat_tests, has-with_id other id ids)

pub without_has_same : (ids : List ℕ) (id : ℕ) → has (without_id ids id) id ≡ false
without_has_same ids id = grind (arith, nat_tests, has-without_id id id ids)

pub without_has : (ids : List ℕ) (other id : ℕ) → has ids id ≡ false → has (without_id ids other) id ≡ false
without_has ids other id h = grind (arith, nat_tests, has-without_id other id ids)

pub either_has : (xs ys : List ℕ) (id : ℕ) → has xs id ≡ false → has ys id ≡ false → has (either_of xs ys) id ≡ false
either_has xs ys id f g = grind (arith, nat_tests, has-either_of id xs ys)

-- what stands in the list is in the set
pub has_dropped : (ids rest : List ℕ) (k id : ℕ) → drop k ids ≡ id ∷ rest → has ids id ≡ true
has_dropped [] rest zero id e = absurd cc
has_dropped [] rest (suc k) id e = absurd cc
has_dropped (x ∷ xs) rest zero id e = let same : x ≡ id = cc in grind (arith, nat_tests)
has_dropped (x ∷ xs) rest (suc k) id e = grind (arith, nat_tests, has_dropped xs rest k id e)

pub has_below : (nodes id : ℕ) → has (ids_below nodes) id ≡ nat_lt id nodes
has_below zero id = grind (arith, nat_tests)
has_below (suc n) id = grind (arith, nat_tests, has-with_id n id (ids_below n), has_below n id)

-- ---- sets of other nodes

pub none_others : (nodes self : ℕ) → AreOthers nodes self []
none_others nodes self = record { not_self = refl; within = λ id h. absurd cc }

pub with_others : (nodes self : ℕ) (ids : List ℕ) (other : ℕ) → self ≢ other → other < nodes → AreOthers nodes self ids
    → AreOthers nodes self (with_id ids other)
with_others nodes self ids other ne lt h = record {
  not_self = with_has_other ids other self ne h.not_self;
  within = λ id in_it. grown (eqb id other) (has ids id) id refl (sym (has-with_id other id ids) ∙ in_it) (h.within id);
}
  where
    grown : (b c : Bool) (id : ℕ) → eqb id other ≡ b → (b || c) ≡ true → (c ≡ true → id < nodes) → id < nodes
    grown true c id e t f = grind (arith, nat_tests)
    grown false c id e t f = f t

pub without_others : (nodes self : ℕ) (ids : List ℕ) (other : ℕ) → AreOthers nodes self ids → AreOthers nodes self (without_id ids other)
without_others nodes self ids other h = record {
  not_self = without_has ids other self h.not_self;
  within = λ id in_it. left (eqb id other) (has ids id) (sym (has-without_id other id ids) ∙ in_it) (h.within id);
}
  where
    left : {A : Type 0} (b c : Bool) → cond b false c ≡ true → (c ≡ true → A) → A
    left true c t f = absurd cc
    left false c t f = f t

pub either_others : (nodes self : ℕ) (xs ys : List ℕ) → AreOthers nodes self xs → AreOthers nodes self ys
    → AreOthers nodes self (either_of xs ys)
either_others nodes self xs ys h k = record {
  not_self = either_has xs ys self h.not_self k.not_self;
  within = λ id in_it. of_one (has xs id) (has ys id) (sym (has-either_of id xs ys) ∙ in_it) (h.within id) (k.within id);
}
  where
    of_one : {A : Type 0} (b c : Bool) → (b || c) ≡ true → (b ≡ true → A) → (c ≡ true → A) → A
    of_one true c t f g = f refl
    of_one false c t f g = g t

-- the other nodes of a cluster
pub all_others : (nodes self : ℕ) → AreOthers nodes self (without_id (ids_below nodes) self)
all_others nodes self = record {
  not_self = without_has_same (ids_below nodes) self;
  within = λ id in_it. grind (arith, nat_tests, in_it, has-without_id self id (ids_below nodes), has_below nodes id);
}

-- ---- how many other nodes there are

narrow : (low high limit : ℕ) (ids : List ℕ) → RisesWithin low high ids → ((id : ℕ) → has ids id ≡ true → id < limit)
    → RisesWithin low limit ids
narrow low high limit [] r h = tt
narrow low high limit (x ∷ xs) r h =
    (r.0, h x (grind (arith, nat_tests)), narrow (x + 1) high limit xs r.2 (λ id i. h id (grind (arith, nat_tests, i))))

pub length_with_id : (ids : List ℕ) (id : ℕ) → has ids id ≡ false → length (with_id ids id) ≡ suc (length ids)
length_with_id [] id h = refl
length_with_id (x ∷ xs) id h = grind (arith, nat_tests, length_with_id xs id)

-- a set of other nodes has fewer ids than the cluster has nodes
pub few_others : (nodes self : ℕ) (ids : List ℕ) → self < nodes → IsSet ids → AreOthers nodes self ids → length ids < nodes
few_others nodes self ids lt set others =
    let within : RisesWithin 0 nodes ids = narrow 0 NODES nodes ids set others.within in
    let grown : RisesWithin 0 nodes (with_id ids self) = RisesWithin-with_id self 0 nodes ids (omega arith) lt within in
    omega (arith, length-rising 0 nodes (with_id ids self) (omega arith) grown, length_with_id ids self others.not_self)
