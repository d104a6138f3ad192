-- Plans, compared by what they say.
use Rattle.std.specs.Prelude.{Bool, true, false, nat_eq, ◌≡◌}
use Rattle.std.specs.Bool.{Decides}
use Rattle.std.specs.Cmp.{IsEquivalence}
use Rattle.std.specs.Cmp.Lexicographic.{pointwise}
use Rattle.std.specs.Ordering.{on, eq_of_both}
use Rattle.std.proofs.Common.{refl, sym, ap}
use Rattle.std.proofs.lemmas.Bool.Decides.{Decides-eqb, Decides-and}
use Rattle.std.proofs.lemmas.Slice.Eq.{slice_eq-Decides}
use Rattle.node_core.specs.declared.timer.Timer.{Timer}
use Rattle.node_lock.specs.declared.order.OperatorOrder.{OperatorOrder}
use Rattle.node_lock.specs.Planned.{Planned}

-- two are one where they have the same turns for each worker
abbrev pub same_plans : (Timer → Timer → Bool) → (OperatorOrder → OperatorOrder → Bool) → Planned → Planned → Bool
same_plans E F = eq_of_both (on (λ (p : Planned). p.intake) (pointwise nat_eq))
    (eq_of_both (on (λ (p : Planned). p.clock) (pointwise E)) (on (λ (p : Planned). p.operator) (pointwise F)))

pub plans_decided : {E : Timer → Timer → Bool} {F : OperatorOrder → OperatorOrder → Bool} → ((a b : Timer) → Decides (E a b) (a ≡ b))
    → ((a b : OperatorOrder) → Decides (F a b) (a ≡ b))
    → (p q : Planned) → Decides (same_plans E F p q) (p ≡ q)
plans_decided d e p q =
    let all = Decides-and _ _ (slice_eq-Decides Decides-eqb p.intake q.intake _ refl)
    (Decides-and _ _ (slice_eq-Decides d p.clock q.clock _ refl) (slice_eq-Decides e p.operator q.operator _ refl)) in (
      λ same. (let lists = all.0 same in λ i. record { intake = lists.0 i; clock = lists.1.0 i; operator = lists.1.1 i }),
      λ same. all.1 (ap (λ (p : Planned). p.intake) same, (ap (λ (p : Planned). p.clock) same, ap (λ (p : Planned). p.operator) same)),
    )

-- what decides equality is an equivalence
both_ways : {a b : Bool} → (a ≡ true → b ≡ true) → (b ≡ true → a ≡ true) → a ≡ b
both_ways {a = true} {b = true} f g = refl
both_ways {a = true} {b = false} f g = sym (f refl)
both_ways {a = false} {b = true} f g = g refl
both_ways {a = false} {b = false} f g = refl

pub equiv_of : {K : Type 0} {E : K → K → Bool} → ((a b : K) → Decides (E a b) (a ≡ b)) → IsEquivalence E
equiv_of {E = E} d = record {
  refl = λ x. (d x x).1 refl;
  symm = λ x y. both_ways (λ same. (d y x).1 (sym ((d x y).0 same))) (λ same. (d x y).1 (sym ((d y x).0 same)));
  congr = λ x y z same. ap (λ w. E w z) ((d x y).0 same);
}
