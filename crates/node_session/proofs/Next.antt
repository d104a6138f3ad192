-- When something is due next, of two times.
use Rattle.std.proofs.Common.{◌≡◌, ◌≤◌, ◌<◌, ◌-◌, ◌^◌, ◌⊎◌, ℕ, Option, Some, None, inl, inr, refl, sym, ◌∙◌, subst, arith, min}
use Rattle.std.specs.Prelude.{IfSome, IsNone}
use Rattle.std.specs.Option.{unwrap_or}
use Rattle.std.proofs.lemmas.Bool.{cases_lt}

-- before the time that is given, or where none is
pub before : (o : Option ℕ) (Q : ℕ → Type 0) (later time : ℕ) → time ≡ unwrap_or o (2 ^ 64 - 1)
    → IfSome o (λ next. (now : ℕ) → now < next → Q now)
    → (IsNone o → (now : ℕ) → now < 2 ^ 64 → Q now) → later < time → Q later
before None Q later time is some none less = none refl later (omega (arith, is, less))
before (Some next) Q later time is some none less = some later (subst (λ (n : ℕ). later < n) is less)

-- at it
at_time : (o : Option ℕ) (Q : ℕ → Type 0) (time : ℕ) → time ≡ unwrap_or o (2 ^ 64 - 1) → time < 2 ^ 64 - 1 → IfSome o Q → Q time
at_time None Q time is less some = absurd (omega (arith, is, less))
at_time (Some next) Q time is less some = subst Q (sym is) some

pub at_first : (o p : Option ℕ) (Q R : ℕ → Type 0) (time other first : ℕ) → time ≡ unwrap_or o (2 ^ 64 - 1)
    → other ≡ unwrap_or p (2 ^ 64 - 1) → first ≡ min time other → first < 2 ^ 64 - 1
    → IfSome o Q → IfSome p R → Q first ⊎ R first
at_first o p Q R time other first is so least less some also = by_order (cases_lt other time) where
  by_order : (other < time) ⊎ (time ≤ other) → Q first ⊎ R first
  by_order (inl after) = (let same : first ≡ other = omega (arith, least, after) in inr (at_time p R first (same ∙ so) less also))
  by_order (inr before) = (let same : first ≡ time = omega (arith, least, before) in inl (at_time o Q first (same ∙ is) less some))
