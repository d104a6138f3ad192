-- A count that stays 0 had no cause to rise.
use Rattle.std.proofs.Common.{◌≡◌, ◌⊎◌, inl, inr, ℕ, ◌-◌, ◌^◌, ◌<◌, Bool, true, false, List, [], ◌∷◌, refl, sym, ap, ◌∙◌, subst, arith}
use Rattle.std.specs.Prelude.{MatchBool}
use Rattle.histories.specs.HistoryEvent.{Entry}
use Rattle.histories.specs.Lists.{IsAmong}
use Rattle.node_lock.specs.Path.{Path}
use Rattle.node_lock.specs.Wearing.{Fails, IsAreaExhausted, NoneAreaExhausted, is_fault}

step_zero : (b : Bool) (n m : ℕ) → MatchBool b ((n < m) ⊎ (m ≡ 2 ^ 64 - 1)) (m ≡ n) → m ≡ 0 → (b ≡ false) × (n ≡ 0)
step_zero true n m (inl rose) none = absurd (let no : ⊥ = omega (arith, rose, none) in no)
step_zero true n m (inr most) none = absurd (let no : ⊥ = omega (arith, most, none) in no)
step_zero false n m same none = (refl, sym same ∙ none)

count_zero : (es : List Entry) (n : ℕ) → Path Fails n es 0 → n ≡ 0
count_zero [] n path = path
count_zero (e ∷ es) n path = (step_zero (is_fault e.what) n path.0 path.1 (count_zero es path.0 path.2)).1

pub none_failed : (es : List Entry) (n failures : ℕ) → failures ≡ 0 → Path Fails n es failures → (e : Entry) → IsAmong e es
    → is_fault e.what ≡ false
none_failed [] n failures none path e is = absurd is
none_failed (x ∷ es) n failures none path e (inl same) =
    ap (λ (y : Entry). is_fault y.what) same ∙ (step_zero (is_fault x.what) n path.0 path.1
    (count_zero es path.0 (subst (λ (k : ℕ). Path Fails path.0 es k) none path.2))).0
none_failed (x ∷ es) n failures none path e (inr later) = none_failed es path.0 failures none path.2 e later

pub none_area_exhausted : (es : List Entry) → NoneAreaExhausted es → (e : Entry) → IsAmong e es → IsAreaExhausted e.what → ⊥
none_area_exhausted [] all e is = absurd is
none_area_exhausted (x ∷ es) all e (inl same) = λ area_exhausted. all.0 (subst (λ (y : Entry). IsAreaExhausted y.what) same area_exhausted)
none_area_exhausted (x ∷ es) all e (inr later) = none_area_exhausted es all.1 e later
