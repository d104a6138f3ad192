-- The turns of an order, from the first to the last.
use Rattle.std.proofs.Common.{◌≡◌, ℕ, suc, List, [], ◌∷◌, ◌++◌, take, drop, reverse, slice_get, Some, sym, ap, ◌∙◌, subst}
use Rattle.std.proofs.Math.Seq.{take-suc}
use Rattle.std.proofs.lemmas.List.{take-append-drop, reverse-append}
use Rattle.std.proofs.lemmas.Option.{get_or_from_slice_get, slice_get_within}
use Rattle.trace_check.specs.Claims.{Claim}
use Rattle.trace_check.specs.Orders.{IsLegal, MayTake}
use Rattle.trace_check.specs.Followed.{before}

-- one turn more
pub before_more : (order : List ℕ) (k n : ℕ) → slice_get order k ≡ Some n → before order (suc k) ≡ n ∷ before order k
before_more order k n at =
    ap (λ (xs : List ℕ). reverse xs) (take-suc order k n (slice_get_within order k n at)) ∙ reverse-append (take k order) _
    ∙ ap (λ (m : ℕ). m ∷ before order k) (get_or_from_slice_get order k n n at)

legal_tail : (hs : List (List Claim)) (later past : List ℕ) → IsLegal hs (later ++ past) → IsLegal hs past
legal_tail hs [] past legal = legal
legal_tail hs (n ∷ later) past legal = legal_tail hs later past legal.1

-- a front of a legal order is legal
pub legal_before : (hs : List (List Claim)) (order : List ℕ) (k : ℕ) → IsLegal hs (reverse order) → IsLegal hs (before order k)
legal_before hs order k legal =
    legal_tail hs (reverse (drop k order)) (before order k)
    (subst (λ (past : List ℕ). IsLegal hs past) (ap (λ (xs : List ℕ). reverse xs) (sym (take-append-drop k order))
    ∙ reverse-append (take k order) (drop k order)) legal)

-- each turn of a legal order can be taken
pub may_take : (hs : List (List Claim)) (order : List ℕ) (k n : ℕ) → IsLegal hs (reverse order) → slice_get order k ≡ Some n
    → MayTake hs (before order k) n
may_take hs order k n legal at = (subst (λ (past : List ℕ). IsLegal hs past) (before_more order k n at)
    (legal_before hs order (suc k) legal)).0
