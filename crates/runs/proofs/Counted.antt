-- How many commands each node tried.
use Rattle.std.proofs.Common.{◌≡◌, ◌≢◌, ℕ, ◌+◌, ◌<◌, ◌≤◌, Bool, true, false, List, [], ◌∷◌, ◌++◌, length, replicate, slice_get, refl, sym}
use Rattle.std.proofs.Common.{◌∙◌, ap, subst, arith, Some}
use Rattle.std.specs.Prelude.{◌==◌, slice_set, if◌then◌else◌}
use Rattle.std.specs.List.{filter}
use Rattle.std.proofs.lemmas.Bool.Decides.{nat_tests}
use Rattle.std.proofs.lemmas.List.{length-append, length-map, length-replicate, get_or-replicate}
use Rattle.std.proofs.lemmas.List.Sums.{length-filter, count_by-le-length}
use Rattle.std.proofs.lemmas.Option.{slice_get_within, get_or_from_slice_get}
use Rattle.histories.specs.declared.attempt.Attempt.{Attempt}
use Rattle.histories.proofs.PublicLaws.{eq_nat}
use Rattle.runs.specs.Reporting.{own_commands, first_report}
use Rattle.runs.specs.declared.attempt_at.AttemptAt.{AttemptAt}
use Rattle.runs.proofs.Reports.{own_append, raised_once}
use Rattle.runs.proofs.Runs.{get_set_same, get_set_other}

pub own_few : (n : ℕ) (xs : List AttemptAt) → length (own_commands n xs) ≤ length xs
own_few n xs =
    let of : AttemptAt → Bool = λ (t : AttemptAt). t.node == n in
    omega (arith, length-map (filter of xs) (λ (t : AttemptAt). t.tried), length-filter of xs, count_by-le-length of xs)

-- the count of one more command of node n
own_more : (n k : ℕ) (xs : List AttemptAt) (t : AttemptAt) → t.node ≡ n
    → length (own_commands k (xs ++ t ∷ [])) ≡ length (own_commands k xs) + (if n == k then 1 else 0)
own_more n k xs t is = ap (λ (ts : List Attempt). length ts) (own_append k xs (t ∷ []))
    ∙ length-append (own_commands k xs) (own_commands k (t ∷ [])) ∙ ap (λ (j : ℕ). length (own_commands k xs) + j) (by_node (n == k) refl)
  where
    by_node : (b : Bool) → (n == k) ≡ b → length (own_commands k (t ∷ [])) ≡ (if b then 1 else 0)
    by_node true at = rw (is, at) refl
    by_node false at = rw (is, at) refl

-- these count each node's commands
abbrev pub Counts : List AttemptAt → List ℕ → Type 0
Counts commands counts = (k m : ℕ) → slice_get counts k ≡ Some m → m ≡ length (own_commands k commands)

pub counts_more : (n before : ℕ) (commands : List AttemptAt) (counts : List ℕ) (t : AttemptAt) → Counts commands counts
    → slice_get counts n ≡ Some before → t.node ≡ n → Counts (commands ++ t ∷ []) (slice_set counts n (before + 1))
counts_more n before commands counts t counted at is k m at_k = by_place (n == k) refl
  where
    by_place : (b : Bool) → (n == k) ≡ b → m ≡ length (own_commands k (commands ++ t ∷ []))
    by_place true eq =
        let same : n ≡ k = eq_nat n k eq in
        let there : slice_get (slice_set counts n (before + 1)) n ≡ Some m =
        subst (λ (j : ℕ). slice_get (slice_set counts n (before + 1)) j ≡ Some m) (sym same) at_k in
        let now : slice_get (slice_set counts n (before + 1)) n ≡ Some (before + 1) = get_set_same counts n before (before + 1) at in
        let value : before + 1 ≡ m = cc (now, there) in
        let one : before ≡ length (own_commands k commands) = subst (λ (j : ℕ). before
        ≡ length (own_commands j commands)) same (counted n before at) in
        sym value ∙ ap (λ (j : ℕ). j + 1) one ∙ sym (own_more n k commands t is
        ∙ ap (λ (b : Bool). length (own_commands k commands) + (if b then 1 else 0)) eq)
    by_place false eq =
        let ne : k ≢ n = grind (arith, nat_tests) in
        let one : m ≡ length (own_commands k commands) = counted k m (sym (get_set_other counts k n (before + 1) ne) ∙ at_k) in
        let none : length (own_commands k commands) + 0 ≡ length (own_commands k commands) = omega arith in
        one ∙ sym (own_more n k commands t is ∙ ap (λ (b : Bool). length (own_commands k commands) + (if b then 1 else 0)) eq ∙ none)

-- each node tried one command when it opened
pub counts_opened : (nodes : ℕ) → Counts (first_report nodes).commands (replicate nodes 1)
counts_opened nodes n k at =
    let within : n < nodes = omega (arith, slice_get_within (replicate nodes 1) n k at, length-replicate {A = ℕ} nodes 1) in
    let one : 1 ≡ k = sym (get_or-replicate {A = ℕ} nodes n 1 0 within) ∙ get_or_from_slice_get (replicate nodes 1) n k 0 at in
    sym one ∙ sym (ap (λ (ts : List Attempt). length ts) (raised_once nodes n within))
