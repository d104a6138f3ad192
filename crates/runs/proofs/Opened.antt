-- The nodes that open, and the report of one more.
use Rattle.std.proofs.Common.{◌≡◌, ℕ, zero, suc, ◌+◌, List, [], ◌∷◌, ◌++◌, length, refl, sym, ◌∙◌, ap, arith, map, Some}
use Rattle.std.proofs.lemmas.List.{map-append}
use Rattle.job_model.specs.declared.node_command.NodeCommand.TheVariants.{Raise}
use Rattle.job_model.specs.Durable.{formatted}
use Rattle.node_core.specs.Words.{own_group}
use Rattle.histories.specs.NodeState.{NodeState, opening}
use Rattle.std.specs.List.{range_with_len}
use Rattle.runs.specs.declared.attempt_at.AttemptAt.{AttemptAt}
use Rattle.histories.specs.Kept.{Mounting}
use Rattle.runs.specs.Reporting.{first_report}

pub length_openings : (n k : ℕ) → length (map opening (range_with_len n k)) ≡ k
length_openings n zero = refl
length_openings n (suc k) = ap suc (length_openings (n + 1) k)

-- one more of what each node gives
one_more : {A : Type 0} (f : ℕ → A) (k n m : ℕ) → n + k ≡ m → map f (range_with_len n k) ++ f m ∷ [] ≡ map f (range_with_len n (suc k))
one_more f zero n m is = ap (λ (j : ℕ). f j ∷ []) (let e : m ≡ n = omega (arith, is) in e)
one_more {A} f (suc k) n m is = ap (λ (xs : List A). f n ∷ xs) (one_more f k (n + 1) m (omega (arith, is)))

pub opened_more : (k : ℕ) → record {
  opening = (first_report k).opening ++ (opening k).state ∷ [];
  moments = [];
  groups = (first_report k).groups ++ own_group k 1 ∷ [];
  commands = (first_report k).commands ++ record { node = k; tried = record { command = Raise; acked = Some 1 } } ∷ [];
  mounted = (first_report k).mounted ++ (k, record { before = 0; state = formatted }) ∷ [];
} ≡ first_report (suc k)
opened_more k = (λ i. record {
  opening = (sym (map-append (λ (s : NodeState). s.state) (map opening (range_with_len 0 k)) (opening k ∷ []))
      ∙ ap (λ (ss : List NodeState). map (λ (s : NodeState). s.state) ss) (one_more opening k 0 k (omega arith))) i;
  moments = [];
  groups = one_more (λ (n : ℕ). own_group n 1) k 0 k (omega arith) i;
  commands = one_more {A = AttemptAt} (λ (n : ℕ). record { node = n; tried = record { command = Raise; acked = Some 1 } }) k 0 k
      (omega arith) i;
  mounted = one_more {A = ℕ × Mounting} (λ (n : ℕ). (n, record { before = 0; state = formatted })) k 0 k (omega arith) i;
})
