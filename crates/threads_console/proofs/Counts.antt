-- Lines with too few or too many words.
use Rattle.std.proofs.Common.{◌≡◌, ℕ, ◌<◌, List, [], ◌∷◌, length, bytes_eq, Bool, true, false, if◌then◌else◌, Option, Some, None}
use Rattle.std.proofs.Common.{option_map, refl, arith}
use Rattle.std.specs.Prelude.{codes}
use Rattle.schedule.specs.Fields.{number_below}
use Rattle.threads_console.specs.declared.turn.PlanTurn.{PlanTurn}
use Rattle.threads_console.specs.declared.turn.PlanTurn.TheVariants.{Poll, Fire, Do}
use Rattle.threads_console.specs.Turns.{line_of, of_one, order_of, turn_at}
use Rattle.threads_console.specs.Scripts.{capacity_of}

-- a worker needs a field
pub no_fields : (nodes : ℕ) (node worker : List ℕ) → line_of nodes (node ∷ worker ∷ []) ≡ None
no_fields nodes node worker = none (number_below nodes node)
  where
    no_turn : (own : ℕ) (a b c : Bool) → option_map {U = ℕ × PlanTurn} (λ turn. (own, turn))
        (if a then option_map Poll None else if b then option_map Fire None else if c then option_map Do None else None) ≡ None
    no_turn own true b c = refl
    no_turn own false true c = refl
    no_turn own false false true = refl
    no_turn own false false false = refl

    none : (o : Option ℕ) → turn_at nodes o worker [] ≡ None
    none None = refl
    none (Some own) = no_turn own (bytes_eq worker (codes "intake")) (bytes_eq worker (codes "clock")) (bytes_eq worker (codes "operator"))

-- more than one
pub more_than_one : {A : Type 0} (read : List ℕ → Option A) (a : List ℕ) (rest : List (List ℕ)) → 0 < length rest
    → of_one read (a ∷ rest) ≡ None
more_than_one read a [] some = absurd (omega arith)
more_than_one read a (b ∷ rest) some = refl

-- more than three fields of an order
pub too_many : (name a b c : List ℕ) (rest : List (List ℕ)) → 0 < length rest → order_of (name ∷ a ∷ b ∷ c ∷ rest) ≡ None
too_many name a b c [] some = absurd (omega arith)
too_many name a b c (d ∷ rest) some = refl

-- more than two words of links
pub two_numbers : (a b : List ℕ) (rest : List (List ℕ)) → 0 < length rest → capacity_of (a ∷ b ∷ rest) ≡ None
two_numbers a b [] some = absurd (omega arith)
two_numbers a b (c ∷ rest) some = refl
