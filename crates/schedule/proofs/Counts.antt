-- Lines with too few or too many words.
use Rattle.std.proofs.Common.{◌≡◌, ℕ, ◌<◌, List, [], ◌∷◌, length, Option, Some, None, refl, arith}
use Rattle.schedule.specs.declared.verb.Verb.{Verb}
use Rattle.schedule.specs.Verbs.{verb_of}
use Rattle.schedule.specs.Acts.{act_of, act_with, with_verb}
use Rattle.schedule.specs.Text.{size_of}

-- a verb needs a field
pub alone : (name : List ℕ) → act_of (name ∷ []) ≡ None
alone name = none (verb_of name)
  where
    none : (o : Option Verb) → with_verb (λ verb. act_with verb []) o ≡ None
    none None = refl
    none (Some verb) = refl

-- more than four fields
pub too_many : (verb : Verb) (a b c d : List ℕ) (rest : List (List ℕ)) → 0 < length rest → act_with verb (a ∷ b ∷ c ∷ d ∷ rest) ≡ None
too_many verb a b c d [] some = absurd (omega arith)
too_many verb a b c d (e ∷ rest) some = refl

-- more than three words of a cluster
pub too_long : (a b c : List ℕ) (rest : List (List ℕ)) → 0 < length rest → size_of (a ∷ b ∷ c ∷ rest) ≡ None
too_long a b c [] some = absurd (omega arith)
too_long a b c (d ∷ rest) some = refl
