-- Bytes that were read from a word, or none.
use Rattle.std.proofs.Common.{◌≡◌, ℕ, Bool, true, false, List, [], ◌++◌, Option, Some, None, refl, sym, ap, ◌∙◌}
use Rattle.std.specs.Prelude.{MatchOption}
use Rattle.std.proofs.lemmas.Bool.{false≢true}

pub is_read : (o : Option (List ℕ)) (good : Bool) (items : List ℕ)
    → MatchOption o (good ≡ false) (λ more. (good ≡ true) × (items ≡ [] ++ more)) → good ≡ true → Some items ≡ o
is_read None good items read is = absurd (false≢true (sym read ∙ is))
is_read (Some more) good items read is = ap Some read.1

pub not_read : (o : Option (List ℕ)) (good : Bool) (items : List ℕ)
    → MatchOption o (good ≡ false) (λ more. (good ≡ true) × (items ≡ [] ++ more)) → good ≡ false → None ≡ o
not_read None good items read is = refl
not_read (Some more) good items read is = absurd (false≢true (sym is ∙ read.0))
