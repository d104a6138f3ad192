-- Known bytes that grow by zeros, a piece at a time.
use Rattle.std.specs.Prelude.{◌≡◌, ℕ, ◌+◌, List, ◌++◌, replicate, Option, Some, None}
use Rattle.std.specs.Io.KnownBytes.{Appends}
use Rattle.std.proofs.Common.{ap, ◌∙◌}
use Rattle.std.proofs.lemmas.List.{append_assoc, replicate-append-replicate}

pub more_zeros : (old mid new : Option (List ℕ)) (m n all : ℕ) (piece : List ℕ) → piece ≡ replicate n 0 → m + n ≡ all
    → Appends old mid (replicate m 0) → Appends mid new piece → Appends old new (replicate all 0)
more_zeros None mid new m n all piece zeros sum before more = tt
more_zeros (Some xs) None new m n all piece zeros sum before more = absurd before
more_zeros (Some xs) (Some ys) None m n all piece zeros sum before more = absurd more
more_zeros (Some xs) (Some ys) (Some zs) m n all piece zeros sum before more =
    more ∙ ap (λ l. l ++ piece) before ∙ append_assoc xs (replicate m 0) piece
    ∙ ap (λ l. xs ++ (replicate m 0 ++ l)) zeros ∙ ap (λ l. xs ++ l) (replicate-append-replicate m n 0) ∙ ap (λ k. xs ++ replicate k 0) sum
