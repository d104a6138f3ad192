-- Lines with too many words.
use Rattle.std.proofs.Common.{◌≡◌, ℕ, ◌<◌, List, [], ◌∷◌, length, None, refl, arith}
use Rattle.store_console.specs.Requests.{request_of}

pub too_many : (name a b c : List ℕ) (rest : List (List ℕ)) → 0 < length rest → request_of (name ∷ a ∷ b ∷ c ∷ rest) ≡ None
too_many name a b c [] some = absurd (omega arith)
too_many name a b c (d ∷ rest) some = refl
