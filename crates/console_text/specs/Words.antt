-- The words that texts are made of.
use Rattle.std.specs.Prelude.{ℕ, ◌≡◌, ◌<◌, ◌+◌, ◌*◌, ◌/◌, ◌%◌, ◌==◌, if◌then◌else◌, List, [], ◌∷◌, ◌++◌, slice_index, codes, decimal}
use Rattle.hex.specs.Hex.{encode_lower, lower_digits}

-- the two hex digits of a byte
abbrev pub pair_of : ℕ → List ℕ
pair_of byte = slice_index lower_digits (byte / 16) ∷ slice_index lower_digits (byte % 16) ∷ []

-- the digits of all bytes, one pair after another
pub record ArePairs (pairs : List ℕ) : Type 0 where
  pub at : (byte : ℕ) → byte < 256 → slice_index pairs (2 * byte) ∷ slice_index pairs (2 * byte + 1) ∷ [] ≡ pair_of byte

-- bytes in hex digits; a dash stands for none
abbrev pub bytes_text : List ℕ → List ℕ
bytes_text [] = codes "-"
bytes_text (b ∷ bytes) = encode_lower (b ∷ bytes)

-- a priority behind other words, left out where it is 0
abbrev pub priority_text : ℕ → List ℕ
priority_text priority = if priority == 0 then [] else codes " " ++ decimal priority

-- a job's queue, its payload and its priority
abbrev pub work_text : ℕ → List ℕ → ℕ → List ℕ
work_text queue payload priority = decimal queue ++ codes " " ++ bytes_text payload ++ priority_text priority
