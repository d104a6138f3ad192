-- Words of a line, and the numbers that they spell.
use Rattle.std.specs.Prelude.{◌≡◌, ℕ, ◌+◌, ◌-◌, ◌*◌, ◌^◌, ◌<◌, ◌==◌, ◌&&◌, nat_lt, nat_le, Bool, List, [], ◌∷◌, length, if◌then◌else◌}
use Rattle.std.specs.Prelude.{Option, Some, None}
use Rattle.std.specs.List.{slice_split}

abbrev pub is_space : ℕ → Bool
is_space b = b == 32

-- the words of a line stand between single spaces; two spaces side by side have an empty word between them
abbrev pub words_of : List ℕ → List (List ℕ)
words_of line = slice_split is_space line

-- the first of the words of a line
abbrev pub first_word : List (List ℕ) → List ℕ
first_word [] = []
first_word (word ∷ words) = word

-- the first word of a line, with what stands behind the space after it
pub record CutsWord (line word behind : List ℕ) : Type 0 where
  pub words : words_of line ≡ word ∷ words_of behind
  pub some : 0 < length (words_of behind)

abbrev pub is_digit : ℕ → Bool
is_digit c = nat_le 48 c && nat_lt c 58

-- a number with a digit more behind it, where it is a digit and the number stays below 2^64
abbrev pub with_digit : ℕ → ℕ → Option ℕ
with_digit n c = if is_digit c && nat_lt (n * 10 + (c - 48)) (2 ^ 64) then Some (n * 10 + (c - 48)) else None

abbrev pub then_digits : (ℕ → Option ℕ) → Option ℕ → Option ℕ
then_digits more None = None
then_digits more (Some n) = more n

-- the number of these digits behind n
abbrev pub value_from : List ℕ → ℕ → Option ℕ
value_from [] n = Some n
value_from (c ∷ digits) n = then_digits (value_from digits) (with_digit n c)

-- the number that a word spells in decimal, below 2^64: no sign, and no zero in front of other digits
abbrev pub number_of : List ℕ → Option ℕ
number_of [] = None
number_of (c ∷ rest) = if c == 48 && nat_lt 0 (length rest) then None else value_from (c ∷ rest) 0
