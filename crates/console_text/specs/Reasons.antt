-- What standard error says of an input that can't be read.
use Rattle.std.specs.Prelude.{ℕ, ◌&&◌, nat_lt, List, [], ◌∷◌, ◌++◌, length, take, codes, decimal, if◌then◌else◌, Result, Ok, Err}
use Rattle.std.specs.List.{flat_map}
use Rattle.hex.specs.Hex.{encode_lower}

-- which line can't be read
abbrev pub line_head : ℕ → List ℕ
line_head number = codes "line " ++ decimal number ++ codes ": "

-- a byte as it may stand on a terminal: what isn't printed by itself stands in hex
abbrev pub byte_shown : ℕ → List ℕ
byte_shown b = if nat_lt 32 b && nat_lt b 127 then b ∷ [] else codes "\\x" ++ encode_lower (b ∷ [])

abbrev pub bytes_shown : List ℕ → List ℕ
bytes_shown bytes = flat_map byte_shown bytes

-- a word of an input, of which 40 bytes are shown at most
unfoldable pub word_shown : List ℕ → List ℕ
word_shown word = if nat_lt 40 (length word) then bytes_shown (take 40 word) ++ codes ".." else bytes_shown word

-- what is wrong with an input of which a line can't be read, where the line says that
abbrev pub line_flaw : {A : Type 0} → (ℕ → List ℕ) → Result A ℕ → List ℕ
line_flaw flaw (Ok read) = []
line_flaw flaw (Err n) = line_head n ++ flaw n
