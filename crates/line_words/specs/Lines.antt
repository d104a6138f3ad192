-- Lines of an input, and the bytes that words spell in hex.
use Rattle.std.specs.Prelude.{◌≡◌, ℕ, List, [], ◌∷◌, length, ◌==◌, ◌&&◌, ◌<◌, ◌-◌, nat_lt, Bool, if◌then◌else◌, Option, Some, None, Result}
use Rattle.std.specs.Prelude.{Err}
use Rattle.std.specs.List.{slice_split}
use Rattle.std.specs.Result.{result_ok}
use Rattle.hex.specs.Hex.{decode_of}
use Rattle.line_words.specs.declared.lines.LineFault.{LineFault}
use Rattle.line_words.specs.declared.lines.LineFault.TheVariants.{BadLine, NoMemory}

abbrev pub is_line_feed : ℕ → Bool
is_line_feed b = b == 10

-- the lines of an input; what stands behind the last line feed is a line too
abbrev pub lines_of : List ℕ → List (List ℕ)
lines_of input = slice_split is_line_feed input

-- the line of this number, of which the first has the number 1; none is there behind the last
abbrev pub line_numbered : ℕ → List (List ℕ) → List ℕ
line_numbered n [] = []
line_numbered n (line ∷ lines) = if nat_lt 1 n then line_numbered (n - 1) lines else line

-- the first line of a text, with what stands behind its line feed
pub record CutsLine (text line behind : List ℕ) : Type 0 where
  pub lines : lines_of text ≡ line ∷ lines_of behind
  pub shorter : length behind < length text

-- the bytes that a word spells in hex; a dash spells none
abbrev pub bytes_of : List ℕ → Option (List ℕ)
bytes_of [] = None
bytes_of (c ∷ rest) = if c == 45 && length rest == 0 then Some [] else result_ok (decode_of (c ∷ rest))

-- the fault names the first line that can't be read, or memory ran out
abbrev pub IsLineFault : {A : Type 0} → Result A ℕ → LineFault → Type 0
IsLineFault r (BadLine n) = r ≡ Err n
IsLineFault r NoMemory = Unit {0}

-- the fault names the line of this number, which can't be read, or memory ran out
abbrev pub IsFaultAt : {A : Type 0} → ℕ → Option A → LineFault → Type 0
IsFaultAt n read (BadLine m) = (m ≡ n) × (read ≡ None)
IsFaultAt n read NoMemory = Unit {0}
