-- The lines of a text that aren't empty, with their numbers.
use Rattle.std.specs.Prelude.{ℕ, ◌+◌, List, [], ◌∷◌, length, Option, Some, None}
use Rattle.line_words.specs.Lines.{lines_of}

-- the lines that aren't empty, each with its number, where n lines came before
abbrev pub numbered_from : ℕ → List (List ℕ) → List (ℕ × List ℕ)
numbered_from n [] = []
numbered_from n ([] ∷ lines) = numbered_from (n + 1) lines
numbered_from n ((c ∷ line) ∷ lines) = (n + 1, c ∷ line) ∷ numbered_from (n + 1) lines

-- the number of the line behind the last, where n lines came before: an empty part behind the last line feed is no line
abbrev pub end_from : ℕ → List (List ℕ) → ℕ
end_from n [] = n + 1
end_from n ([] ∷ []) = n + 1
end_from n ([] ∷ line ∷ lines) = end_from (n + 1) (line ∷ lines)
end_from n ((c ∷ line) ∷ lines) = end_from (n + 1) lines

-- lines with their numbers, and the number of the line behind the last
pub record LinesLeft : Type 0 where
  pub lines : List (ℕ × List ℕ)
  pub end : ℕ

abbrev pub all_left : List (List ℕ) → LinesLeft
all_left lines = record { lines = numbered_from 0 lines; end = end_from 0 lines }

-- ---- for the code

-- the lines of what is left of a text, if anything is
abbrev pub left_behind : ℕ → Option (List ℕ) → LinesLeft
left_behind n None = record { lines = []; end = n + 1 }
left_behind n (Some text) = record { lines = numbered_from n (lines_of text); end = end_from n (lines_of text) }

-- a measure of it: each line that is cut off makes it less
abbrev pub length_left : Option (List ℕ) → ℕ
length_left None = 0
length_left (Some text) = length text + 1
