-- The lines of a text, when the first is cut off.
use Rattle.std.proofs.Common.{◌≡◌, ℕ, ◌+◌, ◌<◌, List, [], ◌∷◌, length, Some, None, refl, ap, ◌∙◌, arith}
use Rattle.std.proofs.lemmas.List.Splits.{length-slice_split}
use Rattle.line_words.specs.Lines.{CutsLine, is_line_feed, lines_of}
use Rattle.threads_console.specs.Lines.{LinesLeft, end_from, left_behind, numbered_from}

abbrev lines_left : ℕ → List (List ℕ) → LinesLeft
lines_left n lines = record { lines = numbered_from n lines; end = end_from n lines }

empty_first : (n : ℕ) (line : List ℕ) (lines : List (List ℕ)) → length line ≡ 0 → 0 < length lines
    → lines_left n (line ∷ lines) ≡ lines_left (n + 1) lines
empty_first n [] [] none some = absurd (omega (arith, some))
empty_first n [] (next ∷ lines) none some = refl
empty_first n (c ∷ line) lines none some = absurd (omega (arith, none))

some_lines : (text : List ℕ) → 0 < length (lines_of text)
some_lines text = omega (arith, length-slice_split is_line_feed text)

-- an empty line is passed over
pub empty_line : (n : ℕ) (text line behind : List ℕ) → CutsLine text line behind → length line ≡ 0
    → left_behind n (Some text) ≡ left_behind (n + 1) (Some behind)
empty_line n text line behind cut none = ap (lines_left n) cut.lines ∙ empty_first n line (lines_of behind) none (some_lines behind)

abbrev with_line : ℕ → List ℕ → LinesLeft → LinesLeft
with_line n line left = record { lines = (n, line) ∷ left.lines; end = left.end }

full_first : (n : ℕ) (line : List ℕ) (lines : List (List ℕ)) → 0 < length line
    → lines_left n (line ∷ lines) ≡ with_line (n + 1) line (lines_left (n + 1) lines)
full_first n [] lines some = absurd (omega (arith, some))
full_first n (c ∷ line) lines some = refl

-- any other one is the next
pub full_line : (n : ℕ) (text line behind : List ℕ) → CutsLine text line behind → 0 < length line
    → left_behind n (Some text) ≡ record {
      lines = (n + 1, line) ∷ (left_behind (n + 1) (Some behind)).lines;
      end =
          (left_behind (n + 1) (Some behind)).end;
    }
full_line n text line behind cut some = ap (lines_left n) cut.lines ∙ full_first n line (lines_of behind) some

last_none : (n : ℕ) (text : List ℕ) → length text ≡ 0 → lines_left n (text ∷ []) ≡ left_behind n None
last_none n [] none = refl
last_none n (c ∷ text) none = absurd (omega (arith, none))

-- what stands behind the last line feed is a line where it isn't empty
pub empty_end : (n : ℕ) (text : List ℕ) → lines_of text ≡ text ∷ [] → length text ≡ 0 → left_behind n (Some text) ≡ left_behind n None
empty_end n text last none = ap (lines_left n) last ∙ last_none n text none

pub full_end : (n : ℕ) (text : List ℕ) → lines_of text ≡ text ∷ [] → 0 < length text
    → left_behind n (Some text) ≡ record { lines = (n + 1, text) ∷ []; end = n + 1 + 1 }
full_end n text last some = ap (lines_left n) last ∙ full_first n text [] some
