-- Hex lines, put together.
use Rattle.std.specs.Prelude.{ℕ, ◌+◌, List, [], ◌∷◌, ◌++◌, Option, Some, None, option_map, Result, Ok, Err, codes, decimal}
use Rattle.line_words.specs.Lines.{bytes_of, lines_of}
use Rattle.console_text.specs.Ends.{Printout, refused}

-- the bytes of a line of `answer` or `show`; an empty line has none
abbrev pub line_bytes : List ℕ → Option (List ℕ)
line_bytes [] = Some []
line_bytes (c ∷ rest) = bytes_of (c ∷ rest)

-- the bytes of a line in front of those of later lines; the first line that can't be read is the one that counts
abbrev pub joined : ℕ → Option (List ℕ) → Result (List ℕ) ℕ → Result (List ℕ) ℕ
joined n None later = Err n
joined n (Some bytes) (Ok more) = Ok (bytes ++ more)
joined n (Some bytes) (Err m) = Err m

-- the bytes of hex lines put together, or the number of the first line that can't be read; the first line has the number n
abbrev pub hex_lines_from : ℕ → List (List ℕ) → Result (List ℕ) ℕ
hex_lines_from n [] = Ok []
hex_lines_from n (line ∷ lines) = joined n (line_bytes line) (hex_lines_from (n + 1) lines)

abbrev pub hex_lines_of : List ℕ → Result (List ℕ) ℕ
hex_lines_of input = hex_lines_from 1 (lines_of input)

-- bytes, and more behind them, where both are there
abbrev pub then_bytes : Option (List ℕ) → Option (List ℕ) → Option (List ℕ)
then_bytes None later = None
then_bytes (Some bytes) later = option_map (λ more. bytes ++ more) later

-- the bytes of all lines, where each can be read
abbrev pub all_bytes : List (List ℕ) → Option (List ℕ)
all_bytes [] = Some []
all_bytes (line ∷ lines) = then_bytes (line_bytes line) (all_bytes lines)

-- what a command prints for the bytes that its lines spell; nothing is run where a line can't be read
abbrev pub over_read : (List ℕ → Printout) → Result (List ℕ) ℕ → Printout
over_read printout (Ok bytes) = printout bytes
over_read printout (Err n) = refused (codes "bad line " ++ decimal n)

abbrev pub over_hex_lines : (List ℕ → Printout) → List ℕ → Printout
over_hex_lines printout input = over_read printout (hex_lines_of input)
