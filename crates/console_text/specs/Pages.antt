-- Printing in pieces.
use Rattle.std.specs.Prelude.{ℕ, List, Option}
use Rattle.std.specs.Io.KnownBytes.{Appends, append_known}

-- a text was handed to an output and a page in front of it: what was printed, with what the page holds, grows by the text
abbrev pub Hands : Option (List ℕ) → List ℕ → Option (List ℕ) → List ℕ → List ℕ → Type 0
Hands old page new rest text = Appends (append_known old page) (append_known new rest) text
