-- The bytes of lines put together.
use Rattle.std.proofs.Common.{◌≡◌, ℕ, ◌+◌, List, [], ◌++◌, Option, Some, None, Result, Ok, Err, option_map, refl, sym, ap, ◌∙◌}
use Rattle.std.proofs.Common.{append_assoc, append-nil}
use Rattle.invite_console.specs.Lines.{joined, line_bytes}

joined_read : (n : ℕ) (before after : List ℕ) (bytes : Option (List ℕ)) (later : Result (List ℕ) ℕ)
    → option_map (λ more. before ++ more) bytes ≡ Some after
    → joined n (Some before) (joined n bytes later) ≡ joined (n + 1) (Some after) later
joined_read n before after None later read = cc
joined_read n before after (Some bytes) (Ok more) read = let whole : before ++ bytes ≡ after = cc in
    ap (λ (xs : List ℕ). Ok xs) (sym (append_assoc before bytes more) ∙ ap (λ xs. xs ++ more) whole)
joined_read n before after (Some bytes) (Err m) read = refl

-- a line's bytes go to those that came before
pub joined_line : (n : ℕ) (before after line : List ℕ) (later : Result (List ℕ) ℕ)
    → option_map (λ more. before ++ more) (line_bytes line) ≡ Some after
    → joined n (Some before) (joined n (line_bytes line) later) ≡ joined (n + 1) (Some after) later
joined_line n before after line later read = joined_read n before after (line_bytes line) later read

-- the last line
pub joined_last : (n : ℕ) (before after line : List ℕ) → option_map (λ more. before ++ more) (line_bytes line) ≡ Some after
    → joined n (Some before) (joined n (line_bytes line) (Ok [])) ≡ Ok after
joined_last n before after line read = joined_line n before after line (Ok []) read ∙ ap (λ (xs : List ℕ). Ok xs) (append-nil after)

-- a line that can't be read
pub joined_fault : (n : ℕ) (before line : List ℕ) (later : Result (List ℕ) ℕ) → line_bytes line ≡ None
    → joined n (Some before) (joined n (line_bytes line) later) ≡ Err n
joined_fault n before line later bad = ap (λ bytes. joined n (Some before) (joined n bytes later)) bad

-- nothing came before
pub joined_nothing : (n : ℕ) (later : Result (List ℕ) ℕ) → joined n (Some []) later ≡ later
joined_nothing n (Ok more) = refl
joined_nothing n (Err m) = refl
