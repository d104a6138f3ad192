-- The requests of lines, put behind those that came before.
use Rattle.std.proofs.Common.{◌≡◌, ℕ, ◌+◌, List, [], ◌∷◌, ◌++◌, Option, Some, None, Result, Ok, Err, option_map, refl, sym, ap, ◌∙◌}
use Rattle.std.proofs.Common.{append_assoc, append-nil}
use Rattle.line_words.specs.Words.{words_of}
use Rattle.store_console.specs.declared.request.Request.{Request}
use Rattle.store_console.specs.declared.request.RequestLine.{RequestLine}
use Rattle.store_console.specs.Requests.{requests_from, request_of, behind, in_front, numbered, onto}

behind_request : (n : ℕ) (before after : List RequestLine) (request : Option Request) (later : Result (List RequestLine) ℕ)
    → Some after ≡ option_map (λ r. before ++ numbered n r ∷ []) request → behind before (in_front n request later) ≡ behind after later
behind_request n before after None later read = absurd cc
behind_request n before after (Some r) (Ok more) read =
    let whole : after ≡ before ++ numbered n r ∷ [] = cc in
    rw whole (ap (λ (xs : List RequestLine). Ok xs) (sym (append_assoc before (numbered n r ∷ []) more)))
behind_request n before after (Some r) (Err m) read = refl

-- a line's request goes behind those that came before
pub behind_line : (n : ℕ) (before after : List RequestLine) (line : List ℕ) (lines : List (List ℕ)) → Some after ≡ onto before (n + 1) line
    → behind before (requests_from n (line ∷ lines)) ≡ behind after (requests_from (n + 1) lines)
behind_line n before after [] lines read = let same : after ≡ before = cc in rw same refl
behind_line n before after (c ∷ line) lines read =
    behind_request (n + 1) before after (request_of (words_of (c ∷ line))) (requests_from (n + 1) lines) read

behind_no_request : (n : ℕ) (before : List RequestLine) (request : Option Request) (later : Result (List RequestLine) ℕ)
    → option_map (λ r. before ++ numbered n r ∷ []) request ≡ None → behind before (in_front n request later) ≡ Err n
behind_no_request n before None later bad = refl
behind_no_request n before (Some r) later bad = absurd cc

-- a line that can't be read
pub behind_fault : (n : ℕ) (before : List RequestLine) (line : List ℕ) (lines : List (List ℕ)) → onto before (n + 1) line ≡ None
    → behind before (requests_from n (line ∷ lines)) ≡ Err (n + 1)
behind_fault n before [] lines bad = absurd cc
behind_fault n before (c ∷ line) lines bad =
    behind_no_request (n + 1) before (request_of (words_of (c ∷ line))) (requests_from (n + 1) lines) bad

-- the last line
pub behind_last : (n : ℕ) (before after : List RequestLine) (line : List ℕ) → Some after ≡ onto before (n + 1) line
    → behind before (requests_from n (line ∷ [])) ≡ Ok after
behind_last n before after line read = behind_line n before after line [] read ∙ ap (λ (xs : List RequestLine). Ok xs) (append-nil after)

-- nothing came before
pub behind_nothing : (later : Result (List RequestLine) ℕ) → behind [] later ≡ later
behind_nothing (Ok more) = refl
behind_nothing (Err m) = refl
