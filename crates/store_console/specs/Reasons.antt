-- What is wrong with a line of the input, as standard error says it.
use Rattle.std.specs.Prelude.{ℕ, List, ◌++◌, bytes_eq, codes, if◌then◌else◌, Option, Some, None}
use Rattle.line_words.specs.Words.{first_word, words_of}
use Rattle.line_words.specs.Lines.{line_numbered, lines_of}
use Rattle.console_text.specs.Reasons.{line_flaw, word_shown}
use Rattle.store_console.specs.Requests.{requests_of}

-- how the request of a name is written
abbrev pub form_of : List ℕ → Option (List ℕ)
form_of name =
    if bytes_eq name (codes "format") then Some (codes "format SLOTS") else
    if bytes_eq name (codes "mount") then Some (codes "mount") else
    if bytes_eq name (codes "raise") then Some (codes "raise") else
    if bytes_eq name (codes "put") then Some (codes "put QUEUE HEX [P]") else
    if bytes_eq name (codes "done") then Some (codes "done ID") else
    if bytes_eq name (codes "compact") then Some (codes "compact") else
    if bytes_eq name (codes "list") then Some (codes "list") else None

abbrev pub flaw_by_form : List ℕ → Option (List ℕ) → List ℕ
flaw_by_form name None = codes "no such request: " ++ word_shown name
flaw_by_form name (Some form) = codes "not of the form " ++ form

abbrev pub name_flaw : List ℕ → List ℕ
name_flaw name = flaw_by_form name (form_of name)

-- what is wrong with a line that can't be read
abbrev pub request_flaw : List ℕ → List ℕ
request_flaw line = name_flaw (first_word (words_of line))

-- what is wrong with an input, in its first line that can't be read
abbrev pub session_flaw : List ℕ → List ℕ
session_flaw input = line_flaw (λ n. request_flaw (line_numbered n (lines_of input))) (requests_of input)
