-- The requests that lines spell.
use Rattle.std.specs.Prelude.{ℕ, ◌+◌, List, [], ◌∷◌, ◌++◌, bytes_eq, codes, if◌then◌else◌, Option, Some, None, option_map, Result, Ok, Err}
use Rattle.disk_layout.specs.declared.layout.TheConstants.{LEAST_SLOTS, MOST_SLOTS}
use Rattle.job_model.specs.declared.work.Work.{Work}
use Rattle.line_words.specs.Words.{number_of, words_of}
use Rattle.line_words.specs.Lines.{lines_of}
use Rattle.schedule.specs.Acts.{work_of}
use Rattle.schedule.specs.Fields.{number_between, priority_of}
use Rattle.store_console.specs.declared.request.Request.{Request}
use Rattle.store_console.specs.declared.request.Request.TheVariants as request
use Rattle.store_console.specs.declared.request.RequestLine.{RequestLine}

abbrev pub slots_of : List ℕ → Option ℕ
slots_of word = number_between LEAST_SLOTS MOST_SLOTS word

-- ---- lines

-- a name alone
abbrev pub alone_of : List ℕ → Option Request
alone_of name =
    if bytes_eq name (codes "mount") then Some request.Mount else
    if bytes_eq name (codes "raise") then Some request.Raise else
    if bytes_eq name (codes "compact") then Some request.Compact else
    if bytes_eq name (codes "list") then Some request.List else None

-- a name with one field
abbrev pub with_one : List ℕ → List ℕ → Option Request
with_one name field =
    if bytes_eq name (codes "format") then option_map request.Format (slots_of field) else
    if bytes_eq name (codes "done") then option_map request.Done (number_of field) else None

-- a name with the fields of a job, which is put
abbrev pub put_named : List ℕ → Option Work → Option Request
put_named name work = if bytes_eq name (codes "put") then option_map request.Put work else None

-- the request of these words
abbrev pub request_of : List (List ℕ) → Option Request
request_of [] = None
request_of (name ∷ []) = alone_of name
request_of (name ∷ a ∷ []) = with_one name a
request_of (name ∷ a ∷ b ∷ []) = put_named name (work_of a b (Some 0))
request_of (name ∷ a ∷ b ∷ c ∷ []) = put_named name (work_of a b (priority_of c))
request_of (name ∷ a ∷ b ∷ c ∷ d ∷ rest) = None

-- ---- the whole input

abbrev pub numbered : ℕ → Request → RequestLine
numbered n request = record { number = n; request = request }

-- the request of the line n in front of those of later lines; the first line that can't be read is the one that counts
abbrev pub in_front : ℕ → Option Request → Result (List RequestLine) ℕ → Result (List RequestLine) ℕ
in_front n None later = Err n
in_front n (Some request) (Ok requests) = Ok (numbered n request ∷ requests)
in_front n (Some request) (Err m) = Err m

-- the requests of these lines, where n lines came before; empty lines are passed over
abbrev pub requests_from : ℕ → List (List ℕ) → Result (List RequestLine) ℕ
requests_from n [] = Ok []
requests_from n ([] ∷ lines) = requests_from (n + 1) lines
requests_from n ((c ∷ line) ∷ lines) = in_front (n + 1) (request_of (words_of (c ∷ line))) (requests_from (n + 1) lines)

-- the requests that an input is, each with the number of its line, or the number of the first line that can't be read
abbrev pub requests_of : List ℕ → Result (List RequestLine) ℕ
requests_of input = requests_from 0 (lines_of input)

-- ---- for the code

-- requests, and the request of the line n behind them; an empty line has none
abbrev pub onto : List RequestLine → ℕ → List ℕ → Option (List RequestLine)
onto requests n [] = Some requests
onto requests n (c ∷ line) = option_map (λ request. requests ++ numbered n request ∷ []) (request_of (words_of (c ∷ line)))

-- requests in front of those of later lines
abbrev pub behind : List RequestLine → Result (List RequestLine) ℕ → Result (List RequestLine) ℕ
behind requests (Ok more) = Ok (requests ++ more)
behind requests (Err n) = Err n
