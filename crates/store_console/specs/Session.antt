-- The text of the command `store`.
use Rattle.std.specs.Prelude.{◌≡◌, ℕ, List, [], ◌∷◌, ◌++◌, None, Option, IfSome, codes, decimal, Bool, true, false, Result, Ok, Err}
use Rattle.std.specs.Io.KnownBytes.{Appends}
use Rattle.console_text.specs.Ends.{Printout, ending_of, refused}
use Rattle.console_text.specs.declared.ends.ExitKind.{ExitKind}
use Rattle.console_text.specs.declared.ends.ExitKind.TheVariants.{Done, Refused, NoMemory, Unread, Unwritten}
use Rattle.store_console.specs.declared.request.RequestLine.{RequestLine}
use Rattle.store_console.specs.declared.reply.Reply.{Reply}
use Rattle.store_console.specs.Requests.{requests_of}
use Rattle.store_console.specs.Replies.{Mounted, RepliesOver, fails_after, reply_text}
use Rattle.store_console.specs.Explained.{Explains}
use Rattle.store_console.specs.Reasons.{session_flaw}

-- The text is what these requests were answered, one after the other, from what is mounted on, and from whether the device has failed.
-- What standard error says of them goes behind what it said before.
abbrev pub Answers : Bool → Mounted → List RequestLine → List ℕ → List ℕ → List ℕ → Type 0
Answers failed mounted [] before text why = (text ≡ []) × (why ≡ before)
Answers failed mounted (line ∷ lines) before text why =
    (reply : Reply) × (new : Mounted) × (rest : List ℕ) × (said : List ℕ) × RepliesOver failed mounted line.request reply new
    × Explains before line.number reply said × Answers (fails_after failed line.request reply) new lines said rest why
    × (text ≡ reply_text new reply ++ rest)

-- these requests are answered so, nothing being mounted at first, and this is said of them
abbrev pub AnswersRequests : List ℕ → Result (List RequestLine) ℕ → Printout → List ℕ → Type 0
AnswersRequests input (Err n) printout why = (printout ≡ refused (codes "bad line " ++ decimal n)) × (why ≡ session_flaw input)
AnswersRequests input (Ok lines) printout why = (printout.good ≡ true) × Answers false None lines [] printout.text why

-- What `store` prints for an input, and what standard error says of it: where a line can't be read, nothing is done, and it is said what is
-- wrong with it. Else each request is answered in turn, and it is said for which of them the file can't be had, and why.
abbrev pub IsSessionWith : List ℕ → Printout → List ℕ → Type 0
IsSessionWith input printout why = AnswersRequests input (requests_of input) printout why

abbrev pub IsSession : List ℕ → Printout → Type 0
IsSession input printout = (why : List ℕ) × IsSessionWith input printout why

-- this is said of the bytes that were read, whose text is written; where the reader says its bytes, they are these
abbrev pub Says : (List ℕ → Printout → List ℕ → Type 0) → Option (List ℕ) → Option (List ℕ) → Option (List ℕ) → ExitKind → List ℕ
    → Type 0
Says Is input old new ending why =
    (bytes : List ℕ) × (printout : Printout) × IfSome input (λ known. known ≡ bytes) × Is bytes printout why
    × (ending ≡ ending_of printout.good) × Appends old new printout.text

-- What standard error says belongs to what was printed.
abbrev pub Tells : (List ℕ → Printout → List ℕ → Type 0) → Option (List ℕ) → Option (List ℕ) → Option (List ℕ) → ExitKind → List ℕ
    → Type 0
Tells Is input old new Done why = Says Is input old new Done why
Tells Is input old new Refused why = Says Is input old new Refused why
Tells Is input old new NoMemory why = Unit {0}
Tells Is input old new Unread why = Unit {0}
Tells Is input old new Unwritten why = Unit {0}

abbrev pub IsTold : Option (List ℕ) → Option (List ℕ) → Option (List ℕ) → ExitKind → List ℕ → Type 0
IsTold = Tells IsSessionWith

-- the same, whatever the output
abbrev pub IsWhyOfIt : Option (List ℕ) → List ℕ → Type 0
IsWhyOfIt input why =
    (bytes : List ℕ) × (printout : Printout) × IfSome input (λ known. known ≡ bytes) × IsSessionWith bytes printout why

abbrev pub IsSessionWhy : Option (List ℕ) → ExitKind → List ℕ → Type 0
IsSessionWhy input Done why = IsWhyOfIt input why
IsSessionWhy input Refused why = IsWhyOfIt input why
IsSessionWhy input NoMemory why = Unit {0}
IsSessionWhy input Unread why = Unit {0}
IsSessionWhy input Unwritten why = Unit {0}

-- ---- for the code

-- whatever the requests that are left are answered, behind this text and these reasons it is what all of them are answered
abbrev pub GoesOn : List RequestLine → Bool → Mounted → List RequestLine → List ℕ → List ℕ → Type 0
GoesOn lines failed mounted left text why =
    (rest after : List ℕ) → Answers failed mounted left why rest after → Answers false None lines [] (text ++ rest) after
