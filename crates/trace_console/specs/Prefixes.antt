-- A run as it comes, line by line, and what is printed of it.
use Rattle.std.specs.Prelude.{ℕ, ◌≡◌, ◌<◌, ◌⊎◌, ◌==◌, ◌&&◌, Bool, true, false, List, [], ◌∷◌, ◌++◌, length, if◌then◌else◌, codes, Option}
use Rattle.std.specs.Prelude.{Some, None, Result, Ok, Err}
use Rattle.std.specs.Io.KnownBytes.{Appends, Consumes, IsAtEnd}
use Rattle.std.specs.declared.alloc.AllocError.{AllocError}
use Rattle.console_text.specs.Ends.{Printout, PrintsText, line, ending_of}
use Rattle.console_text.specs.declared.ends.Output.{Output}
use Rattle.console_text.specs.declared.ends.ExitKind.{ExitKind}
use Rattle.console_text.specs.declared.ends.ExitKind.TheVariants.{Done, Refused, NoMemory, Unread, Unwritten}
use Rattle.line_words.specs.Lines.{is_line_feed, lines_of}
use Rattle.trace_check.specs.Claims.{Claim}
use Rattle.trace_check.specs.Orders.{history}
use Rattle.trace_text.specs.declared.fault.Location.{Location}
use Rattle.trace_text.specs.Tellings.{TellingsData}
use Rattle.trace_text.specs.Wholes.{trace_of}
use Rattle.trace_console.specs.declared.judging.Stage.TheVariants.{Ongoing}
use Rattle.trace_console.specs.declared.prefixes.Prefix.{Prefix}
use Rattle.trace_console.specs.Judged.{bad_trace}
use Rattle.trace_console.specs.Answers.{IsJudgementAsTold}
use Rattle.trace_console.specs.Told.{IsThen, IsToldIn, row}

-- ---- a line

-- node by node, the entries of a piece come behind those that came; the first piece says how many nodes there are
abbrev pub joined : List (List Claim) → List (List Claim) → List (List Claim)
joined [] piece = piece
joined (h ∷ hs) [] = h ∷ hs
joined (h ∷ hs) (p ∷ piece) = (h ++ p) ∷ joined hs piece

abbrev pub fits : List (List Claim) → List (List Claim) → Bool
fits [] piece = true
fits (h ∷ hs) piece = length (h ∷ hs) == length piece

abbrev pub piece_from : List (List Claim) → Result (List (List Claim)) (Option Location) → Result (List (List Claim)) (Option Location)
piece_from came (Ok piece) = if fits came piece then Ok piece else Err None
piece_from came (Err location) = Err location

-- the entries that a line brings behind those that came: a trace of as many nodes
abbrev pub piece_of : List (List Claim) → List ℕ → Result (List (List Claim)) (Option Location)
piece_of came text = piece_from came (trace_of text)

-- of each of so many nodes, what more is told stands behind what is told first of the entries of these histories
abbrev pub AreThen : List (List Claim) → ℕ → TellingsData → TellingsData → TellingsData → Type 0
AreThen hs nodes first more all =
    (n : ℕ) → n < nodes → IsThen None (length (history hs n)) (row first n) (row more n) (row all n)

-- These entries of a line came behind those before, and so did what it tells of them.
pub record Joins (old : Prefix) (bytes : List ℕ) (piece : List (List Claim)) (new : Prefix) : Type 0 where
  pub trace : new.trace ≡ joined old.trace piece
  pub line : TellingsData
  pub is_line : IsToldIn bytes line
  pub told : AreThen old.trace (length new.trace) old.told line new.told
  pub good : new.good ≡ old.good

abbrev pub BringsTo : Prefix → List ℕ → Prefix → Type 0
BringsTo old bytes new = (piece : List (List Claim)) × (piece_of old.trace bytes ≡ Ok piece) × Joins old bytes piece new

-- The verdict on what came, and on what was told of it, as it is said of a run that may go on.
pub record IsAsked (old new : Prefix) (text : List ℕ) : Type 0 where
  pub printout : Printout
  pub verdict : IsJudgementAsTold Ongoing old.trace old.told printout
  pub text_is : text ≡ printout.text
  pub trace : new.trace ≡ old.trace
  pub told : new.told ≡ old.told
  pub good : new.good ≡ (old.good && printout.good)

-- what a line does, and what is printed: an empty one asks, and any other brings entries, of which nothing is printed
abbrev pub IsTaken : Prefix → List ℕ → Prefix → List ℕ → Type 0
IsTaken old [] new text = IsAsked old new text
IsTaken old (c ∷ bytes) new text = BringsTo old (c ∷ bytes) new × (text ≡ [])

-- so of these lines, one behind another
abbrev pub AreTaken : Prefix → List (List ℕ) → Prefix → List ℕ → Type 0
AreTaken old [] new text = (new ≡ old) × (text ≡ [])
AreTaken old (bytes ∷ lines) new text = (mid : Prefix) × (first : List ℕ) × (rest : List ℕ) × IsTaken old bytes mid first
    × AreTaken mid lines new rest × (text ≡ first ++ rest)

-- it brings nothing that can be taken, which is answered
abbrev pub IsRefusedLine : List (List Claim) → List ℕ → Option (List ℕ) → Option (List ℕ) → Type 0
IsRefusedLine came bytes before behind = (location : Option Location) × (piece_of came bytes ≡ Err location)
    × Appends before behind (line (bad_trace location))

abbrev pub no_memory : List ℕ
no_memory = line (codes "no memory")

-- a text is printed, or that there was no memory for it
abbrev pub PrintsMade : Result Output AllocError → Option (List ℕ) → Option (List ℕ) → ExitKind → Type 0
PrintsMade (Ok printout) before behind ending = PrintsText printout.text.items before behind (ending_of printout.good) ending
PrintsMade (Err error) before behind ending = PrintsText no_memory before behind NoMemory ending

-- a line was taken, or it is the last one that is, since it can't be, or memory ran out, or a write failed
abbrev pub EndsLine : Prefix → List ℕ → Prefix → Option (List ℕ) → Option (List ℕ) → Option ExitKind → Type 0
EndsLine old bytes new before behind None = (text : List ℕ) × IsTaken old bytes new text × Appends before behind text
EndsLine old bytes new before behind (Some Done) = ⊥
EndsLine old bytes new before behind (Some Refused) = IsRefusedLine old.trace bytes before behind
EndsLine old bytes new before behind (Some NoMemory) = Appends before behind no_memory
EndsLine old bytes new before behind (Some Unread) = ⊥
EndsLine old bytes new before behind (Some Unwritten) = Unit {0}

-- ---- a piece of the input

abbrev pub HasNoFeed : List ℕ → Type 0
HasNoFeed [] = Unit {0}
HasNoFeed (c ∷ bytes) = (is_line_feed c ≡ false) × HasNoFeed bytes

-- Of what stood there and came behind it these lines are whole and were taken, and this is left.
pub record IsGone (old : Prefix) (kept piece : List ℕ) (now : Prefix) (unread left : List ℕ) (before behind : Option (List ℕ)) :
    Type 0 where
  pub lines : List (List ℕ)
  pub cut : (more : List ℕ) → lines_of (kept ++ (piece ++ more)) ≡ lines ++ lines_of (unread ++ (left ++ more))
  pub text : List ℕ
  pub taken : AreTaken old lines now text
  pub printed : Appends before behind text
  pub clear : HasNoFeed unread

-- Lines of it were taken, and behind the answers to them this came of the others.
pub record IsBroken (Ends : Prefix → List (List ℕ) → Option (List ℕ) → Type 0) (old : Prefix) (kept piece : List ℕ)
    (before : Option (List ℕ)) : Type 0 where
  pub lines : List (List ℕ)
  pub others : List (List ℕ)
  pub cut : lines_of (kept ++ piece) ≡ lines ++ others
  pub mid : Prefix
  pub text : List ℕ
  pub taken : AreTaken old lines mid text
  pub here : Option (List ℕ)
  pub printed : Appends before here text
  pub ends : Ends mid others here

abbrev pub IsRefusedFirst : Option (List ℕ) → Prefix → List (List ℕ) → Option (List ℕ) → Type 0
IsRefusedFirst behind mid [] here = ⊥
IsRefusedFirst behind mid (bad ∷ others) here = IsRefusedLine mid.trace bad here behind

abbrev pub EndsPiece : Prefix → List ℕ → List ℕ → Prefix → List ℕ → Option (List ℕ) → Option (List ℕ) → Option ExitKind → Type 0
EndsPiece old kept piece new unread before behind None = IsGone old kept piece new unread [] before behind
EndsPiece old kept piece new unread before behind (Some Done) = ⊥
EndsPiece old kept piece new unread before behind (Some Refused) = IsBroken (IsRefusedFirst behind) old kept piece before
EndsPiece old kept piece new unread before behind (Some NoMemory) =
    IsBroken (λ mid others here. Appends here behind no_memory) old kept piece before
EndsPiece old kept piece new unread before behind (Some Unread) = ⊥
EndsPiece old kept piece new unread before behind (Some Unwritten) = Unit {0}

-- ---- the whole input

-- nothing came yet
abbrev pub nothing : Prefix
nothing = record { trace = []; told = []; good = true }

-- All whole lines of what was read were taken, and this was printed of them.
pub record IsJudged (input rest before behind : Option (List ℕ)) (came : Prefix) : Type 0 where
  pub bytes : List ℕ
  pub read : Consumes input rest bytes
  pub lines : List (List ℕ)
  pub unread : List ℕ
  pub cut : lines_of bytes ≡ lines ++ unread ∷ []
  pub text : List ℕ
  pub taken : AreTaken nothing lines came text
  pub printed : Appends before behind text

-- The first lines of what was read were taken, and behind the answers to them this came of the others.
pub record IsStopped (Ends : Prefix → List (List ℕ) → Option (List ℕ) → Type 0) (input rest before : Option (List ℕ)) : Type 0 where
  pub bytes : List ℕ
  pub read : Consumes input rest bytes
  pub broken : IsBroken Ends nothing [] bytes before

-- By how it ends. Nothing is said of a writer that failed.
abbrev pub JudgesPrefixes : Option (List ℕ) → Option (List ℕ) → Option (List ℕ) → Option (List ℕ) → ExitKind → Type 0
JudgesPrefixes input rest before behind Done = (came : Prefix) × IsJudged input rest before behind came × (came.good ≡ true) × IsAtEnd rest
JudgesPrefixes input rest before behind Refused =
    ((came : Prefix) × IsJudged input rest before behind came × (came.good ≡ false) × IsAtEnd rest)
    ⊎ IsStopped (IsRefusedFirst behind) input rest before
JudgesPrefixes input rest before behind NoMemory = IsStopped (λ mid others here. Appends here behind no_memory) input rest before
JudgesPrefixes input rest before behind Unread = (came : Prefix) × IsJudged input rest before behind came
JudgesPrefixes input rest before behind Unwritten = Unit {0}
