-- What a command prints, and how it ends.
use Rattle.std.specs.Prelude.{◌≡◌, ℕ, List, [], ◌∷◌, ◌++◌, Bool, false, if◌then◌else◌, codes, Option, IfSome, Result, Ok, Err}
use Rattle.std.specs.Io.KnownBytes.{Appends, Keeps}
use Rattle.console_text.specs.declared.ends.ExitKind.{ExitKind}
use Rattle.console_text.specs.declared.ends.ExitKind.TheVariants.{Done, Refused, NoMemory, Unread, Unwritten}
use Rattle.console_text.specs.declared.ends.IoTrouble.{IoTrouble}
use Rattle.console_text.specs.declared.ends.IoTrouble.TheVariants as trouble
use Rattle.console_text.specs.declared.ends.Output.{Output}
use Rattle.console_text.specs.declared.ends.CommandError.{CommandError}

-- a text, ended as a line
abbrev pub line : List ℕ → List ℕ
line text = text ++ 10 ∷ []

-- what a command prints, and whether it ends with status 0
pub record Printout : Type 0 where
  pub text : List ℕ
  pub good : Bool

-- something was wrong: this line says what
abbrev pub refused : List ℕ → Printout
refused text = record { text = line text; good = false }

-- a text in front of what is printed
abbrev pub before : List ℕ → Printout → Printout
before text printout = record { text = text ++ printout.text; good = printout.good }

abbrev pub printout_of : Output → Printout
printout_of printout = record { text = printout.text.items; good = printout.good }

abbrev pub ending_of : Bool → ExitKind
ending_of good = if good then Done else Refused

abbrev pub status_of : ExitKind → ℕ
status_of Done = 0
status_of Refused = 1
status_of NoMemory = 1
status_of Unread = 1
status_of Unwritten = 1

-- the text is written, unless a write failed
abbrev pub PrintsText : List ℕ → Option (List ℕ) → Option (List ℕ) → ExitKind → ExitKind → Type 0
PrintsText text old new wanted Unwritten = Unit {0}
PrintsText text old new wanted Done = (Done ≡ wanted) × Appends old new text
PrintsText text old new wanted Refused = (Refused ≡ wanted) × Appends old new text
PrintsText text old new wanted NoMemory = (NoMemory ≡ wanted) × Appends old new text
PrintsText text old new wanted Unread = (Unread ≡ wanted) × Appends old new text

abbrev pub PrintsIt : Result Output IoTrouble → Option (List ℕ) → Option (List ℕ) → ExitKind → Type 0
PrintsIt (Ok printout) old new ending = PrintsText printout.text.items old new (ending_of printout.good) ending
PrintsIt (Err trouble.NoMemory) old new ending = PrintsText (line (codes "no memory")) old new NoMemory ending
PrintsIt (Err trouble.Unread) old new ending = (ending ≡ Unread) × Keeps old new

-- the output is printed
abbrev pub PrintsExplained : Result CommandError IoTrouble → Option (List ℕ) → Option (List ℕ) → ExitKind → Type 0
PrintsExplained (Ok explained) old new ending = PrintsIt (Ok explained.printout) old new ending
PrintsExplained (Err trouble) old new ending = PrintsIt (Err trouble) old new ending

-- what was wrong with the input is handed on
abbrev pub HandsOn : Result CommandError IoTrouble → List ℕ → Type 0
HandsOn (Ok explained) why = why ≡ explained.why.items
HandsOn (Err trouble) why = why ≡ []

-- this is what is wrong with the bytes that were read; where the reader says its bytes, they are these
abbrev pub IsFlawOf : (List ℕ → List ℕ) → Option (List ℕ) → List ℕ → Type 0
IsFlawOf flaw input why = (bytes : List ℕ) × IfSome input (λ known. known ≡ bytes) × (why ≡ flaw bytes)

-- What was wrong with the input, where the text for it was printed.
abbrev pub IsWhy : (List ℕ → List ℕ) → Option (List ℕ) → ExitKind → List ℕ → Type 0
IsWhy flaw input Done why = IsFlawOf flaw input why
IsWhy flaw input Refused why = IsFlawOf flaw input why
IsWhy flaw input NoMemory why = Unit {0}
IsWhy flaw input Unread why = Unit {0}
IsWhy flaw input Unwritten why = Unit {0}

-- the printout is this one
abbrev pub IsFixed : (List ℕ → Printout) → List ℕ → Printout → Type 0
IsFixed fixed bytes printout = printout ≡ fixed bytes

-- The text of a printout for the bytes that were read, and nothing else, is written. Where the reader says its bytes, they are these.
abbrev pub Answered : (List ℕ → Printout → Type 0) → Option (List ℕ) → Option (List ℕ) → Option (List ℕ) → ExitKind → Type 0
Answered Is input old new ending =
    (bytes : List ℕ) × (printout : Printout) × IfSome input (λ known. known ≡ bytes) × Is bytes printout
    × (ending ≡ ending_of printout.good) × Appends old new printout.text

-- What a command writes for what it reads, by how it ends. Nothing is said of a writer that failed.
abbrev pub Prints : (List ℕ → Printout → Type 0) → Option (List ℕ) → Option (List ℕ) → Option (List ℕ) → ExitKind → Type 0
Prints Is input old new Done = Answered Is input old new Done
Prints Is input old new Refused = Answered Is input old new Refused
Prints Is input old new NoMemory = Appends old new (line (codes "no memory"))
Prints Is input old new Unread = Keeps old new
Prints Is input old new Unwritten = Unit {0}
