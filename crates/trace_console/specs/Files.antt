-- A run whose records stand in several files: each is a trace, of one node or of more, and its nodes come behind those of the files before
-- it.
use Rattle.std.specs.Prelude.{ℕ, ◌+◌, ◌≡◌, Bool, true, false, List, [], ◌∷◌, ◌++◌, length, if◌then◌else◌, nat_le, codes, decimal}
use Rattle.std.specs.Prelude.{option_map, Option, Some, None, Result, Ok, Err}
use Rattle.console_text.specs.Ends.{Printout, Prints}
use Rattle.console_text.specs.declared.ends.ExitKind.{ExitKind}
use Rattle.console_text.specs.declared.ends.ExitKind.TheVariants.{Done, Refused, NoMemory, Unread, Unwritten}
use Rattle.group_task.specs.declared.node.TheConstants.{NODES}
use Rattle.trace_check.specs.Claims.{Claim}
use Rattle.trace_text.specs.declared.fault.Location.{Location}
use Rattle.trace_text.specs.Tellings.{TellingsData}
use Rattle.trace_text.specs.Wholes.{trace_of}
use Rattle.trace_console.specs.declared.judging.Stage.{Stage}
use Rattle.trace_console.specs.declared.files.TraceFile.{TraceFile}
use Rattle.trace_console.specs.Answers.{IsJudgementAsTold, IsPrintedWith, IsReportedWith}
use Rattle.trace_console.specs.Told.{IsThen, IsToldIn}

-- a file that is no trace: its name, where its first bad entry stands in it, and how many nodes the files before it have
pub record BadFile : Type 0 where
  pub name : List ℕ
  pub location : Option Location
  pub before : ℕ

-- histories, and behind them those of more files
abbrev pub behind : List (List Claim) → Result (List (List Claim)) BadFile → Result (List (List Claim)) BadFile
behind hs (Ok more) = Ok (hs ++ more)
behind hs (Err bad) = Err (record { name = bad.name; location = bad.location; before = length hs + bad.before })

abbrev pub first_file : List ℕ → Result (List (List Claim)) (Option Location) → Result (List (List Claim)) BadFile
    → Result (List (List Claim)) BadFile
first_file name (Ok hs) later = behind hs later
first_file name (Err location) later = Err (record { name = name; location = location; before = 0 })

-- the histories of all files; of those that are no traces the first is told
abbrev pub histories_of : List TraceFile → Result (List (List Claim)) BadFile
histories_of [] = Ok []
histories_of (file ∷ files) = first_file (file.name.now) (trace_of file.text.items) (histories_of files)

abbrev pub nodes_of : Result (List (List Claim)) (Option Location) → ℕ
nodes_of (Ok hs) = length hs
nodes_of (Err location) = 0

-- the place of an entry in a run, behind so many nodes
abbrev pub spot_behind : ℕ → Option Location → Option Location
spot_behind before location = option_map (λ (s : Location). record { node = before + s.node; index = s.index }) location

-- the trace that files are; a trace has no more nodes than a cluster
abbrev pub run_of : Result (List (List Claim)) BadFile → Result (List (List Claim)) (Option Location)
run_of (Ok hs) = if nat_le (length hs) NODES then Ok hs else Err None
run_of (Err bad) = Err (spot_behind bad.before bad.location)

-- how many nodes a file has
abbrev pub nodes_in : TraceFile → ℕ
nodes_in file = nodes_of (trace_of file.text.items)

-- this is what each file says of its nodes
abbrev pub AreToldIn : List TraceFile → TellingsData → Type 0
AreToldIn [] d = Unit {0}
AreToldIn (file ∷ files) d = (own : TellingsData) × (others : TellingsData) × IsToldIn file.text.items own × AreToldIn files others
    × IsThen [] (nodes_in file) own others d

-- what is printed of it
abbrev pub IsFilesPrintout : Stage → List TraceFile → Printout → Type 0
IsFilesPrintout stage files printout = IsPrintedWith (IsJudgementAsTold stage) (AreToldIn files) (run_of (histories_of files)) printout

-- beside the files nothing is read
abbrev pub PrintsFiles : Stage → List TraceFile → Option (List ℕ) → Option (List ℕ) → ExitKind → Type 0
PrintsFiles stage files = Prints (λ input printout. IsFilesPrintout stage files printout) (Some [])

-- ---- standard error

-- which entry of a file is bad
abbrev pub spot_text : Option Location → List ℕ
spot_text None = codes "this is no trace"
spot_text (Some location) = codes "history " ++ decimal location.node ++ codes ": entry " ++ decimal location.index
    ++ codes " can't be read"

abbrev pub bad_text : List ℕ → Option Location → List ℕ
bad_text name location = name ++ codes ": " ++ spot_text location

abbrev pub too_many_text : List ℕ
too_many_text = codes "the files have more than " ++ decimal NODES ++ codes " nodes"

abbrev pub IsReportIf : Bool → (TellingsData → Type 0) → List (List Claim) → List ℕ → Type 0
IsReportIf true IsTold hs why = IsReportedWith IsTold (Ok hs) why
IsReportIf false IsTold hs why = why ≡ too_many_text

abbrev pub IsReportBehind : (TellingsData → Type 0) → Result (List (List Claim)) BadFile → List ℕ → Type 0
IsReportBehind IsTold (Ok hs) why = IsReportIf (nat_le (length hs) NODES) IsTold hs why
IsReportBehind IsTold (Err bad) why = why ≡ bad_text bad.name bad.location

-- a file that is no trace is named; of a trace that is no run it is said why
abbrev pub IsFilesReport : List TraceFile → List ℕ → Type 0
IsFilesReport files why = IsReportBehind (AreToldIn files) (histories_of files) why

-- so where the verdict was printed
abbrev pub IsFilesTold : List TraceFile → ExitKind → List ℕ → Type 0
IsFilesTold files Done why = IsFilesReport files why
IsFilesTold files Refused why = IsFilesReport files why
IsFilesTold files NoMemory why = Unit {0}
IsFilesTold files Unread why = Unit {0}
IsFilesTold files Unwritten why = Unit {0}
