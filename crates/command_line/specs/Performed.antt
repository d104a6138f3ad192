-- What a command that reads its whole input prints, and what is wrong with its input.
use Rattle.std.specs.Prelude.{ℕ, List, Option}
use Rattle.console_text.specs.Ends.{IsFixed, IsWhy, Printout}
use Rattle.console_text.specs.declared.ends.ExitKind.{ExitKind}
use Rattle.invite_console.specs.Answer.{answer_text}
use Rattle.invite_console.specs.Show.{show_text}
use Rattle.invite_console.specs.Sim.{IsSimPrintout}
use Rattle.invite_console.specs.Reasons.{answer_flaw, schedule_flaw, show_flaw}
use Rattle.store_console.specs.Session.{IsSession, IsSessionWhy, IsTold as IsSessionTold}
use Rattle.trace_console.specs.Contradicting.{IsContradictionOf}
use Rattle.trace_console.specs.Answers.{IsJudgedAt, IsVerdictTold}
use Rattle.invite_console.specs.Recording.{IsRecording}
use Rattle.threads_console.specs.Printed.{IsThreading}
use Rattle.threads_console.specs.Reasons.{plans_flaw}
use Rattle.trace_console.specs.Turning.{AreToldOf}
use Rattle.command_line.specs.declared.invocation.Batch.{Batch}
use Rattle.command_line.specs.declared.invocation.Batch.TheVariants.{Answer, Show, Sim, Store, Trace, Record, Threads, Turns, Contradiction}

-- the printout is what the command prints for these bytes
abbrev pub IsOutcomeOf : Batch → List ℕ → Printout → Type 0
IsOutcomeOf (Answer place) = IsFixed (answer_text place.id place.nodes)
IsOutcomeOf Show = IsFixed show_text
IsOutcomeOf (Sim details) = IsSimPrintout details
IsOutcomeOf (Store path) = IsSession
IsOutcomeOf (Trace stage) = IsJudgedAt stage
IsOutcomeOf Record = IsRecording
IsOutcomeOf (Threads kind) = IsThreading kind
IsOutcomeOf Turns = AreToldOf
IsOutcomeOf Contradiction = IsContradictionOf

-- this is what is wrong with the input, or why its entries are no run; what is wrong with a text that is no trace is printed, and not said
-- again
abbrev pub IsWhyOf : Batch → Option (List ℕ) → ExitKind → List ℕ → Type 0
IsWhyOf (Answer place) = IsWhy (answer_flaw place.id place.nodes)
IsWhyOf Show = IsWhy show_flaw
IsWhyOf (Sim details) = IsWhy schedule_flaw
IsWhyOf (Store path) = IsSessionWhy
IsWhyOf (Trace stage) = IsVerdictTold
IsWhyOf Record = IsWhy schedule_flaw
IsWhyOf (Threads kind) = IsWhy plans_flaw
IsWhyOf Turns = IsVerdictTold
IsWhyOf Contradiction = IsVerdictTold

-- what standard error says of the requests of a store belongs to what was printed
abbrev pub IsSaidOf : Batch → Option (List ℕ) → Option (List ℕ) → Option (List ℕ) → ExitKind → List ℕ → Type 0
IsSaidOf (Store path) input old new ending why = IsSessionTold input old new ending why
IsSaidOf batch input old new ending why = Unit {0}
