-- What the command `trace` prints of entries that can't be, whatever the other nodes did.
use Rattle.std.specs.Prelude.{ℕ, ◌≡◌, ◌+◌, List, ◌++◌, length, codes, decimal, Option, Some, None, Ok}
use Rattle.console_text.specs.Ends.{Printout, refused}
use Rattle.trace_check.specs.declared.contradiction.Contradiction.{Contradiction}
use Rattle.trace_check.specs.declared.leftover.Leftover.{Leftover}
use Rattle.trace_check.specs.declared.trace.Verdict.{Verdict}
use Rattle.trace_check.specs.declared.trace.Verdict.TheVariants.{Run, NotARun}
use Rattle.histories.specs.NodeState.{NodeState, opening}
use Rattle.trace_check.specs.Claims.{Claim, state_after}
use Rattle.trace_check.specs.Contradictions.{IsContradiction, IsCore}
use Rattle.trace_check.specs.Kept.{part}
use Rattle.trace_check.specs.Leftovers.{AreLeftovers}
use Rattle.trace_check.specs.Orders.{history}
use Rattle.trace_check.specs.Verdicts.{DecidesRun, IsVerdict}
use Rattle.trace_text.specs.Fits.{IsWritable}
use Rattle.trace_text.specs.Tellings.{TellingData, TellingsData}
use Rattle.trace_text.specs.Wholes.{trace_of}
use Rattle.trace_text.specs.Written.{text_of_trace}
use Rattle.trace_console.specs.declared.answers.FalseAnswer.{FalseAnswer}
use Rattle.trace_console.specs.Answers.{IsComparison, IsPrintedWith, IsRunAsTold}
use Rattle.trace_console.specs.Judged.{verdict_printed}
use Rattle.trace_console.specs.NodeStates.{node_state_text}
use Rattle.trace_console.specs.Ongoing.{first_stopped}
use Rattle.trace_console.specs.Told.{IsToldIn, told_of}

-- how the node stands before the first of the entries, up to the end of the last line of that
unfoldable pub before_text : Contradiction → List ℕ
before_text c = codes "node " ++ decimal c.node ++ codes " entry " ++ decimal c.first ++ codes " " ++ node_state_text c.before.node
    ++ codes "\n"

-- the entries as a trace, and how their node stands before them
pub record IsShown (c : Contradiction) (printout : Printout) : Type 0 where
  pub printed : printout ≡ refused (before_text c ++ text_of_trace c.trace)
  pub reads : IsWritable c.trace → trace_of (text_of_trace c.trace) ≡ Ok c.trace

-- those up to the one that is left and can't come
abbrev pub IsShownUpTo : List (List Claim) → Leftover → Printout → Type 0
IsShownUpTo hs left printout = (c : Contradiction) × IsContradiction hs left.node left.index c × IsShown c printout

abbrev pub all_wait : List ℕ
all_wait = codes "each entry that is left waits for a message that none sent"

-- where an entry is left that can't come; or each that is left waits
abbrev pub IsShownLeft : List (List Claim) → Option Leftover → Printout → Type 0
IsShownLeft hs None printout = printout ≡ refused all_wait
IsShownLeft hs (Some left) printout = IsShownUpTo hs left printout

abbrev pub IsShownAt : List (List Claim) → Verdict → List Leftover → Printout → Type 0
IsShownAt hs (Run order) left printout = printout ≡ verdict_printed (Run order)
IsShownAt hs (NotARun node index) left printout = IsShownLeft hs (first_stopped left) printout

-- ---- what is told otherwise

-- Of so many nodes there is no run in which this one has these entries behind one another where it stands so before them, and tells this of
-- the last: whatever it did before that and does behind them, and whatever the others do.
abbrev pub CantTell : ℕ → ℕ → NodeState → List Claim → TellingData → Type 0
CantTell nodes n s entries told =
    (hs : List (List Claim)) (d : TellingsData) (before behind : List Claim) (last : ℕ) → length hs ≡ nodes
    → history hs n ≡ before ++ (entries ++ behind) → state_after n nodes (opening n) before ≡ s
    → last + 1 ≡ length (before ++ entries) → told_of d n last ≡ Some told → IsRunAsTold hs d → ⊥

-- the entries up to the one of which something else is told, and what is told of it
pub record IsShownTold (hs : List (List Claim)) (d : TellingsData) (f : FalseAnswer) (printout : Printout) : Type 0 where
  pub contradiction : Contradiction
  pub core : IsCore hs f.node f.index contradiction
  pub told : TellingData
  pub is_told : told_of d f.node f.index ≡ Some told
  pub cant : CantTell (length hs) f.node contradiction.before.node (part contradiction.first (f.index + 1) (history hs f.node)) told
  pub shown : IsShown contradiction printout

abbrev pub IsShownWith : List (List Claim) → TellingsData → Verdict → List Leftover → Option FalseAnswer → Printout → Type 0
IsShownWith hs d verdict left None printout = IsShownAt hs verdict left printout
IsShownWith hs d verdict left (Some f) printout = IsShownTold hs d f printout

-- what is printed of these histories and of what is told of their entries
pub record IsShowing (hs : List (List Claim)) (d : TellingsData) (printout : Printout) : Type 0 where
  pub verdict : Verdict
  pub is_verdict : IsVerdict hs verdict
  pub decides : DecidesRun hs verdict
  pub left : List Leftover
  pub are_left : AreLeftovers hs left
  pub found : Option FalseAnswer
  pub compared : IsComparison hs d found
  pub shown : IsShownWith hs d verdict left found printout

-- what is printed of the trace that the text is
abbrev pub IsContradictionOf : List ℕ → Printout → Type 0
IsContradictionOf text printout = IsPrintedWith IsShowing (IsToldIn text) (trace_of text) printout
