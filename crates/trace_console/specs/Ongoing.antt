-- What the command `trace` prints of a run that is still going on.
use Rattle.std.specs.Prelude.{ℕ, ◌≡◌, List, [], ◌∷◌, ◌++◌, true, if◌then◌else◌, codes, Option, Some, None}
use Rattle.console_text.specs.Ends.{Printout, line}
use Rattle.trace_check.specs.declared.checking.Examined.{Examined}
use Rattle.trace_check.specs.declared.leftover.Leftover.{Leftover}
use Rattle.trace_check.specs.declared.trace.Verdict.{Verdict}
use Rattle.trace_check.specs.declared.trace.Verdict.TheVariants.{Run, NotARun}
use Rattle.trace_check.specs.Claims.{Claim}
use Rattle.trace_check.specs.Leftovers.{AreLeftovers}
use Rattle.trace_check.specs.Verdicts.{AreTaken, DecidesRun, IsVerdict}
use Rattle.trace_console.specs.declared.judging.Stage.{Stage}
use Rattle.trace_console.specs.declared.judging.Stage.TheVariants.{Over, Ongoing}
use Rattle.trace_console.specs.Judged.{IsJudgement, verdict_printed, words}
use Rattle.trace_console.specs.Reported.{waits}

-- of entries that are left the first that can't be, whatever others send
abbrev pub first_stopped : List Leftover → Option Leftover
first_stopped [] = None
first_stopped (left ∷ others) = if waits left.holdup then first_stopped others else Some left

-- the entries that were taken, where all others wait; else an entry that can't be
abbrev pub left_printed : List ℕ → Option Leftover → Printout
left_printed taken None = record { text = line (codes "Ongoing" ++ words taken); good = true }
left_printed taken (Some left) = verdict_printed (NotARun left.node left.index)

abbrev pub ongoing_printed : Verdict → List ℕ → List Leftover → Printout
ongoing_printed (Run order) taken left = verdict_printed (Run order)
ongoing_printed (NotARun node index) taken left = left_printed taken (first_stopped left)

abbrev pub printed_at : Stage → Examined → Printout
printed_at Over e = verdict_printed e.verdict
printed_at Ongoing e = ongoing_printed e.verdict e.taken.items e.left.items

-- what is said of these histories, of which more may follow: a run, where some order is one; else the entries that can be taken are, and
-- the next one of each node waits, or one of these can't be
pub record IsFollowing (histories : List (List Claim)) (printout : Printout) : Type 0 where
  pub verdict : Verdict
  pub is_verdict : IsVerdict histories verdict
  pub decides : DecidesRun histories verdict
  pub taken : List ℕ
  pub are_taken : AreTaken histories verdict taken
  pub left : List Leftover
  pub are_left : AreLeftovers histories left
  pub printed : printout ≡ ongoing_printed verdict taken left

-- what is printed of histories
abbrev pub IsJudgementAt : Stage → List (List Claim) → Printout → Type 0
IsJudgementAt Over histories printout = IsJudgement histories printout
IsJudgementAt Ongoing histories printout = IsFollowing histories printout
