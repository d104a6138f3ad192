-- What is printed of a run that is over, and of one that may go on.
use Rattle.std.proofs.Common.{◌≡◌, List, Option, Some, None}
use Rattle.console_text.specs.Ends.{Printout}
use Rattle.trace_check.specs.declared.checking.Examined.{Examined}
use Rattle.trace_check.specs.Claims.{Claim}
use Rattle.trace_check.specs.Leftovers.{AreLeftovers}
use Rattle.trace_check.specs.Verdicts.{AreTaken, DecidesRun, IsVerdict}
use Rattle.trace_console.specs.declared.judging.Stage.{Stage}
use Rattle.trace_console.specs.declared.judging.Stage.TheVariants.{Over, Ongoing}
use Rattle.trace_text.specs.Tellings.{TellingsData}
use Rattle.trace_console.specs.declared.answers.FalseAnswer.{FalseAnswer}
use Rattle.trace_console.specs.Answers.{IsComparison, IsJudgementAsTold, printed_as_told}
use Rattle.trace_console.specs.Ongoing.{IsJudgementAt, printed_at}

module _ (hs : List (List Claim)) (e : Examined) (o : Printout) (verdict : IsVerdict hs e.verdict) (decides : DecidesRun hs e.verdict)
    (taken : AreTaken hs e.verdict e.taken.items) (left : AreLeftovers hs e.left.items) where
  pub judged_at : (stage : Stage) → o ≡ printed_at stage e → IsJudgementAt stage hs o
  judged_at Over is = record { verdict = e.verdict; is_verdict = verdict; decides = decides; printed = is }
  judged_at Ongoing is = record {
    verdict = e.verdict;
    is_verdict = verdict;
    decides = decides;
    taken = e.taken.items;
    are_taken =
        taken;
    left = e.left.items;
    are_left = left;
    printed = is;
  }

  pub judged_as_told : (stage : Stage) (d : TellingsData) (found : Option FalseAnswer) → IsComparison hs d found
      → o ≡ printed_as_told stage e found → IsJudgementAsTold stage hs d o
  judged_as_told stage d None compared is = (None, compared, judged_at stage is)
  judged_as_told stage d (Some f) compared is = (Some f, compared, is)
