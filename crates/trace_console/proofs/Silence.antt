-- Where nothing is told of the entries of a trace.
use Rattle.std.proofs.Common.{◌≡◌, ℕ, true, false, List, [], codes, Option, Some, None, sym, ap, ◌∙◌, subst, arith}
use Rattle.memchr.specs.Find.{FindsNeedle}
use Rattle.console_text.specs.Ends.{Printout}
use Rattle.trace_check.specs.Claims.{Claim}
use Rattle.trace_text.specs.Tellings.{TellingsData}
use Rattle.trace_console.specs.declared.answers.FalseAnswer.{FalseAnswer}
use Rattle.trace_console.specs.declared.judging.Stage.{Stage}
use Rattle.trace_console.specs.Answers.{IsComparison, IsJudgementAsTold, IsPrintedOf, IsPrintedWith, UntoldIsJudgedAlone, entry_so}
use Rattle.trace_console.specs.Ongoing.{IsJudgementAt}
use Rattle.trace_console.specs.Told.{IsToldIn, tellings_if}

nothing_told : (text : List ℕ) (place : Option ℕ) (told : TellingsData) → FindsNeedle text (codes "\"told\"") 0 None
    → FindsNeedle text (codes "\"told\"") 0 place → told ≡ tellings_if place text → told ≡ []
nothing_told text None told none found value = value
nothing_told text (Some k) told none found value =
    let fits = found.1.fits in absurd (none k (omega arith) (omega (arith, fits)) found.1)

-- nothing of nothing is false
alone : (stage : Stage) (hs : List (List Claim)) (told : TellingsData) (found : Option FalseAnswer) (printout : Printout) → told ≡ []
    → IsComparison hs told found → IsPrintedOf stage hs found printout → IsJudgementAt stage hs printout
alone stage hs told None printout empty is printed = printed
alone stage hs told (Some f) printout empty is printed =
    let other = is.first.0.other in
    let clash : true ≡ false = sym (ap (λ (d : TellingsData). entry_so hs d f.node f.index) empty) ∙ other in absurd cc

pub judged_alone : UntoldIsJudgedAlone
judged_alone stage text hs printout none is judged =
    let whole = subst (λ r. IsPrintedWith (IsJudgementAsTold stage) (IsToldIn text) r printout) is judged in
    let told = whole.1 in
    let judgement = whole.2 in
    alone stage hs whole.0 judgement.0 printout (nothing_told text told.place whole.0 none told.found told.value) judgement.1 judgement.2
