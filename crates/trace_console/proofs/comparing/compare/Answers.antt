use Rattle.std.proofs.Common.{ℕ, List, sym, subst}
use Rattle.std.proofs.lemmas.Result.{IfOk-weaker}
use Rattle.trace_check.specs.Verdicts.{AreTaken}
use Rattle.trace_console.specs.Answers.{IsComparison, IsFirstFalse}
use Rattle.trace_console.proofs.Answered.{compared}
use Rattle.trace_console.proofs.comparing.compare.Goals as goal

pub returns : goal.returns
returns c =
    let hs = c.args.trace.now in
    let d = c.args.told.now in
    let verdict = c.args.examined.now.verdict in
    let found = c.requires in
    let order = c.deref.result.now in
    let taken = subst (λ (xs : List ℕ). AreTaken hs verdict xs) (sym c.deref.ensures.value) found.taken in
    IfOk-weaker c.first_false.result (IsFirstFalse hs d order) (IsComparison hs d)
    (λ answer first. compared hs d verdict order answer found.verdict found.decides taken first)
    c.first_false.ensures
