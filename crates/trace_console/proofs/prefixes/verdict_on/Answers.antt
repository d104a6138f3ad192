use Rattle.std.proofs.lemmas.Result.{IfOk-weaker}
use Rattle.console_text.specs.Ends.{printout_of}
use Rattle.trace_console.specs.declared.judging.Stage.TheVariants.{Ongoing}
use Rattle.trace_console.proofs.Stages.{judged_as_told}
use Rattle.trace_console.proofs.prefixes.verdict_on.Goals as goal

pub returns : goal.returns
returns c =
    let is = c.in_ok-examined.ensures in
    let prefix = c.args.prefix.now in
    IfOk-weaker c.printout_as_told.result _ _
    (λ printout printed. judged_as_told prefix.trace c.in_ok-examined.examined (printout_of printout) is.verdict is.decides is.taken is.left
    Ongoing prefix.told c.in_ok-found.found c.in_ok-found.ensures printed) c.printout_as_told.ensures
