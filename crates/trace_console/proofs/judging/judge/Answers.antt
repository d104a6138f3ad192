use Rattle.console_text.specs.Ends.{printout_of}
use Rattle.trace_console.proofs.Stages.{judged_as_told}
use Rattle.trace_console.proofs.judging.judge.Goals as goal

pub returns-clause-printed : goal.returns-clause-printed
returns-clause-printed c =
    let is = c.in_ok-examined.ensures in
    judged_as_told c.args.trace.now c.in_ok-examined.examined (printout_of c.in_ok-printout.printout) is.verdict is.decides is.taken is.left
    c.args.stage c.args.told.now c.in_ok-found.found c.in_ok-found.ensures c.in_ok-printout.ensures
