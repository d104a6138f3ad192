use Rattle.std.proofs.lemmas.Result.{IfOk-weaker}
use Rattle.console_text.specs.Ends.{printout_of}
use Rattle.trace_console.specs.Contradicting.{IsShown, IsShownUpTo}
use Rattle.trace_console.proofs.contradicting.stopped_printout.Goals as goal

pub returns : goal.returns
returns c =
    let found = c.in_ok-found.found in
    IfOk-weaker c.core_printout.result (λ printout. IsShown found (printout_of printout))
    (λ printout. IsShownUpTo c.args.trace.now c.args.left.now (printout_of printout))
    (λ printout shown. (found, c.in_ok-found.ensures, shown)) c.core_printout.ensures
