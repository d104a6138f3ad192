use Rattle.std.proofs.lemmas.Result.{IfOk-weaker}
use Rattle.console_text.specs.Ends.{printout_of}
use Rattle.trace_check.specs.declared.contradiction.Contradiction.{Contradiction}
use Rattle.trace_check.specs.Contradictions.{IsCore}
use Rattle.trace_console.specs.Contradicting.{IsShown}
use Rattle.trace_console.proofs.contradicting.told_printout.Goals as goal

pub returns : goal.returns
returns c =
    let hs = c.args.trace.now in
    let f = c.args.answer.now in
    let found = c.in_ok-found.found in
    IfOk-weaker c.core_printout.result (λ printout. IsShown found (printout_of printout))
    (λ printout. (x : Contradiction) × IsCore hs f.node f.index x × IsShown x (printout_of printout))
    (λ printout shown. (found, c.in_ok-found.ensures, shown)) c.core_printout.ensures
