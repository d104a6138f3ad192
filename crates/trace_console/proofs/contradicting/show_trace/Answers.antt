use Rattle.std.proofs.Common.{Option, sym, subst}
use Rattle.console_text.specs.Ends.{printout_of}
use Rattle.console_text.specs.declared.ends.Output.{Output}
use Rattle.trace_console.specs.declared.answers.FalseAnswer.{FalseAnswer}
use Rattle.trace_console.specs.Answers.{IsComparison}
use Rattle.trace_console.specs.Contradicting.{IsShownWith}
use Rattle.trace_console.proofs.Cores.{false_there, shown_with}
use Rattle.trace_console.proofs.contradicting.show_trace.Goals as goal
use Rattle.trace_console.proofs.contradicting.show_trace.Goals.{in-Some+in_ok-printout-in-Some, in-None+in_ok-printout-in-None}

pub told_printout-requires-clause-there : goal.told_printout-requires-clause-there
told_printout-requires-clause-there c =
    (false_there c.args.trace.now c.args.told.now c.in-Some.answer
    (subst (λ (o : Option FalseAnswer). IsComparison c.args.trace.now c.args.told.now o) c.in-Some.is c.in_ok-found.ensures)).there

pub told_printout-requires-clause-before : goal.told_printout-requires-clause-before
told_printout-requires-clause-before c =
    (false_there c.args.trace.now c.args.told.now c.in-Some.answer
    (subst (λ (o : Option FalseAnswer). IsComparison c.args.trace.now c.args.told.now o) c.in-Some.is c.in_ok-found.ensures)).before

pub returns-clause-printed : goal.returns-clause-printed
returns-clause-printed c =
    let hs = c.args.trace.now in
    let d = c.args.told.now in
    let examined = c.in_ok-examined.examined in
    let facts = c.in_ok-examined.ensures in
    let left = examined.left.items in
    record {
      verdict = examined.verdict;
      is_verdict = facts.verdict;
      decides = facts.decides;
      left = left;
      are_left = facts.left;
      found = c.in_ok-found.found;
      compared = c.in_ok-found.ensures;
      shown = elim c.match-found.branch [
        | in-Some+in_ok-printout-in-Some w ↦
            subst (λ (o : Output). IsShownWith hs d examined.verdict left c.in_ok-found.found (printout_of o)) (sym w.printout-is)
            (shown_with hs d examined.verdict left c.in_ok-found.found w.in-Some.answer (printout_of w.in_ok-printout-in-Some.printout)
            w.in-Some.is c.in_ok-found.ensures w.in_ok-printout-in-Some.ensures)
        | in-None+in_ok-printout-in-None w ↦
            subst (λ (o : Output). IsShownWith hs d examined.verdict left c.in_ok-found.found (printout_of o)) (sym w.printout-is)
            (subst (λ (f : Option FalseAnswer). IsShownWith hs d examined.verdict left f (printout_of w.in_ok-printout-in-None.printout))
            (sym w.in-None.is) w.in_ok-printout-in-None.ensures)
      ];
    }
