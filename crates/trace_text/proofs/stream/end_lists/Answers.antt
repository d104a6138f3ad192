use Rattle.std.proofs.Common.{None, ◌∙◌}
use Rattle.std.proofs.lemmas.Result.{IfOk-weaker}
use Rattle.trace_text.proofs.Steps.{leads_both}
use Rattle.trace_text.proofs.Walks.{opened}
use Rattle.trace_text.proofs.stream.end_lists.Goals as goal

pub returns-clause-ok : goal.returns-clause-ok
returns-clause-ok c =
    IfOk-weaker c.read_lists.result _ _ (λ done said. leads_both _ _ _ (opened _ _ _ c.if-not-branch.false c.in_ok-end_list.ensures.ok) done
    said) c.read_lists.ensures.ok

pub returns-clause-err : goal.returns-clause-err
returns-clause-err c = λ refused. (opened _ _ _ c.if-not-branch.false c.in_ok-end_list.ensures.ok).at None
    ∙ c.read_lists.ensures.err refused
