use Rattle.std.proofs.Common.{None, ◌∙◌}
use Rattle.std.proofs.lemmas.Result.{IfOk-weaker}
use Rattle.trace_text.proofs.Steps.{leads_both, list_begun, no_list_leads, shut}
use Rattle.trace_text.proofs.Walks.{opened}
use Rattle.trace_text.proofs.stream.read_list.Goals as goal

pub returns-then-not-branch-clause-ok : goal.returns-then-not-branch-clause-ok
returns-then-not-branch-clause-ok c =
    let h = c.args.histories.now in no_list_leads h.all_lists h.histories.items h.bad c.args.reader.now c.open_list.new.reader
    (shut _ _ _ c.if-not-branch.true c.in_ok-open_list.ensures.value)

pub returns-clause-ok : goal.returns-clause-ok
returns-clause-ok c =
    let is = opened _ _ _ c.if-not-branch.false c.in_ok-open_list.ensures.value in
    IfOk-weaker c.end_list.result _ _ (λ done said. leads_both _ _ _
    (list_begun c.args.histories.now c.new.result c.args.reader.now c.open_list.new.reader c.new.ensures.0 c.new.ensures.1 is) done
    said) c.end_list.ensures.ok

pub returns-clause-err : goal.returns-clause-err
returns-clause-err c =
    let is = opened _ _ _ c.if-not-branch.false c.in_ok-open_list.ensures.value in
    λ refused. (list_begun c.args.histories.now c.new.result c.args.reader.now c.open_list.new.reader c.new.ensures.0 c.new.ensures.1 is).at
    None ∙ c.end_list.ensures.err refused
