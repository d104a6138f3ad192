use Rattle.std.proofs.Common.{arith}
use Rattle.trace_text.specs.Streams.{items_at}
use Rattle.trace_text.proofs.Steps.{histories_begun, leads_both, no_histories, shut}
use Rattle.trace_text.proofs.Walks.{mapped_none, no_list_in, opened}
use Rattle.trace_text.proofs.stream.read_histories.Goals as goal

pub returns-then-not-branch-clause-ok : goal.returns-then-not-branch-clause-ok
returns-then-not-branch-clause-ok c = no_histories c.args.reader.now c.open_list.new.reader
    (shut _ _ _ c.if-not-branch.true c.in_ok-open_list.ensures.value)

pub returns-in_err-done-clause-err : goal.returns-in_err-done-clause-err
returns-in_err-done-clause-err c =
    λ refused. no_list_in 126 (omega arith) (opened _ _ _ c.if-not-branch.false c.in_ok-open_list.ensures.value)
    (mapped_none _ (items_at 125 c.open_list.new.reader) (c.in_err-done.ensures.err (grind (arith, refused))))

pub returns-clause-ok : goal.returns-clause-ok
returns-clause-ok c =
    let is = opened _ _ _ c.if-not-branch.false c.in_ok-open_list.ensures.value in
    leads_both _ _ _ (histories_begun c.new-histories.result c.args.reader.now c.open_list.new.reader c.new-histories.ensures.0
    c.new-histories.ensures.1 c.new-histories.ensures.2 is) c.in_ok-done.done c.in_ok-done.ensures.ok
