use Rattle.std.proofs.Common.{None, ◌∙◌, arith}
use Rattle.trace_text.specs.Pieces.{lists_on, lists_then}
use Rattle.trace_text.proofs.Judged.{lists_done}
use Rattle.trace_text.proofs.Steps.{item_stops, item_turns, items_done, leads_same, leads_then, shut}
use Rattle.trace_text.proofs.Walks.{opened}
use Rattle.trace_text.proofs.stream.read_lists.Goals as goal

pub lists-init : goal.lists-init
lists-init c = (leads_same (lists_on c.args.histories.now) c.args.reader.now, omega arith)

pub returns-in_err-read_list-clause-err : goal.returns-in_err-read_list-clause-err
returns-in_err-read_list-clause-err c =
    let h = c.lists.histories in
    λ refused. c.lists.invariant.0.at None ∙ item_stops (lists_then h.all_lists h.histories.items h.bad) 125 c.lists.reader
    c.take_end_array.new.self (grind arith) (c.in_err-read_list.ensures.err (grind (arith, refused)))

pub returns-then-not-branch-clause-ok : goal.returns-then-not-branch-clause-ok
returns-then-not-branch-clause-ok c =
    let h = c.lists.histories in
    let read = c.in_ok-read_list.ensures in
    leads_then c.lists.invariant.0
    (leads_then (item_turns (lists_then h.all_lists h.histories.items h.bad) 125 c.lists.reader c.take_end_array.new.self (grind arith)
    (omega (arith, read.shorter))) (shut _ _ _ c.if-not-branch.true read.ok))

pub lists-preserved : goal.lists-preserved
lists-preserved c =
    let h = c.lists.histories in
    let read = c.in_ok-read_list.ensures in (
      leads_then c.lists.invariant.0
          (leads_then (item_turns (lists_then h.all_lists h.histories.items h.bad) 125 c.lists.reader c.take_end_array.new.self
          (grind arith) (omega (arith, read.shorter))) (opened _ _ _ c.if-not-branch.false read.ok)),
      grind (arith, read.shorter, c.lists.invariant.1),
    )

pub returns-clause-ok : goal.returns-clause-ok
returns-clause-ok c =
    let h = c.lists.histories in
    leads_then c.lists.invariant.0 (items_done (lists_then h.all_lists h.histories.items h.bad) 125 c.lists.reader c.take_end_array.new.self
    (grind arith) (lists_done h.all_lists h.histories.items h.bad))
