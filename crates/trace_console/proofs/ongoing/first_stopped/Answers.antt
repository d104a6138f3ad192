use Rattle.std.proofs.Common.{sym, ◌∙◌}
use Rattle.trace_console.proofs.Looks.{stopped_here, stopped_more, stopped_none}
use Rattle.trace_console.proofs.ongoing.first_stopped.Goals as goal

pub returns-then-not-waits : goal.returns-then-not-waits
returns-then-not-waits c = stopped_here c.args.left.now c.loop-leftover.leftover-index c.leftover-item.result c.loop-leftover-test.true
    c.leftover-item.is (sym c.waits.ensures ∙ c.if-not-waits.true) c.loop-leftover.invariant

pub loop-leftover-preserved : goal.loop-leftover-preserved
loop-leftover-preserved c = stopped_more c.args.left.now c.loop-leftover.leftover-index c.leftover-item.result c.loop-leftover-test.true
    c.leftover-item.is (sym c.waits.ensures ∙ c.if-not-waits.false) c.loop-leftover.invariant

pub returns : goal.returns
returns c = stopped_none c.args.left.now c.loop-leftover.leftover-index c.loop-leftover-test.false c.loop-leftover.invariant
