use Rattle.std.proofs.Common.{rules}
use Rattle.trace_check.specs.Orders.{history}
use Rattle.trace_check.specs.Traces.{claim_seen}
use Rattle.trace_check.proofs.Contradictions.{copied_more}
use Rattle.trace_check.proofs.contradiction.copied.Goals as goal

pub loop-place-preserved : goal.loop-place-preserved
loop-place-preserved c =
    copied_more (history c.args.trace.now c.args.node) c.loop-place.history c.copy_entry.new.history c.args.first c.loop-place.place
    (claim_seen c.in-Some.entry) (search rules) c.loop-place.invariant c.in-Some.ensures.some
    c.in_ok-copy_entry.ensures
