use Rattle.trace_check.specs.Traces.{claim_seen}
use Rattle.trace_console.proofs.Pieces.{added_more}
use Rattle.trace_console.proofs.appending.append_history.Goals as goal

pub loop-place-preserved : goal.loop-place-preserved
loop-place-preserved c =
    added_more c.args.history.now c.args.more.now c.loop-place.history c.append_entry.new.history c.loop-place.place
    (claim_seen c.in-Some.entry) c.loop-place.invariant c.in-Some.ensures.some c.in_ok-append_entry.ensures
