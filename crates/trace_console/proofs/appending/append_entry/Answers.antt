use Rattle.std.proofs.Common.{[], rules}
use Rattle.trace_console.proofs.Pieces.{added_more}
use Rattle.trace_console.proofs.appending.append_entry.Goals as goal

pub loop-place-preserved : goal.loop-place-preserved
loop-place-preserved c = added_more [] c.args.entry.now.sent c.loop-place.sent.items c.push.new.self.items c.loop-place.place
    c.in-Some.message c.loop-place.invariant (search rules) c.in_ok-push.ensures.items
