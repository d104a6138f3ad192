use Rattle.std.proofs.Common.{sym}
use Rattle.threads_console.proofs.Tracings.{item_more}
use Rattle.threads_console.proofs.tracing.messages_of.Goals as goal

pub loop-place-preserved : goal.loop-place-preserved
loop-place-preserved c =
    item_more c.args.sent.now c.loop-place.messages.items c.push.new.self.items c.loop-place.place c.in-Some.message (sym c.in-Some.ensures)
    c.loop-place.invariant c.in_ok-push.ensures.items
