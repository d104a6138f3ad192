use Rattle.std.proofs.Common.{reverse}
use Rattle.trace_check.proofs.Turns.{desk_rests}
use Rattle.trace_check.proofs.checking.taken.Goals as goal

pub returns-then-not-branch-clause-rests : goal.returns-then-not-branch-clause-rests
returns-then-not-branch-clause-rests c =
    let s = c.take_turn.new.search in
    desk_rests c.args.trace.now s.seats.items s.ready s.stopped s.posted (reverse s.order.items) c.in_ok-take_turn.ensures.fits
    (c.in_ok-take_turn.ensures.none c.if-not-branch.true).0
