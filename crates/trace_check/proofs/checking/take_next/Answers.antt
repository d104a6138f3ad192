use Rattle.std.proofs.Common.{reverse, subst, arith}
use Rattle.trace_check.specs.declared.search.Judgement.{Judgement}
use Rattle.trace_check.specs.declared.search.Judgement.TheVariants.{Stops, Waits, Takes}
use Rattle.trace_check.specs.Searches.{IsTurn}
use Rattle.trace_check.proofs.Turns.{desk_stops, desk_waits, desk_takes, desk_without}
use Rattle.trace_check.proofs.checking.take_next.Goals as goal

pub returns-then-from-len-clause-fits : goal.returns-then-from-len-clause-fits
returns-then-from-len-clause-fits c =
    let d = c.args.search.now in
    rw c.remove.ensures
    (desk_without c.args.trace.now d.seats.items d.ready d.stopped d.posted (reverse d.order.items) c.args.id c.requires.fits
    (let is = c.from.ensures in let value = c.number.ensures.value in let outside = c.if-from-len.true in let len = c.len.ensures in
    omega (arith, is, value, outside, len)))

pub returns-in-Stops-clause-fits : goal.returns-in-Stops-clause-fits
returns-in-Stops-clause-fits c =
    let d = c.args.search.now in
    let turn : IsTurn c.args.trace.now d c.turn.new.search c.args.id Stops =
    subst (λ (j : Judgement). IsTurn c.args.trace.now d c.turn.new.search c.args.id j) c.in-Stops.is c.in_ok-turn.ensures in
    rw (c.remove-in-Stops.ensures, c.insert.ensures, turn.seats, turn.sends.0, turn.sends.1, turn.stopped, turn.order)
    (desk_stops c.args.trace.now d.seats.items d.ready d.stopped d.posted (reverse d.order.items) c.args.id turn.was turn.is c.requires.fits
    c.requires.ready turn.at turn.judged)

pub returns-in-Waits-clause-fits : goal.returns-in-Waits-clause-fits
returns-in-Waits-clause-fits c =
    let d = c.args.search.now in
    let turn : IsTurn c.args.trace.now d c.turn.new.search c.args.id Waits =
    subst (λ (j : Judgement). IsTurn c.args.trace.now d c.turn.new.search c.args.id j) c.in-Waits.is c.in_ok-turn.ensures in
    rw (c.remove-in-Waits.ensures, turn.seats, turn.sends.0, turn.sends.1, turn.stopped, turn.order)
    (desk_waits c.args.trace.now d.seats.items d.ready d.stopped d.posted (reverse d.order.items) c.args.id turn.was turn.is c.requires.fits
    turn.at turn.judged)

pub returns-in_ok-push-in-Takes-clause-fits : goal.returns-in_ok-push-in-Takes-clause-fits
returns-in_ok-push-in-Takes-clause-fits c =
    let d = c.args.search.now in
    let new = c.turn.new.search in
    let turn : IsTurn c.args.trace.now d new c.args.id Takes =
    subst (λ (j : Judgement). IsTurn c.args.trace.now d new c.args.id j) c.in-Takes.is c.in_ok-turn.ensures in
    let taken = turn.judged in
    rw (c.in_ok-push-in-Takes.ensures.items, turn.seats, turn.stopped, turn.order)
    (desk_takes c.args.trace.now d.seats.items d.ready new.ready d.stopped d.posted new.posted d.order.items c.args.id turn.was turn.is
    taken.claim c.requires.fits c.requires.ready c.requires.least turn.at taken taken.next (turn.sends taken.claim taken.next))
