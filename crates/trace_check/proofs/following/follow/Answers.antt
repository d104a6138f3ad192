use Rattle.std.proofs.Common.{subst}
use Rattle.trace_check.specs.declared.search.Judgement.{Judgement}
use Rattle.trace_check.specs.declared.search.Judgement.TheVariants.{Stops, Waits, Takes}
use Rattle.trace_check.specs.Searches.{IsTurn}
use Rattle.trace_check.proofs.Followed.{stops_cant, takes_on, waits_cant}
use Rattle.trace_check.proofs.following.follow.Goals as goal

pub returns-in-Stops : goal.returns-in-Stops
returns-in-Stops c = λ past are.
    let d = c.args.search.now in
    let turn : IsTurn c.args.trace.now d c.turn.new.search c.args.id Stops =
    subst (λ (j : Judgement). IsTurn c.args.trace.now d c.turn.new.search c.args.id j) c.in-Stops.is c.in_ok-turn.ensures in
    stops_cant c.args.trace.now d.seats.items d.posted past c.args.id turn.was turn.is are turn.at turn.judged

pub returns-in-Waits : goal.returns-in-Waits
returns-in-Waits c = λ past are.
    let d = c.args.search.now in
    let turn : IsTurn c.args.trace.now d c.turn.new.search c.args.id Waits =
    subst (λ (j : Judgement). IsTurn c.args.trace.now d c.turn.new.search c.args.id j) c.in-Waits.is c.in_ok-turn.ensures in
    waits_cant c.args.trace.now d.seats.items d.posted past c.args.id turn.was turn.is are turn.at turn.judged

pub returns-in-Takes : goal.returns-in-Takes
returns-in-Takes c = λ past are.
    let d = c.args.search.now in
    let new = c.turn.new.search in
    let turn : IsTurn c.args.trace.now d new c.args.id Takes =
    subst (λ (j : Judgement). IsTurn c.args.trace.now d new c.args.id j) c.in-Takes.is c.in_ok-turn.ensures in
    let taken = turn.judged in
    rw turn.seats (takes_on c.args.trace.now d.seats.items d.posted past c.args.id turn.was turn.is are turn.at d.ready new.ready d.stopped
    new.posted taken.claim taken taken.next (turn.sends taken.claim taken.next))
