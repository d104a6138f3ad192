use Rattle.std.proofs.Common.{rules}
use Rattle.std.specs.Prelude.{IsNone}
use Rattle.cluster_sim.proofs.Answering.{act_answered, no_event}
use Rattle.cluster_sim.proofs.Doings.{event_acted, faults_named, untouched_named}
use Rattle.cluster_sim.proofs.world.World.step.Goals as goal

pub returns-in-Some-clause-acted : goal.returns-in-Some-clause-acted
returns-in-Some-clause-acted c = λ w stands.
    event_acted w c.args.act.now _ _ c.take.result c.take.new.self c.in-Some.ensures.some
    (λ number brings goes. c.take.ensures.acted w number c.args.act.now (rw c.self.view_is stands) brings goes)

pub returns-in-Some-clause-faults : goal.returns-in-Some-clause-faults
returns-in-Some-clause-faults c = faults_named c.args.act.now _ _ c.self.inside.nodes c.args.self.now c.take.new.self c.take.result
    c.self.view_is c.in-Some.ensures.some c.take.ensures.faults

pub returns-clause-acted : goal.returns-clause-acted
returns-clause-acted c = λ w stands.
    c.apply.ensures.acted w (rw c.self.view_is stands)

pub returns-in-Some-clause-untouched : goal.returns-in-Some-clause-untouched
returns-in-Some-clause-untouched c = λ w stands.
    untouched_named c.args.act.now _ _ c.self.inside.nodes c.args.self.now c.take.new.self c.take.result c.self.view_is
    c.in-Some.ensures.some (c.take.ensures.untouched w (rw c.self.view_is stands))

pub returns-in-Some-clause-answers : goal.returns-in-Some-clause-answers
returns-in-Some-clause-answers c = λ w stands.
    act_answered c.args.self.now.net c.args.self.now.nodes c.args.act.now _ _ c.take.result c.in-Some.ensures.some
    (rw c.self.view_is at (c.take.ensures.answers w (rw c.self.view_is stands)))

pub returns-in-Some-clause-areas : goal.returns-in-Some-clause-areas
returns-in-Some-clause-areas c = λ w stands. rw (← c.self.view_is) (c.take.ensures.areas w (rw c.self.view_is stands))

pub returns-clause-answers : goal.returns-clause-answers
returns-clause-answers c = λ w stands. no_event c.args.self.now c.args.act.now _ (let none : IsNone c.event_at.result = search rules in
    c.event_at.ensures.none none) (search rules)

pub returns-clause-areas : goal.returns-clause-areas
returns-clause-areas c = λ w stands. rw (← c.self.view_is) c.apply.ensures.areas
