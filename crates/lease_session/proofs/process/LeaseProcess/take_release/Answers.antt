use Rattle.std.proofs.Common.{refl, inl}
use Rattle.lease_network.specs.Network.{release, takes}
use Rattle.lease_runs.specs.Code.{client_of}
use Rattle.lease_session.proofs.Turns.{action, its_machine, itself, no_action}
use Rattle.lease_session.proofs.Calls.{all_still, by_bool, release_said}
use Rattle.lease_session.proofs.Leases.{leases_other, leases_same, leases_still}
use Rattle.lease_session.proofs.Bounds.{bound_kept}
use Rattle.lease_session.proofs.process.LeaseProcess.take_release.Goals as goal

pub returns-in-Some-clause-turn : goal.returns-in-Some-clause-turn
returns-in-Some-clause-turn c = λ now. by_bool c.release.result
    (λ taken. action (itself c.args.self.now) (takes (release c.args.message.now.name (client_of c.client_of.result)
    c.args.message.now.epoch)) (record { terms = refl; start = refl; seal = refl; text = refl; halt = refl; told = refl }) c.in-Some.is
    refl
    (c.votes_are_steps.ensures.releases c.in-Some.machine c.release.new.self now c.args.message.now.epoch c.args.message.now.name
    c.client_of.result (itself c.args.self.now)
    (its_machine c.args.self.now c.in-Some.machine c.in-Some.is)
    (c.release.ensures.frees taken) c.release.ensures.others c.release.ensures.claim c.release.ensures.goes_on)
    refl refl (λ p h. h) (inl (release_said c.args.message.now c.requires (client_of c.client_of.result) c.client_of.ensures)) tt
    (leases_other c.in-Some.machine c.release.new.self c.args.message.now.name
    (leases_same c.in-Some.machine c.release.new.self c.args.message.now.name c.release.ensures.claim) c.release.ensures.others))
    (λ passed. no_action (record { terms = refl; start = refl; seal = refl; text = refl; halt = refl; told = refl }) c.in-Some.is refl
    (all_still (c.release.ensures.passes passed).0 c.release.ensures.goes_on)
    (leases_still c.in-Some.machine c.release.new.self (c.release.ensures.passes passed).0))

pub returns-in-Some-clause-bound : goal.returns-in-Some-clause-bound
returns-in-Some-clause-bound c = bound_kept refl c.in-Some.is refl c.release.ensures.goes_on.bound
