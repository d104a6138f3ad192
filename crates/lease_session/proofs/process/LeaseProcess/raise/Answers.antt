use Rattle.std.proofs.Common.{refl}
use Rattle.lease_network.specs.Network.{reserves}
use Rattle.lease_session.proofs.Turns.{action, its_machine, itself}
use Rattle.lease_session.proofs.Leases.{leases_same}
use Rattle.std.proofs.Common.{arith}
use Rattle.lease_session.proofs.process.LeaseProcess.raise.Goals as goal

pub returns-in-Some-clause-turn : goal.returns-in-Some-clause-turn
returns-in-Some-clause-turn c = λ now. action (itself c.args.self.now) (reserves c.args.bound)
    (record { terms = refl; start = refl; seal = refl; text = refl; halt = refl; told = refl }) c.in-Some.is refl
    (c.votes_are_steps.ensures.raises c.in-Some.machine c.raise.new.self now c.args.bound (itself c.args.self.now)
    (its_machine c.args.self.now c.in-Some.machine c.in-Some.is)
    c.raise.ensures.raises c.raise.ensures.claims c.raise.ensures.terms.0 c.raise.ensures.terms.1 c.raise.ensures.terms.3)
    refl refl (λ p h. h) tt tt (λ name. leases_same c.in-Some.machine c.raise.new.self name (c.raise.ensures.claims name))

pub returns-in-Some-clause-bound : goal.returns-in-Some-clause-bound
returns-in-Some-clause-bound c = record { its_start = refl; its_bound = (let is = c.raise.ensures.terms.2 in omega (arith, is)) }

pub returns-in-Some-clause-allows : goal.returns-in-Some-clause-allows
returns-in-Some-clause-allows c = λ epoch less. (let is = c.raise.ensures.terms.2 in omega (arith, is, less))
