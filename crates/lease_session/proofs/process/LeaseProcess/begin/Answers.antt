use Rattle.std.proofs.Common.{refl}
use Rattle.lease_session.proofs.Calls.{begun, none_is}
use Rattle.std.proofs.Common.{arith}
use Rattle.lease_session.proofs.process.LeaseProcess.begin.Goals as goal

pub returns-in-Ok-clause-turn : goal.returns-in-Ok-clause-turn
returns-in-Ok-clause-turn c = begun (record { terms = refl; start = refl; seal = refl; text = refl; halt = refl; told = refl })
    (none_is c.args.self.now.machine (c.is_some.ensures) c.if-is_some.false) refl c.in-Ok.ensures.terms.0 c.in-Ok.ensures.terms.1
    (c.votes_are_steps.ensures.begins c.in-Ok.machine c.args.now c.args.self.now.start.floor c.args.bound) c.in-Ok.ensures.terms.3
    c.requires c.in-Ok.ensures.begins c.in-Ok.ensures.nobody

pub returns-in-Ok-clause-bound : goal.returns-in-Ok-clause-bound
returns-in-Ok-clause-bound c = record { its_start = refl; its_bound = (let is = c.in-Ok.ensures.terms.2 in omega (arith, is)) }
