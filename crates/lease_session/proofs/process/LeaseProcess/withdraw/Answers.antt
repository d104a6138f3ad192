use Rattle.std.proofs.Common.{refl}
use Rattle.lease_session.proofs.Turns.{no_action}
use Rattle.lease_session.proofs.Leases.{kept_nobody, leases_other}
use Rattle.lease_session.proofs.Bounds.{bound_kept}
use Rattle.lease_session.proofs.process.LeaseProcess.withdraw.Goals as goal

pub returns-in-Some-clause-turn : goal.returns-in-Some-clause-turn
returns-in-Some-clause-turn c = λ now. no_action (record { terms = refl; start = refl; seal = refl; text = refl; halt = refl; told = refl })
    c.in-Some.is refl
    (c.asking_is_steps.ensures.withdraws c.in-Some.machine c.withdraw.new.self now c.args.name.now c.withdraw.ensures.nobody
    c.withdraw.ensures.voter c.withdraw.ensures.others
    c.withdraw.ensures.goes_on)
    (leases_other c.in-Some.machine c.withdraw.new.self c.args.name.now
    (kept_nobody c.in-Some.machine c.withdraw.new.self c.args.name.now c.withdraw.ensures.nobody) c.withdraw.ensures.others)

pub returns-in-Some-clause-bound : goal.returns-in-Some-clause-bound
returns-in-Some-clause-bound c = bound_kept refl c.in-Some.is refl c.withdraw.ensures.goes_on.bound
