use Rattle.std.proofs.Common.{refl}
use Rattle.lease_session.proofs.Calls.{all_still, by_bool, hears_of_machine, hears_of_process}
use Rattle.lease_session.proofs.Leases.{kept_hearing, leases_still}
use Rattle.lease_session.proofs.Saying.{heard_so, told_so}
use Rattle.lease_session.proofs.Turns.{no_action, then}
use Rattle.lease_session.proofs.Bounds.{bound_kept, bound_quiet, bound_then}
use Rattle.lease_session.proofs.process.LeaseProcess.hear.Goals as goal

pub returns-clause-turn : goal.returns-clause-turn
returns-clause-turn c = by_bool c.hear.result
    (λ taken. heard_so c.args.client c.args.name.now (record {
      terms = refl;
      start = refl;
      seal = refl;
      text = refl;
      halt = refl;
      told =
          refl;
    }) c.in-Some.is refl
    (c.asking_is_steps.ensures.hears c.in-Some.machine c.hear.new.self c.args.now c.args.voter c.args.number c.args.name.now c.args.client
    (c.hear.ensures.hears taken)
    c.hear.ensures.voter c.hear.ensures.others c.hear.ensures.goes_on)
    (hears_of_machine c.args.self.now c.in-Some.machine c.hear.new.self c.args.name.now c.in-Some.is (c.hear.ensures.hears taken))
    (hears_of_process c.args.self.now c.in-Some.machine c.hear.new.self c.args.name.now c.in-Some.is (c.hear.ensures.hears taken))
    (kept_hearing c.in-Some.machine c.hear.new.self c.args.name.now (c.hear.ensures.hears taken)) c.hear.ensures.others c.tell_held.ensures)
    (λ passed. then (no_action (record { terms = refl; start = refl; seal = refl; text = refl; halt = refl; told = refl }) c.in-Some.is refl
    (all_still (c.hear.ensures.passes passed) c.hear.ensures.goes_on)
    (leases_still c.in-Some.machine c.hear.new.self (c.hear.ensures.passes passed))) (told_so c.tell_held.ensures))

pub returns-clause-bound : goal.returns-clause-bound
returns-clause-bound c = bound_then (bound_kept refl c.in-Some.is refl c.hear.ensures.goes_on.bound) (bound_quiet c.tell_held.ensures.quiet)
