use Rattle.std.proofs.Common.{refl}
use Rattle.lease_session.proofs.Turns.{no_action}
use Rattle.lease_session.proofs.Calls.{all_still, claim_there, named_machine, requested}
use Rattle.lease_session.proofs.Leases.{kept_asking, leases_other, leases_still}
use Rattle.lease_session.proofs.Bounds.{bound_kept, bound_quiet, bound_then}
use Rattle.lease_session.proofs.process.LeaseProcess.request.Goals as goal

pub returns-in_err-request-clause-none : goal.returns-in_err-request-clause-none
returns-in_err-request-clause-none c = λ none. no_action (record {
  terms = refl;
  start = refl;
  seal = refl;
  text = refl;
  halt = refl;
  told =
      refl;
}) c.in-Some.is refl (all_still (c.in_err-request.ensures.none refl) c.ask.ensures.goes_on)
    (leases_still c.in-Some.machine c.ask.new.self (c.in_err-request.ensures.none refl))

pub send_to_others-requires-clause-client : goal.send_to_others-requires-clause-client
send_to_others-requires-clause-client c = named_machine c.args.self.now c.in-Some.machine c.args.name.now c.in-Some.is
    c.in_ok-asks.ensures.some c.in_ok-client.client c.in_ok-client.ensures

pub returns-clause-some : goal.returns-clause-some
returns-clause-some c =
    let h = c.in_ok-asks.ensures.some in
    requested c.args.name.now c.in_ok-asks.asks c.in_ok-request.request.number c.args.epoch (record {
      terms = refl;
      start = refl;
      seal =
          refl;
      text = refl;
      halt = refl;
      told = refl;
    }) c.in-Some.is refl h
    (c.asking_is_steps.ensures.asks c.in-Some.machine c.ask.new.self c.args.now c.args.epoch c.in_ok-request.request.number c.args.name.now
    h.claim
    (claim_there c.args.name.now c.in-Some.is h.claimed) c.in_ok-request.ensures.asks.2 c.ask.ensures.voter c.ask.ensures.others
    c.ask.ensures.goes_on)
    c.in_ok-client.client c.in_ok-client.ensures (c.send_to_others.ensures.turn c.args.now)
    (leases_other c.in-Some.machine c.ask.new.self c.args.name.now
    (kept_asking c.in-Some.machine c.ask.new.self c.args.name.now c.in_ok-request.ensures.asks.2) c.ask.ensures.others)

pub returns-clause-bound : goal.returns-clause-bound
returns-clause-bound c = bound_then (bound_kept refl c.in-Some.is refl c.ask.ensures.goes_on.bound)
    (bound_quiet c.send_to_others.ensures.quiet)

pub returns-in_err-request-clause-bound : goal.returns-in_err-request-clause-bound
returns-in_err-request-clause-bound c = bound_kept refl c.in-Some.is refl c.ask.ensures.goes_on.bound
