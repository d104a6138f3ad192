use Rattle.std.proofs.Common.{Option, refl, subst}
use Rattle.lease_runs.specs.Code.{client_of}
use Rattle.lease_machine.specs.declared.state.LeaseMachine.{LeaseMachine}
use Rattle.lease_session.specs.Votes.{IsAllowed}
use Rattle.lease_machine.specs.Machine.{voter_at}
use Rattle.lease_machine.specs.declared.voting.Vote.{Vote}
use Rattle.lease_machine.specs.declared.voting.Vote.TheVariants as vote
use Rattle.lease_session.proofs.Turns.{itself, its_machine}
use Rattle.lease_session.proofs.Calls.{all_still, voted}
use Rattle.lease_session.proofs.Granting.{crowded_so, granted_last, refused_so, still_same}
use Rattle.lease_session.proofs.Leases.{leases_beside, leases_same}
use Rattle.lease_session.proofs.Bounds.{bound_kept}
use Rattle.lease_session.proofs.process.LeaseProcess.vote.Goals as goal

pub returns-in-Some-clause-vote : goal.returns-in-Some-clause-vote
returns-in-Some-clause-vote c = λ number. voted c.vote.result c.args.name.now number (record {
  terms = refl;
  start = refl;
  seal =
      refl;
  text = refl;
  halt = refl;
  told = refl;
}) c.in-Some.is refl
    (λ granted. c.votes_are_steps.ensures.votes c.in-Some.machine c.vote.new.self c.args.now c.args.epoch number c.args.name.now
    c.args.client (itself c.args.self.now)
    (its_machine c.args.self.now c.in-Some.machine c.in-Some.is)
    (c.vote.ensures.granted granted) c.vote.ensures.others c.vote.ensures.claim c.vote.ensures.goes_on)
    (λ refused. all_still (c.vote.ensures.refused refused).0 c.vote.ensures.goes_on)
    (λ full. all_still (still_same c.in-Some.machine c.vote.new.self (c.vote.ensures.full full).0) c.vote.ensures.goes_on)
    (leases_beside c.in-Some.machine c.vote.new.self c.args.now c.args.name.now
    (leases_same c.in-Some.machine c.vote.new.self c.args.name.now c.vote.ensures.claim) c.vote.ensures.others)

pub returns-in-Some-clause-granted : goal.returns-in-Some-clause-granted
returns-in-Some-clause-granted c = λ granted.
    granted_last c.args.now c.args.epoch c.args.client (voter_at c.in-Some.machine c.args.name.now)
    (voter_at c.vote.new.self c.args.name.now) (c.vote.ensures.granted granted)

pub returns-in-Some-clause-refused : goal.returns-in-Some-clause-refused
returns-in-Some-clause-refused c = λ is fits.
    let it = c.vote.ensures.refused is in
    refused_so c.args.now c.args.epoch c.args.client c.in-Some.machine c.vote.new.self c.args.name.now it.0 it.1
    (subst (λ (o : Option LeaseMachine). IsAllowed c.args.epoch o) c.in-Some.is fits)

pub returns-in-Some-clause-full : goal.returns-in-Some-clause-full
returns-in-Some-clause-full c = λ is.
    let it = c.vote.ensures.full is in
    crowded_so c.args.now c.args.epoch c.args.client c.in-Some.machine c.vote.new.self c.args.name.now it.0 it.1 it.2

pub returns-in-Some-clause-bound : goal.returns-in-Some-clause-bound
returns-in-Some-clause-bound c = bound_kept refl c.in-Some.is refl c.vote.ensures.goes_on.bound
