use Rattle.std.proofs.Common.{◌≡◌, ◌≤◌, Option, Some, arith, refl, sym, subst}
use Rattle.lease_network.specs.Network.{release, sends}
use Rattle.lease_runs.specs.Voter.{Client}
use Rattle.lease_steps.specs.StandsFor.{Did}
use Rattle.lease_machine.specs.declared.state.LeaseMachine.{LeaseMachine}
use Rattle.lease_session.specs.Rows.{asker}
use Rattle.lease_session.specs.Turns.{claim_of}
use Rattle.lease_session.proofs.Calls.{claim_there, client_same, gave_up, some_is, stop_unasked}
use Rattle.lease_session.proofs.Leases.{kept_stopping, leases_other, leases_same}
use Rattle.lease_session.proofs.Bounds.{bound_kept}
use Rattle.lease_session.proofs.process.LeaseProcess.stop_relying.Goals as goal

pub returns-in-Some-clause-done : goal.returns-in-Some-clause-done
returns-in-Some-clause-done c = λ yes now.
    let h = c.asks_as.ensures.yes c.if-not-asks_as.false in
    let name = c.args.name.now in
    let by = asker c.args.client in
    let has = c.in-Some.is in
    let at = claim_there name has h.claimed in
    gave_up by name c.args.epoch (record { terms = refl; start = refl; seal = refl; text = refl; halt = refl; told = refl }) has refl
    (subst (λ (k : Client). Did c.in-Some.machine c.give_up.new.self now k (sends (release name k c.args.epoch)))
    (client_same c.args.self.now c.in-Some.machine name h.claim has at by c.requires.machine c.requires.process h.numbered)
    (c.asking_is_steps.ensures.stops c.in-Some.machine c.give_up.new.self now c.args.epoch name h.claim at (c.give_up.ensures.stops yes now)
    c.give_up.ensures.voter
    c.give_up.ensures.others c.give_up.ensures.goes_on))
    c.requires.machine c.requires.process (c.is_told_up_to.ensures c.if-is_told_up_to.false)
    (leases_other c.in-Some.machine c.give_up.new.self name (λ d r is lease.
    (kept_stopping c.in-Some.machine c.give_up.new.self name (c.give_up.ensures.stops yes now) d r is lease).0)
    c.give_up.ensures.others)

pub returns-then-not-asks_as-clause-done : goal.returns-then-not-asks_as-clause-done
returns-then-not-asks_as-clause-done c = λ yes now.
    let name = c.args.name.now in
    let by = asker c.args.client in
    let s = some_is c.args.self.now.machine c.is_some.ensures yes in
    let own = c.args.self.now.own s.0 s.1 in
    let counted : c.args.client.number ≤ s.0.claims = (let less = own.counted in let few = c.requires.counted in
    omega (arith, less, few)) in
    gave_up by name c.args.epoch (record { terms = refl; start = refl; seal = refl; text = refl; halt = refl; told = refl }) s.1 s.1
    (stop_unasked s.0 by name c.args.epoch counted
    (λ k is same. c.asks_as.ensures.other c.if-not-asks_as.true (record {
      claim = k;
      claimed =
          subst (λ (o : Option LeaseMachine). claim_of o c.args.name.now ≡ Some k) (sym s.1) is;
      numbered = same;
    })))
    c.requires.machine c.requires.process (c.is_told_up_to.ensures c.if-is_told_up_to.false) (λ other. leases_same s.0 s.0 other refl)

pub returns-in-Some-clause-bound : goal.returns-in-Some-clause-bound
returns-in-Some-clause-bound c = bound_kept refl c.in-Some.is refl c.give_up.ensures.goes_on.bound
