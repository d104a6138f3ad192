use Rattle.std.proofs.Common.{◌≡◌, Some, rules, List, refl, sym, ◌∙◌, ap, subst}
use Rattle.lease_network.specs.Network.{release, sends}
use Rattle.lease_runs.specs.declared.client_id.ClientId.{ClientId}
use Rattle.lease_runs.specs.Code.{client_of}
use Rattle.lease_steps.specs.StandsFor.{Did}
use Rattle.lease_session.specs.Telling.{NoneUpTo, told_of}
use Rattle.lease_session.specs.declared.told.Told.{Told}
use Rattle.lease_session.proofs.Calls.{by_bool, claim_there, gave_up, gave_up_lost, lost_holders, no_claim, of_machine, of_process}
use Rattle.lease_session.proofs.Leases.{kept_stopping, leases_other}
use Rattle.lease_session.proofs.Bounds.{bound_kept, bound_quiet, bound_then}
use Rattle.lease_session.proofs.process.LeaseProcess.give_up_told.Goals as goal

pub returns-in-Some-told-clause-gave : goal.returns-in-Some-told-clause-gave
returns-in-Some-told-clause-gave c = λ client h now.
    let name = c.args.name.now in
    let has = c.in-Some.is in
    let at = claim_there name has h.claimed in
    by_bool c.give_up.result
    (λ yes. gave_up_lost (client_of client) name c.args.epoch (record {
      terms = refl;
      start = refl;
      seal = refl;
      text = refl;
      halt =
          refl;
      told = refl;
    }) has refl
    (subst (λ (k : ClientId). Did c.in-Some.machine c.give_up.new.self now (client_of k) (sends (release name (client_of k) c.args.epoch)))
    h.as_client
    (c.asking_is_steps.ensures.stops c.in-Some.machine c.give_up.new.self now c.args.epoch name h.claim at (c.give_up.ensures.stops yes now)
    c.give_up.ensures.voter
    c.give_up.ensures.others c.give_up.ensures.goes_on))
    (ap (λ (k : ClientId). k.machine) (sym h.as_client) ∙ of_machine c.args.self.now c.in-Some.machine name h.claim has at)
    (ap (λ (k : ClientId). k.boot) (sym h.as_client) ∙ of_process c.args.self.now c.in-Some.machine name h.claim has at)
    c.in-Some-told.ensures.some.1 c.requires c.tell_lost.ensures
    (lost_holders c.in-Some.machine c.give_up.new.self c.args.self.now.told.items name
    (subst (λ (ts : List Told). told_of name ts ≡ Some c.in-Some-told.told) c.deref.ensures.value c.in-Some-told.ensures.some.0)
    c.in-Some-told.ensures.some.1
    (kept_stopping c.in-Some.machine c.give_up.new.self name (c.give_up.ensures.stops yes now)) c.give_up.ensures.others))
    (λ nobody. absurd (no_claim h.claim (c.give_up.ensures.nobody nobody) at))

pub returns-in-None-clause-gave : goal.returns-in-None-clause-gave
returns-in-None-clause-gave c = λ client h now.
    let name = c.args.name.now in
    let has = c.in-Some.is in
    let at = claim_there name has h.claimed in
    by_bool c.give_up.result
    (λ yes. gave_up (client_of client) name c.args.epoch (record {
      terms = refl;
      start = refl;
      seal = refl;
      text = refl;
      halt = refl;
      told =
          refl;
    }) has refl
    (subst (λ (k : ClientId). Did c.in-Some.machine c.give_up.new.self now (client_of k) (sends (release name (client_of k) c.args.epoch)))
    h.as_client
    (c.asking_is_steps.ensures.stops c.in-Some.machine c.give_up.new.self now c.args.epoch name h.claim at (c.give_up.ensures.stops yes now)
    c.give_up.ensures.voter
    c.give_up.ensures.others c.give_up.ensures.goes_on))
    (ap (λ (k : ClientId). k.machine) (sym h.as_client) ∙ of_machine c.args.self.now c.in-Some.machine name h.claim has at)
    (ap (λ (k : ClientId). k.boot) (sym h.as_client) ∙ of_process c.args.self.now c.in-Some.machine name h.claim has at)
    (subst (λ (ts : List Told). NoneUpTo name c.args.epoch ts) c.deref.ensures.value (c.told_up_to-told.ensures.none (search rules)))
    (leases_other c.in-Some.machine c.give_up.new.self name (λ d r is lease.
    (kept_stopping c.in-Some.machine c.give_up.new.self name (c.give_up.ensures.stops yes now) d r is lease).0)
    c.give_up.ensures.others))
    (λ nobody. absurd (no_claim h.claim (c.give_up.ensures.nobody nobody) at))

pub returns-in-Some-told-clause-bound : goal.returns-in-Some-told-clause-bound
returns-in-Some-told-clause-bound c = bound_then (bound_kept refl c.in-Some.is refl c.give_up.ensures.goes_on.bound)
    (bound_quiet c.tell_lost.ensures.quiet)

pub returns-in-None-clause-bound : goal.returns-in-None-clause-bound
returns-in-None-clause-bound c = bound_kept refl c.in-Some.is refl c.give_up.ensures.goes_on.bound
