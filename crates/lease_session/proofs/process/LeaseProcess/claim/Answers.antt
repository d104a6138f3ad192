use Rattle.std.proofs.Common.{refl, rules}
use Rattle.std.specs.Prelude.{IsOk}
use Rattle.lease_session.proofs.Turns.{no_action}
use Rattle.lease_session.proofs.Calls.{all_still}
use Rattle.lease_session.proofs.Leases.{kept_begun, leases_beside, leases_still}
use Rattle.lease_session.proofs.Bounds.{bound_kept}
use Rattle.lease_session.proofs.process.LeaseProcess.claim.Goals as goal

pub returns-in-Some-claimed-clause-turn : goal.returns-in-Some-claimed-clause-turn
returns-in-Some-claimed-clause-turn c =
    let ok : IsOk c.claim.result = search rules in
    no_action (record { terms = refl; start = refl; seal = refl; text = refl; halt = refl; told = refl }) c.in-Some.is refl
    (c.asking_is_steps.ensures.claims c.in-Some.machine c.claim.new.self c.args.now c.args.user c.args.name.now
    (c.claim.ensures.claimed ok).1 (c.claim.ensures.claimed ok).0
    c.claim.ensures.voter c.claim.ensures.others c.claim.ensures.goes_on)
    (leases_beside c.in-Some.machine c.claim.new.self c.args.now c.args.name.now
    (kept_begun c.in-Some.machine c.claim.new.self c.args.name.now (c.claim.ensures.claimed ok).1) c.claim.ensures.others)

pub returns-in-Err-Claimed-clause-turn : goal.returns-in-Err-Claimed-clause-turn
returns-in-Err-Claimed-clause-turn c = no_action (record { terms = refl; start = refl; seal = refl; text = refl; halt = refl; told = refl })
    c.in-Some.is refl (all_still c.in-Err-Claimed.ensures.refused c.claim.ensures.goes_on)
    (leases_still c.in-Some.machine c.claim.new.self c.in-Err-Claimed.ensures.refused)

pub returns-in-Err-Exhausted-clause-turn : goal.returns-in-Err-Exhausted-clause-turn
returns-in-Err-Exhausted-clause-turn c = no_action (record {
  terms = refl;
  start = refl;
  seal = refl;
  text = refl;
  halt = refl;
  told =
      refl;
}) c.in-Some.is refl (all_still c.in-Err-Exhausted.ensures.refused c.claim.ensures.goes_on)
    (leases_still c.in-Some.machine c.claim.new.self c.in-Err-Exhausted.ensures.refused)

pub returns-in-Err-Full-clause-turn : goal.returns-in-Err-Full-clause-turn
returns-in-Err-Full-clause-turn c = no_action (record { terms = refl; start = refl; seal = refl; text = refl; halt = refl; told = refl })
    c.in-Some.is refl (all_still c.in-Err-Full.ensures.refused c.claim.ensures.goes_on)
    (leases_still c.in-Some.machine c.claim.new.self c.in-Err-Full.ensures.refused)

pub returns-in-Some-claimed-clause-bound : goal.returns-in-Some-claimed-clause-bound
returns-in-Some-claimed-clause-bound c = bound_kept refl c.in-Some.is refl c.claim.ensures.goes_on.bound

pub returns-in-Err-Claimed-clause-bound : goal.returns-in-Err-Claimed-clause-bound
returns-in-Err-Claimed-clause-bound c = bound_kept refl c.in-Some.is refl c.claim.ensures.goes_on.bound

pub returns-in-Err-Exhausted-clause-bound : goal.returns-in-Err-Exhausted-clause-bound
returns-in-Err-Exhausted-clause-bound c = bound_kept refl c.in-Some.is refl c.claim.ensures.goes_on.bound

pub returns-in-Err-Full-clause-bound : goal.returns-in-Err-Full-clause-bound
returns-in-Err-Full-clause-bound c = bound_kept refl c.in-Some.is refl c.claim.ensures.goes_on.bound
