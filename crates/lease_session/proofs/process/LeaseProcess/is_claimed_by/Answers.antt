use Rattle.std.proofs.Common.{◌≡◌, Option, Some, sym, subst, eqb-true}
use Rattle.lease_machine.specs.declared.state.LeaseMachine.{LeaseMachine}
use Rattle.lease_session.specs.Turns.{claim_of}
use Rattle.lease_session.proofs.process.LeaseProcess.is_claimed_by.Goals as goal

pub returns-in-Some-claimed-clause-yes : goal.returns-in-Some-claimed-clause-yes
returns-in-Some-claimed-clause-yes c = λ same. (
  c.in-Some-claimed.claim.now,
  subst (λ (o : Option LeaseMachine). claim_of o c.args.name.now ≡ Some c.in-Some-claimed.claim.now)
      (sym c.in-Some.is) c.in-Some-claimed.ensures.some,
  eqb-true c.in-Some-claimed.claim.now.user c.args.user same,
)
