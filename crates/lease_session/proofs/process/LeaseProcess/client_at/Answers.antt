use Rattle.std.proofs.Common.{◌≡◌, Option, Some, sym, subst}
use Rattle.lease_machine.specs.declared.state.LeaseMachine.{LeaseMachine}
use Rattle.lease_session.specs.Turns.{claim_of}
use Rattle.lease_session.proofs.process.LeaseProcess.client_at.Goals as goal

pub returns-in-Some-claimed-clause-some : goal.returns-in-Some-claimed-clause-some
returns-in-Some-claimed-clause-some c = record {
  claim = c.in-Some-claimed.claim.now;
  claimed = subst (λ (o : Option LeaseMachine). claim_of o c.args.name.now ≡ Some c.in-Some-claimed.claim.now)
      (sym c.in-Some.is) c.in-Some-claimed.ensures.some;
  as_client = sym c.client.ensures;
}
