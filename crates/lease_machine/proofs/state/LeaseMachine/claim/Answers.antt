use Rattle.std.proofs.Common.{rules}
use Rattle.lease_machine.proofs.state.LeaseMachine.claim.Goals as goal

pub returns-then-place_claim-clause-claimed : goal.returns-then-place_claim-clause-claimed
returns-then-place_claim-clause-claimed c = λ _. (
  search rules,
  record {
    c = c.in-Some.claim;
    is = c.place_claim.ensures.placed c.if-place_claim.true;
    new = c.in-Some.ensures.new;
  },
)
