use Rattle.std.proofs.Common.{◌∙◌, refl, sym, ap}
use Rattle.std.proofs.lemmas.Bool.{eqb-true}
use Rattle.lease_runs.specs.declared.client_id.ClientId.{ClientId}
use Rattle.lease_machine.specs.declared.name_entry.Claim.{Claim}
use Rattle.lease_session.proofs.Machines.{not_same}
use Rattle.lease_session.proofs.Calls.{no_claim, the_claim}
use Rattle.lease_session.proofs.process.LeaseProcess.asks_as.Goals as goal

pub returns-in-Some-clause-yes : goal.returns-in-Some-clause-yes
returns-in-Some-clause-yes c = λ same.
    let h = c.in-Some.ensures.some in
    record {
      claim = h.claim;
      claimed = h.claimed;
      numbered = ap (λ (k : ClientId). k.number) h.as_client
          ∙ eqb-true c.in-Some.asks.number c.args.number same;
    }

pub returns-in-Some-clause-other : goal.returns-in-Some-clause-other
returns-in-Some-clause-other c = λ differ other.
    let h = c.in-Some.ensures.some in
    not_same c.in-Some.asks.number c.args.number differ
    (ap (λ (k : ClientId). k.number) (sym h.as_client) ∙ (ap (λ (k : Claim). k.candidate.client.number)
    (the_claim h.claim other.claim (sym h.claimed ∙ other.claimed)) ∙ other.numbered))

pub returns-in-None-clause-other : goal.returns-in-None-clause-other
returns-in-None-clause-other c = λ differ other. no_claim other.claim (c.in-None.ensures.none refl) other.claimed
