use Rattle.std.proofs.Common.{refl}
use Rattle.lease_machine.specs.declared.name_entry.Claim.{Claim}
use Rattle.lease_machine.proofs.name_entry.NameEntry.give_up.Goals as goal

pub returns-in-Some-clause-stops : goal.returns-in-Some-clause-stops
returns-in-Some-clause-stops c = λ _ now.
    let old = c.in-Some.claim in
    let new : Claim = record { user = old.user; candidate = c.give_up.new.self } in
    record {
      c = old;
      d = new;
      was = c.in-Some.is;
      is = refl;
      same = record { user = refl; terms = c.give_up.ensures.terms };
      acted = c.give_up.ensures.stops now;
    }
