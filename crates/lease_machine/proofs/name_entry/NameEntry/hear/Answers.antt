use Rattle.std.proofs.Common.{rules, refl}
use Rattle.lease_machine.specs.declared.name_entry.Claim.{Claim}
use Rattle.lease_machine.proofs.name_entry.NameEntry.hear.Goals as goal

pub returns-in-Some-clause-hears : goal.returns-in-Some-clause-hears
returns-in-Some-clause-hears c = λ _.
    let old = c.in-Some.claim in
    let new : Claim = record { user = old.user; candidate = c.hear.new.self } in
    record {
      c = old;
      d = new;
      was = c.in-Some.is;
      is = refl;
      same = record { user = refl; terms = c.hear.ensures.terms };
      own = search rules;
      heard = c.hear.ensures.hears;
    }
