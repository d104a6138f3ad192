use Rattle.std.proofs.Common.{refl}
use Rattle.std.specs.Prelude.{Some}
use Rattle.lease_machine.specs.declared.name_entry.Claim.{Claim}
use Rattle.lease_machine.proofs.Keeping.{asked_made}
use Rattle.lease_machine.proofs.name_entry.NameEntry.ask.Goals as goal

pub returns-in-Some-clause-asks : goal.returns-in-Some-clause-asks
returns-in-Some-clause-asks c =
    let old = c.in-Some.claim in
    let new : Claim = record { user = old.user; candidate = c.ask.new.self } in
    asked_made c.args.self.now.claim (Some new) old new c.args.now c.args.epoch c.ask.result c.in-Some.is refl (record {
      user = refl;
      terms = c.ask.ensures.terms;
    }) c.ask.ensures.asks
