use Rattle.lease_machine.proofs.Keeping.{held_made}
use Rattle.lease_machine.proofs.name_entry.NameEntry.held.Goals as goal

pub returns-in-Some-clause-held : goal.returns-in-Some-clause-held
returns-in-Some-clause-held c = held_made c.args.self.now.claim c.in-Some.claim c.args.now c.held.result c.in-Some.is c.held.ensures.held
