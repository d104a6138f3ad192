use Rattle.std.proofs.Common.{◌≡◌, drop}
use Rattle.lease_machine.specs.Names.{place_from}
use Rattle.lease_machine.proofs.entries.place_of.Given as goal

abbrev pub invariant-loop-entry : goal.invariant-loop-entry
invariant-loop-entry l = (l.place ≡ l.entry-index) × (place_from l.place l.fn.name (drop l.entry-index l.entries)
    ≡ place_from 0 l.fn.name l.fn.entries)
