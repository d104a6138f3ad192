use Rattle.std.proofs.Common.{◌≡◌, drop}
use Rattle.lease_machine.specs.Names.{dead_from}
use Rattle.lease_machine.proofs.entries.dead_place.Given as goal

abbrev pub invariant-loop-entry : goal.invariant-loop-entry
invariant-loop-entry l = (l.place ≡ l.entry-index) × (dead_from l.place l.fn.now (drop l.entry-index l.entries)
    ≡ dead_from 0 l.fn.now l.fn.entries)
