use Rattle.std.proofs.Common.{◌≡◌, ◌++◌, take, drop, map}
use Rattle.lease_machine.specs.Names.{raised}
use Rattle.lease_machine.proofs.machine.raise_all.Given as goal

abbrev pub invariant-loop-entry : goal.invariant-loop-entry
invariant-loop-entry l =
    record {
      written : l.entry-items ≡ map (raised l.bound) (take l.entry-index l.initial.entry-items) ++ drop l.entry-index l.initial.entry-items;
      same : l.initial.entry-items ≡ l.fn.entries.items;
    }
