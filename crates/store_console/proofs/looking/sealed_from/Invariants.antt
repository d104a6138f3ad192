use Rattle.std.proofs.Common.{◌≡◌, ◌+◌, ◌-◌, ◌*◌, length}
use Rattle.job_journal.specs.Areas.{sealed_prefix, slots_from}
use Rattle.store_console.proofs.looking.sealed_from.Given as goal

abbrev pub invariant-loop-sealed : goal.invariant-loop-sealed
invariant-loop-sealed l = record {
  kept : l.disk.contents ≡ l.fn.disk.contents;
  count : length (sealed_prefix (slots_from l.fn.disk.contents l.first l.slots))
      ≡ l.sealed + length (sealed_prefix (slots_from l.fn.disk.contents (l.first + 2 * l.sealed) (l.slots - l.sealed)));
}
