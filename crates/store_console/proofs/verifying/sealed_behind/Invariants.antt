use Rattle.std.proofs.Common.{◌≡◌, ◌+◌, ◌-◌, ◌*◌}
use Rattle.job_journal.specs.Areas.{slots_from}
use Rattle.store_console.specs.Findings.{first_sealed, sealed_behind}
use Rattle.store_console.proofs.verifying.sealed_behind.Given as goal

abbrev pub invariant-loop-at : goal.invariant-loop-at
invariant-loop-at l = record {
  kept : l.disk.contents ≡ l.fn.disk.contents;
  left : first_sealed (l.first + 2 * l.at) (slots_from l.fn.disk.contents (l.first + 2 * l.at) (l.slots - l.at))
      ≡ sealed_behind l.slots l.fn.disk.contents l.first;
}
