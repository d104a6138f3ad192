use Rattle.std.proofs.Common.{◌≡◌, ◌+◌, ◌-◌, ◌*◌, ◌++◌}
use Rattle.store_console.specs.Salvaged.{contents_from}
use Rattle.store_console.proofs.salvage_reading.push_contents.Given as goal

abbrev pub invariant-loop-at : goal.invariant-loop-at
invariant-loop-at l = record {
  kept : l.disk.contents ≡ l.fn.disk.contents;
  added : l.contents.items ++ contents_from l.fn.disk.contents (l.first + 2 * l.at) (l.at-end - l.at)
      ≡ l.fn.contents.items ++ contents_from l.fn.disk.contents l.first l.at-end;
}
