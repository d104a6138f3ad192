use Rattle.std.proofs.Common.{◌≡◌, ◌++◌, flat_map}
use Rattle.store_console.specs.Salvaged.{entry_line}
use Rattle.store_console.proofs.salvaging.jobs_text.Given as goal

abbrev pub invariant-loop-id : goal.invariant-loop-id
invariant-loop-id l = l.text.items ++ flat_map entry_line l.id-iterator ≡ flat_map entry_line l.jobs.entries
