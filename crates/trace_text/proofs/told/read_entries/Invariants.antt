use Rattle.std.proofs.Common.{◌++◌, length}
use Rattle.trace_text.specs.Tellings.{entries_told}
use Rattle.trace_text.proofs.Walks.{ItemsWalked}
use Rattle.trace_text.proofs.told.read_entries.Given as goal

abbrev pub invariant-entries : goal.invariant-entries
invariant-entries l = ItemsWalked 124 entries_told (λ ds. l.tellings ++ entries_told ds) l.initial.reader l.reader

abbrev pub decreases-entries : goal.decreases-entries
decreases-entries l = length l.reader
