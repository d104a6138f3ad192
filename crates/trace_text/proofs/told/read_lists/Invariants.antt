use Rattle.std.proofs.Common.{◌++◌, length}
use Rattle.trace_text.specs.Tellings.{lists_told}
use Rattle.trace_text.proofs.Walks.{ItemsWalked}
use Rattle.trace_text.proofs.told.read_lists.Given as goal

abbrev pub invariant-lists : goal.invariant-lists
invariant-lists l = ItemsWalked 125 lists_told (λ ds. l.told.items ++ lists_told ds) l.initial.reader l.reader

abbrev pub decreases-lists : goal.decreases-lists
decreases-lists l = length l.reader
