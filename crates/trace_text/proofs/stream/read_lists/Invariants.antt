use Rattle.std.proofs.Common.{◌≤◌, length}
use Rattle.trace_text.specs.Pieces.{Leads, lists_on}
use Rattle.trace_text.proofs.stream.read_lists.Given as goal

abbrev pub invariant-lists : goal.invariant-lists
invariant-lists l = Leads (lists_on l.initial.histories) (lists_on l.histories) l.initial.reader l.reader
    × (length l.reader ≤ length l.initial.reader)

abbrev pub decreases-lists : goal.decreases-lists
decreases-lists l = length l.reader
