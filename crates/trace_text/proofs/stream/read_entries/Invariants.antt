use Rattle.std.proofs.Common.{◌≤◌, length}
use Rattle.trace_text.specs.Pieces.{Leads, entries_on}
use Rattle.trace_text.proofs.stream.read_entries.Given as goal

abbrev pub invariant-entries : goal.invariant-entries
invariant-entries l = Leads (entries_on l.node l.initial.entries) (entries_on l.node l.entries) l.initial.reader l.reader
    × (length l.reader ≤ length l.initial.reader)

abbrev pub decreases-entries : goal.decreases-entries
decreases-entries l = length l.reader
