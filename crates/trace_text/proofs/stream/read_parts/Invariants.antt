use Rattle.std.proofs.Common.{length}
use Rattle.trace_text.specs.Drafts.{parted_by}
use Rattle.trace_text.specs.Pieces.{Leads, parts_on}
use Rattle.trace_text.proofs.stream.read_parts.Given as goal

abbrev pub invariant-members : goal.invariant-members
invariant-members l = Leads (parts_on (parted_by l.initial.parts)) (parts_on (parted_by l.parts)) l.initial.reader l.reader

abbrev pub decreases-members : goal.decreases-members
decreases-members l = length l.reader
