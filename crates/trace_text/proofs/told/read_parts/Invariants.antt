use Rattle.std.proofs.Common.{length}
use Rattle.trace_text.specs.Tellings.{whole_seen}
use Rattle.trace_text.proofs.Walks.{MembersWalked}
use Rattle.trace_text.proofs.told.read_parts.Given as goal

abbrev pub invariant-members : goal.invariant-members
invariant-members l = MembersWalked 126 whole_seen (l.told.items) l.initial.reader l.reader

abbrev pub decreases-members : goal.decreases-members
decreases-members l = length l.reader
