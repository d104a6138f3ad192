use Rattle.std.proofs.Common.{length}
use Rattle.trace_text.specs.Tellings.{telling_by, telling_seen}
use Rattle.trace_text.proofs.Walks.{MembersWalked}
use Rattle.trace_text.proofs.told.read_members.Given as goal

abbrev pub invariant-members : goal.invariant-members
invariant-members l = MembersWalked 122 telling_seen (telling_by l.telling) l.initial.reader l.reader

abbrev pub decreases-members : goal.decreases-members
decreases-members l = length l.reader
