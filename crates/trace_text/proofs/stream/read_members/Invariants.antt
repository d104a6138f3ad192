use Rattle.std.proofs.Common.{length}
use Rattle.trace_text.specs.Drafts.{drafted_by}
use Rattle.trace_text.specs.Streams.{drafted_in}
use Rattle.trace_text.proofs.Walks.{MembersWalked}
use Rattle.trace_text.proofs.stream.read_members.Given as goal

abbrev pub invariant-members : goal.invariant-members
invariant-members l = MembersWalked 123 drafted_in (drafted_by l.draft) l.initial.reader l.reader

abbrev pub decreases-members : goal.decreases-members
decreases-members l = length l.reader
