use Rattle.std.proofs.Common.{length, option_map}
use Rattle.trace_text.specs.Tellings.{telling_by, told_seen}
use Rattle.trace_text.proofs.Walks.{MembersWalked}
use Rattle.trace_text.proofs.told.find_told.Given as goal

abbrev pub invariant-members : goal.invariant-members
invariant-members l = MembersWalked 123 told_seen (option_map telling_by l.told) l.initial.reader l.reader

abbrev pub decreases-members : goal.decreases-members
decreases-members l = length l.reader
