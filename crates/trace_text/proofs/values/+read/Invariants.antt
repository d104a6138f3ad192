use Rattle.std.proofs.Common.{◌+◌, ◌*◌, length}
use Rattle.trace_text.proofs.Walks.{ItemsWalked, MembersWalked, nothing}
use Rattle.trace_text.proofs.values.+read.Given as goal

abbrev pub decreases-read_field : goal.decreases-read_field
decreases-read_field l = 3 * l.depth + 1

abbrev pub decreases-read_rest : goal.decreases-read_rest
decreases-read_rest l = 3 * l.depth

abbrev pub decreases-pass_items : goal.decreases-pass_items
decreases-pass_items l = 3 * l.depth + 2

abbrev pub decreases-pass_members : goal.decreases-pass_members
decreases-pass_members l = 3 * l.depth + 2

abbrev pub invariant-pass_items-items : goal.invariant-pass_items-items
invariant-pass_items-items l = ItemsWalked l.depth nothing nothing l.initial.reader l.reader

abbrev pub decreases-pass_items-items : goal.decreases-pass_items-items
decreases-pass_items-items l = length l.reader

abbrev pub invariant-pass_members-members : goal.invariant-pass_members-members
invariant-pass_members-members l = MembersWalked l.depth nothing 0 l.initial.reader l.reader

abbrev pub decreases-pass_members-members : goal.decreases-pass_members-members
decreases-pass_members-members l = length l.reader
