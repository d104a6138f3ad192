use Rattle.std.proofs.Common.{◌≡◌, length}
use Rattle.trace_console.proofs.NodeCursors.{AreOpen}
use Rattle.trace_console.proofs.walk.open.Given as goal

abbrev pub invariant-loop-number : goal.invariant-loop-number
invariant-loop-number l = (length l.seats.items ≡ l.number) × AreOpen l.nodes l.seats.items
