use Rattle.std.proofs.Common.{length}
use Rattle.trace_console.specs.Prefixes.{IsGone}
use Rattle.trace_console.proofs.prefixes.take_bytes.Given as goal

abbrev pub invariant-loop-end : goal.invariant-loop-end
invariant-loop-end g l = IsGone l.fn.prefix l.fn.unread.items l.fn.piece l.prefix l.unread.items l.left (g.W.Write.contents l.fn.output)
    (g.W.Write.contents l.output)

abbrev pub decreases-loop-end : goal.decreases-loop-end
decreases-loop-end g l = length l.left
