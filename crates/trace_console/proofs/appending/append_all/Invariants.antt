use Rattle.std.proofs.Common.{◌≡◌, ◌++◌, drop, length, take}
use Rattle.trace_console.specs.Prefixes.{joined}
use Rattle.trace_console.proofs.appending.append_all.Given as goal

abbrev pub invariant-loop-node : goal.invariant-loop-node
invariant-loop-node l =
    (length l.histories.items ≡ length l.piece)
    × (take l.node l.histories.items ++ joined (drop l.node l.histories.items) (drop l.node l.piece) ≡ joined l.fn.histories.items l.piece)
