use Rattle.std.proofs.Common.{◌≡◌, ◌++◌, drop}
use Rattle.std.specs.List.{flat_map}
use Rattle.trace_console.specs.Reported.{leftover_text}
use Rattle.trace_console.proofs.reporting.push_leftovers.Given as goal

abbrev pub invariant-loop-leftover : goal.invariant-loop-leftover
invariant-loop-leftover l = l.text.items ++ flat_map (leftover_text l.trace) (drop l.leftover-index l.left)
    ≡ l.fn.text.items ++ flat_map (leftover_text l.trace) l.left
