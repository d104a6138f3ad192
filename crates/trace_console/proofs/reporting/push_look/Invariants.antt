use Rattle.std.proofs.Common.{◌≡◌, drop}
use Rattle.trace_console.specs.Reported.{look_text}
use Rattle.trace_console.proofs.reporting.push_look.Given as goal

abbrev pub invariant-loop-leftover : goal.invariant-loop-leftover
invariant-loop-leftover l = (l.text.items ≡ l.fn.text.items) × (look_text l.left ≡ look_text (drop l.leftover-index l.left))
