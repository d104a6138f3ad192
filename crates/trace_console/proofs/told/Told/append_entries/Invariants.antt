use Rattle.trace_console.proofs.Thens.{AreThenBelow}
use Rattle.trace_console.proofs.told.Told.append_entries.Given as goal

abbrev pub invariant-loop-node : goal.invariant-loop-node
invariant-loop-node l = AreThenBelow l.histories l.node l.fn.self l.more l.self-inside.rows.items
