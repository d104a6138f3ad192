use Rattle.std.proofs.Common.{◌≡◌, ◌++◌, drop}
use Rattle.trace_console.specs.Judged.{words}
use Rattle.trace_console.proofs.judging.push_nodes.Given as goal

abbrev pub invariant-loop-node : goal.invariant-loop-node
invariant-loop-node l = l.text.items ++ words (drop l.node-index l.nodes) ≡ l.initial.text.items ++ words l.nodes
