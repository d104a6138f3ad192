use Rattle.std.proofs.Common.{◌≡◌, length, replicate}
use Rattle.node_threads.specs.Nodes.{PollOthers}
use Rattle.threads_console.specs.Planning.{no_plans}
use Rattle.threads_console.specs.Scripts.{turns_of}
use Rattle.threads_console.proofs.Filling.{filled}
use Rattle.threads_console.proofs.reading.read_turns.Given as goal

abbrev pub invariant-loop-number : goal.invariant-loop-number
invariant-loop-number l = record {
  count : length l.plans.items ≡ l.nodes;
  rest_read : filled l.plans.items (turns_of l.nodes l.lines.lines) ≡ filled (replicate l.nodes no_plans)
      (turns_of l.nodes l.fn.lines.lines);
  polls : PollOthers l.plans.items;
}

abbrev pub decreases-loop-number : goal.decreases-loop-number
decreases-loop-number l = length l.lines.lines
