use Rattle.std.proofs.Common.{◌≡◌, ◌++◌, flat_map}
use Rattle.trace_console.specs.NodeStates.{pending_text}
use Rattle.trace_console.proofs.node_states.push_all_pending.Given as goal

abbrev pub invariant-loop-job : goal.invariant-loop-job
invariant-loop-job l = l.text.items ++ flat_map pending_text l.job-iterator ≡ l.fn.text.items ++ flat_map pending_text l.jobs
