use Rattle.std.proofs.Common.{◌≡◌, ◌++◌, flat_map}
use Rattle.node_session.specs.Text.{pending_line}
use Rattle.node_session.proofs.showing.push_pending.Given as goal

abbrev pub invariant-loop-job : goal.invariant-loop-job
invariant-loop-job l = l.text.items ++ flat_map pending_line l.job-iterator ≡ l.fn.text.items ++ flat_map pending_line l.fn.jobs
