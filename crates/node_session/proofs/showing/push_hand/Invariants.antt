use Rattle.std.proofs.Common.{◌≡◌, ◌++◌, flat_map}
use Rattle.node_session.specs.Text.{hand_line}
use Rattle.node_session.proofs.showing.push_hand.Given as goal

abbrev pub invariant-loop-job : goal.invariant-loop-job
invariant-loop-job l = l.text.items ++ flat_map hand_line l.job-iterator ≡ l.fn.text.items ++ flat_map hand_line l.fn.jobs
