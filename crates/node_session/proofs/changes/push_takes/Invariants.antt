use Rattle.std.proofs.Common.{◌≡◌, ◌++◌, drop, flat_map}
use Rattle.node_session.specs.Changes.{take_line}
use Rattle.node_session.proofs.changes.push_takes.Given as goal

abbrev pub invariant-loop-job : goal.invariant-loop-job
invariant-loop-job l = l.text.items ++ flat_map take_line (drop l.job-index l.jobs) ≡ l.fn.text.items ++ flat_map take_line l.jobs
