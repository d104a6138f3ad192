use Rattle.std.proofs.Common.{◌≡◌, ◌++◌, map}
use Rattle.invite_console.specs.Rows.{held_by}
use Rattle.invite_console.proofs.rows.held_in.Given as goal

abbrev pub invariant-loop-job : goal.invariant-loop-job
invariant-loop-job l = l.held.items ++ map held_by l.job-iterator ≡ map held_by l.fn.hand
