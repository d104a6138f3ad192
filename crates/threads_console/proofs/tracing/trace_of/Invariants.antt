use Rattle.std.proofs.Common.{◌≡◌, take}
use Rattle.threads_console.specs.Texts.{run_claims}
use Rattle.threads_console.proofs.tracing.trace_of.Given as goal

abbrev pub invariant-loop-turns : goal.invariant-loop-turns
invariant-loop-turns l = l.histories.items ≡ run_claims (take l.turns-index l.run.histories.items)
