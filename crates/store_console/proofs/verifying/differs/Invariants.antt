use Rattle.std.proofs.Common.{◌≡◌}
use Rattle.store_console.specs.Findings.{differs}
use Rattle.store_console.proofs.verifying.differs.Given as goal

abbrev pub invariant-loop-other : goal.invariant-loop-other
invariant-loop-other l = differs l.other-iterator l.job ≡ differs l.others l.job
