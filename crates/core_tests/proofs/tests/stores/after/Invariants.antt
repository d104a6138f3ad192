use Rattle.sector_disk.specs.Memory.{state_of}
use Rattle.job_journal.specs.Journal.{IsSound}
use Rattle.core_tests.proofs.tests.stores.after.Given as goal

abbrev pub invariant-loop-call : goal.invariant-loop-call
invariant-loop-call g l = IsSound l.store.journal.slots (state_of l.store.disk)
