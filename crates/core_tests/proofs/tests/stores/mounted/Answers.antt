use Rattle.std.proofs.Common.{ℕ, sym, subst}
use Rattle.sector_disk.specs.Memory.{state_of}
use Rattle.job_journal.specs.Journal.{IsSound}
use Rattle.core_tests.proofs.tests.stores.mounted.Goals as goal

pub returns-in-Ok : goal.returns-in-Ok
returns-in-Ok c =
    subst (λ (n : ℕ). IsSound n (state_of c.in-Ok.store.disk)) (sym c.in-Ok.ensures.whole.1) (c.in-Ok.ensures.sound c.requires)
