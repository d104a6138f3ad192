use Rattle.std.proofs.Common.{sym, subst, refl}
use Rattle.sector_disk.specs.Memory.{state_of}
use Rattle.job_journal.specs.Journal.{IsSound}
use Rattle.node_store.specs.Store.{slots_for}
use Rattle.core_tests.proofs.tests.stores.formatted.Goals as goal

pub returns : goal.returns
returns c = subst (λ n. IsSound (slots_for n) (state_of c.format.new.disk)) (sym c.format.ensures.makes.counts.sectors)
    (c.in_ok-format.ensures.sound refl refl)
