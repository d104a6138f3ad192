use Rattle.node_lock.specs.History.{entries_of}
use Rattle.node_threads.proofs.Failing.{none_failed, none_area_exhausted}
use Rattle.node_threads.proofs.laws.faults_have_failures.Goals as goal

pub returns-clause-failures : goal.returns-clause-failures
returns-clause-failures c = λ size plans histories links whole n h at none e is.
    none_failed (entries_of h.turns) 0 h.failures none (whole.failures n h at) e is

pub returns-clause-never_area_exhausted : goal.returns-clause-never_area_exhausted
returns-clause-never_area_exhausted c = λ size plans histories links whole n h at e is. none_area_exhausted (entries_of h.turns)
    (whole.never_area_exhausted n h at) e is
