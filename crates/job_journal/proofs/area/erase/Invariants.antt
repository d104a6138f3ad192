use Rattle.job_journal.proofs.Common.{Erased}
use Rattle.job_journal.proofs.area.erase.Given as goal

abbrev pub invariant-loop-erased : goal.invariant-loop-erased
invariant-loop-erased g l = Erased l.fn.area.first l.fn.area.slots (g.D.SectorDisk.state l.fn.disk) (g.D.SectorDisk.state l.disk) l.erased
