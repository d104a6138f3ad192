use Rattle.job_journal.proofs.Common.{jobs_of, IsWritten, records_for}
use Rattle.job_journal.proofs.Changes.{Writing}
use Rattle.job_journal.proofs.area.fill_area.Given as goal

abbrev pub invariant-loop-filled : goal.invariant-loop-filled
invariant-loop-filled g l =
    Writing l.fn.area.first l.fn.area.slots (λ k c. IsWritten l.fn.area.first l.fn.area.slots (records_for (jobs_of l.fn.table)) k 0 c)
    (g.D.SectorDisk.state l.fn.disk) (g.D.SectorDisk.state l.disk) l.filled
