use Rattle.job_journal.proofs.Common.{◌+◌, length, jobs_of, IsWritten, records_for}
use Rattle.job_journal.proofs.Changes.{Writing}
use Rattle.job_journal.proofs.area.seal_first.Given as goal

abbrev pub invariant-loop-sealed : goal.invariant-loop-sealed
invariant-loop-sealed g l =
    Writing l.fn.area.first l.fn.area.slots (IsWritten l.fn.area.first l.fn.area.slots (records_for (jobs_of l.fn.table))
    (length l.fn.table.pending + 1))
    (g.D.SectorDisk.state l.fn.disk) (g.D.SectorDisk.state l.disk) l.sealed
