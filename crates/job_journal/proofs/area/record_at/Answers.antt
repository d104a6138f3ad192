use Rattle.job_journal.proofs.Common.{arith, jobs_of}
use Rattle.job_journal.proofs.Changes.{record_behind}
use Rattle.job_journal.proofs.area.record_at.Goals as goal

pub returns-else-slot-eq0 : goal.returns-else-slot-eq0
returns-else-slot-eq0 c =
    record_behind (jobs_of c.args.table.now) c.args.slot _ (λ is. omega (arith, is, c.if-slot-eq0.false))
    (cc (c.to_job.ensures, c.unwrap.ensures, c.get.ensures, c.pending.ensures.value))
