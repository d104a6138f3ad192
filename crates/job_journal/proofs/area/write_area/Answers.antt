use Rattle.job_journal.proofs.Common.{refl, writes_on}
use Rattle.job_journal.proofs.area.write_area.Goals as goal

pub returns-clause-writes : goal.returns-clause-writes
returns-clause-writes g c = writes_on _ (λ k is. is) (λ k is. is) refl c.in_ok-erase.ensures.writes c.write_records.ensures.writes
