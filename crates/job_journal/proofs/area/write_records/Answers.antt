use Rattle.job_journal.proofs.Common.{refl, writes_on}
use Rattle.job_journal.proofs.area.write_records.Goals as goal

pub returns-clause-writes : goal.returns-clause-writes
returns-clause-writes g c = writes_on _ (λ k is. is) (λ k is. is) refl c.in_ok-fill_area.ensures.writes c.seal_area.ensures.writes
