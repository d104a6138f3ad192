use Rattle.job_journal.proofs.Commands.{keep_test}
use Rattle.job_journal.proofs.reading.is_next.Goals as goal

pub returns-clause-value : goal.returns-clause-value
returns-clause-value c = keep_test c.args.table.now c.args.id c.can_keep.result c.requires c.can_keep.ensures
