use Rattle.std.proofs.Common.{refl}
use Rattle.job_journal.proofs.PublicLaws.{quiet_contents}
use Rattle.store_console.proofs.looking.seen.Goals as goal

pub returns-in-Ok-clause-kept : goal.returns-in-Ok-clause-kept
returns-in-Ok-clause-kept c = quiet_contents (c.look.ensures.run refl)

pub returns-in-Err-clause-kept : goal.returns-in-Err-clause-kept
returns-in-Err-clause-kept c = quiet_contents (c.look.ensures.run refl)
