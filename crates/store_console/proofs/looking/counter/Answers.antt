use Rattle.std.proofs.Common.{refl}
use Rattle.job_journal.proofs.PublicLaws.{quiet_contents}
use Rattle.store_console.proofs.looking.counter.Goals as goal

pub returns-in-Ok-clause-kept : goal.returns-in-Ok-clause-kept
returns-in-Ok-clause-kept c = quiet_contents (c.mount.ensures.only_reads.run refl)

pub returns-in-Err-NotFormatted-clause-kept : goal.returns-in-Err-NotFormatted-clause-kept
returns-in-Err-NotFormatted-clause-kept c = quiet_contents (c.mount.ensures.only_reads.run refl)

pub returns-in-Err-Damaged-clause-kept : goal.returns-in-Err-Damaged-clause-kept
returns-in-Err-Damaged-clause-kept c = quiet_contents (c.mount.ensures.only_reads.run refl)

pub returns-in-Err : goal.returns-in-Err
returns-in-Err c = record { found = tt; kept = quiet_contents (c.mount.ensures.only_reads.run refl) }
