use Rattle.std.proofs.Common.{refl}
use Rattle.job_journal.proofs.PublicLaws.{quiet_contents}
use Rattle.store_console.proofs.Finding.{jobs_found, journal_damage}
use Rattle.store_console.proofs.looking.journal.Goals as goal

pub returns-in-Ok-clause-found : goal.returns-in-Ok-clause-found
returns-in-Ok-clause-found c = jobs_found c.args.slots c.args.disk.now.contents c.in-Ok.journal
    (c.in-Ok.ensures.answers_for refl (λ device. cc) (λ memory. cc))

pub returns-in-Ok-clause-kept : goal.returns-in-Ok-clause-kept
returns-in-Ok-clause-kept c = quiet_contents (c.mount.ensures.only_reads.run refl)

pub returns-in-Err-Damaged-clause-found : goal.returns-in-Err-Damaged-clause-found
returns-in-Err-Damaged-clause-found c =
    journal_damage c.args.slots c.args.disk.now.contents c.in-Err-Damaged.field-0 c.in-Err-Damaged.sector c.in-Err-Damaged.field-0-is
    (c.in-Err-Damaged.ensures.answers_for refl)

pub returns-in-Err-Damaged-clause-kept : goal.returns-in-Err-Damaged-clause-kept
returns-in-Err-Damaged-clause-kept c = quiet_contents (c.mount.ensures.only_reads.run refl)

pub returns-in-Err : goal.returns-in-Err
returns-in-Err c = record { found = tt; kept = quiet_contents (c.mount.ensures.only_reads.run refl) }
