use Rattle.std.proofs.Common.{refl}
use Rattle.job_journal.proofs.PublicLaws.{quiet_contents}
use Rattle.safe_cell.specs.declared.fault.CellFault.{CellFault}
use Rattle.store_console.proofs.Finding.{no_cell}
use Rattle.store_console.proofs.looking.area.Goals as goal

pub returns-in-Ok-clause-kept : goal.returns-in-Ok-clause-kept
returns-in-Ok-clause-kept c = quiet_contents (c.mount.ensures.only_reads.run refl)

pub returns-in-Err-NotFormatted-clause-found : goal.returns-in-Err-NotFormatted-clause-found
returns-in-Err-NotFormatted-clause-found c = no_cell c.args.disk.now.contents 4 c.in-Err-NotFormatted.field-0 CellFault.NotFormatted
    c.in-Err-NotFormatted.field-0-is (λ device. cc) (c.in-Err-NotFormatted.ensures.answers_for refl)

pub returns-in-Err-NotFormatted-clause-kept : goal.returns-in-Err-NotFormatted-clause-kept
returns-in-Err-NotFormatted-clause-kept c = quiet_contents (c.mount.ensures.only_reads.run refl)

pub returns-in-Err-Damaged-clause-found : goal.returns-in-Err-Damaged-clause-found
returns-in-Err-Damaged-clause-found c = no_cell c.args.disk.now.contents 4 c.in-Err-Damaged.field-0
    (CellFault.Damaged c.in-Err-Damaged.field-0-0) c.in-Err-Damaged.field-0-is (λ device. cc) (c.in-Err-Damaged.ensures.answers_for refl)

pub returns-in-Err-Damaged-clause-kept : goal.returns-in-Err-Damaged-clause-kept
returns-in-Err-Damaged-clause-kept c = quiet_contents (c.mount.ensures.only_reads.run refl)

pub returns-in-Err : goal.returns-in-Err
returns-in-Err c = record { found = tt; kept = quiet_contents (c.mount.ensures.only_reads.run refl) }
