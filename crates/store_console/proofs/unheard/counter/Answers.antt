use Rattle.store_console.proofs.ReadOn.{read_by}
use Rattle.store_console.proofs.unheard.counter.Goals as goal

pub returns-in-Ok-clause-read : goal.returns-in-Ok-clause-read
returns-in-Ok-clause-read g c = read_by c.mount.ensures.only_reads.counts c.mount.ensures.only_reads.run

pub returns-in-Err-NotFormatted-clause-read : goal.returns-in-Err-NotFormatted-clause-read
returns-in-Err-NotFormatted-clause-read g c = read_by c.mount.ensures.only_reads.counts c.mount.ensures.only_reads.run

pub returns-in-Err-Damaged-clause-read : goal.returns-in-Err-Damaged-clause-read
returns-in-Err-Damaged-clause-read g c = read_by c.mount.ensures.only_reads.counts c.mount.ensures.only_reads.run

pub returns-in-Err : goal.returns-in-Err
returns-in-Err g c = record { found = λ h. tt; read = read_by c.mount.ensures.only_reads.counts c.mount.ensures.only_reads.run }
