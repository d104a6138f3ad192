use Rattle.std.proofs.Common.{inr}
use Rattle.safe_cell.proofs.PublicLaws.{value_stands_for}
use Rattle.lease_file.proofs.Mountings.{cell_damaged, cell_unformatted}
use Rattle.lease_file.proofs.mounting.read_cell.Goals as goal

pub returns-in-Ok-clause-stand : goal.returns-in-Ok-clause-stand
returns-in-Ok-clause-stand g c = λ honest synced.
    c.in-Ok.ensures.stands honest (λ k inside. synced k)

pub returns-in-Ok-clause-reads : goal.returns-in-Ok-clause-reads
returns-in-Ok-clause-reads g c = λ honest.
    value_stands_for c.args.at c.in-Ok.cell (g.D.SectorDisk.state c.args.disk.now).contents c.in-Ok.ensures.place.0
    (c.in-Ok.ensures.mounted honest)

pub returns-in-Err-Damaged-clause-refusal : goal.returns-in-Err-Damaged-clause-refusal
returns-in-Err-Damaged-clause-refusal g c = λ honest.
    inr (cell_damaged c.args.at (g.D.SectorDisk.state c.args.disk.now).contents c.in-Err-Damaged.field-0 c.in-Err-Damaged.sector
    c.in-Err-Damaged.field-0-is c.in-Err-Damaged.ensures.no_other (c.in-Err-Damaged.ensures.answers_for honest))

pub returns-in-Err-NotFormatted-clause-refusal : goal.returns-in-Err-NotFormatted-clause-refusal
returns-in-Err-NotFormatted-clause-refusal g c = λ honest.
    inr (cell_unformatted c.args.at (g.D.SectorDisk.state c.args.disk.now).contents c.in-Err-NotFormatted.field-0
    c.in-Err-NotFormatted.field-0-is (c.in-Err-NotFormatted.ensures.answers_for honest))
