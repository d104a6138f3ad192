use Rattle.std.proofs.Common.{◌≡◌, ◌∙◌, ap, rules}
use Rattle.job_model.specs.Records.{number_of, number_bytes}
use Rattle.job_model.proofs.RecordBytes.{number_of-number_bytes}
use Rattle.job_model.proofs.record.number_sector.Goals as goal

pub returns-clause-number : goal.returns-clause-number
returns-clause-number c =
    let bytes : c.place.new.sector ≡ number_bytes c.args.kind c.args.number = search rules in
    ap number_of bytes ∙ number_of-number_bytes c.args.kind c.args.number c.ranges.number.fits
