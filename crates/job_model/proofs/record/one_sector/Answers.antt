use Rattle.job_model.proofs.RecordSectors.{sector_is, never_old}
use Rattle.job_model.proofs.record.one_sector.Goals as goal

pub returns-clause-one : goal.returns-clause-one
returns-clause-one c = sector_is

pub returns-clause-not_written : goal.returns-clause-not_written
returns-clause-not_written c = never_old
