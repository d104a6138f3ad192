use Rattle.runs.proofs.Headlines.{every_schedule}
use Rattle.runs.proofs.laws.every_schedule.Goals as goal

pub returns : goal.returns
returns c = every_schedule
