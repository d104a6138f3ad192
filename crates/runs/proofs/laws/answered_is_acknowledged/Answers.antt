use Rattle.runs.proofs.Answered.{answered_is_acknowledged}
use Rattle.runs.proofs.laws.answered_is_acknowledged.Goals as goal

pub returns : goal.returns
returns c = answered_is_acknowledged
