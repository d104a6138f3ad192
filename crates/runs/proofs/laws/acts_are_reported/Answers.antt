use Rattle.runs.proofs.Reported.{acts_are_reported}
use Rattle.runs.proofs.laws.acts_are_reported.Goals as goal

pub returns : goal.returns
returns c = acts_are_reported
