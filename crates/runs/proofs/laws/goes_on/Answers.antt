use Rattle.runs.proofs.Growing.{run_goes_on}
use Rattle.runs.proofs.laws.goes_on.Goals as goal

pub returns : goal.returns
returns c = run_goes_on
