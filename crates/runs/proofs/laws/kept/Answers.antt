use Rattle.runs.proofs.Tagged.{runs_are_kept}
use Rattle.runs.proofs.laws.kept.Goals as goal

pub returns : goal.returns
returns c = runs_are_kept
