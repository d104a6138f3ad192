use Rattle.runs.proofs.NewIds.{ids_are_new}
use Rattle.runs.proofs.laws.ids_are_new.Goals as goal

pub returns : goal.returns
returns c = ids_are_new
