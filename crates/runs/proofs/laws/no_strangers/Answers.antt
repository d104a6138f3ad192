use Rattle.runs.proofs.Strangers.{no_strangers}
use Rattle.runs.proofs.laws.no_strangers.Goals as goal

pub returns : goal.returns
returns c = no_strangers
