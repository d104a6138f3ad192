use Rattle.histories.proofs.Counts.{few_counts}
use Rattle.histories.proofs.laws.few_counts.Goals as goal

pub returns : goal.returns
returns c = few_counts
