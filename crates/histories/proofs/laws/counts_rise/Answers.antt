use Rattle.histories.proofs.Counts.{each_bundle_rises}
use Rattle.histories.proofs.laws.counts_rise.Goals as goal

pub returns : goal.returns
returns c = each_bundle_rises
