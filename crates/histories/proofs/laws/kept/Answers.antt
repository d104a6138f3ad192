use Rattle.histories.proofs.Kepts.{each_kept, step_by_step, counts_once}
use Rattle.histories.proofs.laws.kept.Goals as goal

pub returns : goal.returns
returns c = record { histories = each_kept; step_by_step = step_by_step; once = counts_once }
