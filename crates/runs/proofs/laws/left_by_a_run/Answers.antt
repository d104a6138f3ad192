use Rattle.runs.proofs.Grown.{runs_open, runs_grow, left_keeps}
use Rattle.runs.proofs.laws.left_by_a_run.Goals as goal

pub returns : goal.returns
returns c = record { opens = runs_open; grows = runs_grow; keeps = left_keeps }
