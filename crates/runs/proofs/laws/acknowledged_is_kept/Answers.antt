use Rattle.runs.proofs.Acknowledged.{raises_are_kept, jobs_are_kept, doubts_apart}
use Rattle.runs.proofs.Dones.{dones_are_kept}
use Rattle.runs.proofs.laws.acknowledged_is_kept.Goals as goal

pub returns : goal.returns
returns c = record { raises = raises_are_kept; jobs = jobs_are_kept; dones = dones_are_kept; doubts = doubts_apart }
