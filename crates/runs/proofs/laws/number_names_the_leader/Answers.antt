use Rattle.runs.proofs.Fences.{leader_is_creator}
use Rattle.runs.proofs.Leading.{leader_counts_rise}
use Rattle.runs.proofs.laws.number_names_the_leader.Goals as goal

pub returns : goal.returns
returns c = record { leader = leader_is_creator; rises = leader_counts_rise }
