use Rattle.lease_runs.proofs.Voting.{none_voted}
use Rattle.lease_runs.proofs.acting.no_votes.Goals as goal

pub returns : goal.returns
returns c = λ voter. none_voted 128 voter
