use Rattle.lease_network.proofs.Runs.{steps_are_runs}
use Rattle.lease_network.proofs.steps_are_runs.Goals as goal

pub returns : goal.returns
returns c = steps_are_runs c.history_goes_on.ensures
