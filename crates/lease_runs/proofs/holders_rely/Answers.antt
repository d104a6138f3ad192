use Rattle.lease_runs.proofs.Holding.{held_epochs_rise, holder_relies, kept_was_granted, one_holds}
use Rattle.lease_runs.proofs.holders_rely.Goals as goal

pub returns : goal.returns
returns c = record { relies = holder_relies; granted = kept_was_granted; one = one_holds; rise = held_epochs_rise }
