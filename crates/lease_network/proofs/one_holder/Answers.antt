use Rattle.lease_network.proofs.Held.{epochs_follow, one_holder}
use Rattle.lease_network.proofs.one_holder.Goals as goal

pub returns : goal.returns
returns c = record {
  holder = one_holder c.steps_are_runs.ensures c.holders_rely.ensures.one;
  follow = epochs_follow c.steps_are_runs.ensures c.holders_rely.ensures.relies c.one_holder.ensures.follow;
}
