use Rattle.lease_network.proofs.Relying.{held_epochs_follow, held_epochs_rise, held_one_epoch, holder_sent_none, one_relies}
use Rattle.lease_network.proofs.held_may_rely.Goals as goal

pub returns : goal.returns
returns c = record {
  rise = held_epochs_rise c.steps_are_runs.ensures c.holders_rely.ensures.granted c.epochs_rise.ensures.rise;
  one = held_one_epoch c.steps_are_runs.ensures c.holders_rely.ensures.granted c.epochs_rise.ensures.client;
  relies = one_relies c.steps_are_runs.ensures c.holders_rely.ensures.granted c.one_holder.ensures.holder;
  follow = held_epochs_follow c.steps_are_runs.ensures c.holders_rely.ensures.granted c.one_holder.ensures.follow;
  silent = holder_sent_none c.steps_are_runs.ensures c.holders_rely.ensures.relies;
}
