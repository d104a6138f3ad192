use Rattle.lease_network.proofs.Held.{epochs_rise, held_was_asked, one_epoch}
use Rattle.lease_network.proofs.epochs_rise.Goals as goal

pub returns : goal.returns
returns c = record {
  rise = epochs_rise c.steps_are_runs.ensures c.holders_rely.ensures.rise;
  one = one_epoch c.steps_are_runs.ensures c.holders_rely.ensures.relies c.epochs_rise.ensures.client;
  asked = held_was_asked c.steps_are_runs.ensures c.holders_rely.ensures.relies c.epochs_rise.ensures.asked;
}
