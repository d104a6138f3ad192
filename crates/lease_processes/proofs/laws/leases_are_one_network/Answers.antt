use Rattle.lease_processes.proofs.Words.{last_word}
use Rattle.lease_processes.proofs.Printed.{epochs_follow, epochs_rise, held_lines, network, one_at_a_time, one_epoch}
use Rattle.lease_processes.proofs.laws.leases_are_one_network.Goals as goal

pub returns : goal.returns
returns c = record {
  network = network;
  lease = held_lines;
  one = one_epoch c.held_may_rely.ensures.one;
  rise = epochs_rise c.held_may_rely.ensures.rise;
  holder = one_at_a_time c.held_may_rely.ensures.relies;
  follow = epochs_follow c.held_may_rely.ensures.follow;
  word = last_word c.held_may_rely.ensures.silent;
}
