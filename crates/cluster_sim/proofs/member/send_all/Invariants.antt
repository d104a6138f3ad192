use Rattle.std.proofs.Common.{◌≡◌, ◌+◌, ◌≤◌, length, drop}
use Rattle.sim_net.specs.Network.{after_all_sent}
use Rattle.cluster_sim.proofs.member.send_all.Given as goal

abbrev pub invariant-loop-message : goal.invariant-loop-message
invariant-loop-message l = record {
  sent : after_all_sent l.net.network (drop l.message-index l.messages) ≡ after_all_sent l.fn.net.network l.messages;
  room : length l.messages ≤ l.net.room + l.message-index;
}
