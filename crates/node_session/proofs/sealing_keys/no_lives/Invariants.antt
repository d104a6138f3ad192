use Rattle.std.proofs.Common.{◌≡◌, None, replicate}
use Rattle.node_session.proofs.sealing_keys.no_lives.Given as goal

abbrev pub invariant-loop-node : goal.invariant-loop-node
invariant-loop-node l = l.lives.items ≡ replicate l._node None
