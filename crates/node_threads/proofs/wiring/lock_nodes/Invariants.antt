use Rattle.std.proofs.Common.{◌≡◌, vec_len}
use Rattle.node_threads.proofs.wiring.lock_nodes.Given as goal

-- a lock for each that was taken out
abbrev pub invariant-loop-node : goal.invariant-loop-node
invariant-loop-node l = vec_len l.locks ≡ l._node
