use Rattle.std.proofs.Common.{◌≡◌, ◌≤◌, ℕ, length, slice_index_or, vec_len}
use Rattle.node_threads.specs.Nodes.{NodeEnds}
use Rattle.node_threads.specs.Wired.{HaveCounter}
use Rattle.node_threads.proofs.wiring.hold_nodes.Given as goal

-- the ends of the nodes that come are as they were, and those that are held have one counter
abbrev pub invariant-loop-node : goal.invariant-loop-node
invariant-loop-node l =
    (vec_len l.nodes ≡ l.node)
    × (length l.ends.items ≡ length l.fn.ends.items)
    × ((n : ℕ) (d : NodeEnds) → l.node ≤ n → slice_index_or l.ends.items n d ≡ slice_index_or l.fn.ends.items n d)
    × HaveCounter l.numbers.counter l.nodes.items
