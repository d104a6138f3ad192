use Rattle.std.proofs.Common.{◌≡◌, ℕ, [], length, take}
use Rattle.cluster_sim.specs.Traced.{HasWorld, IsSoFar}
use Rattle.cluster_sim.proofs.tracing.trace_acts.Given as goal

abbrev pub invariant-loop-act : goal.invariant-loop-act
invariant-loop-act l = record {
  world : HasWorld l.world;
  many : length l.histories.items ≡ length l.world.nodes;
  kept : length l.histories.items ≡ length l.fn.histories.items;
  traced : (nodes slots : ℕ) → IsSoFar nodes slots l.fn.world [] l.fn.histories.items l.fn.order
      → IsSoFar nodes slots l.world (take l.act-index l.acts) l.histories.items l.order;
}
