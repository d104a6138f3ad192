use Rattle.std.proofs.Common.{◌≡◌, ◌++◌, ℕ, length}
use Rattle.cluster_sim.specs.Cluster.{Reports, HasRun}
use Rattle.runs.specs.Growth.{acts_in}
use Rattle.runs.specs.World.{World}
use Rattle.cluster_sim.proofs.cluster.Cluster.step_all.Given as goal

abbrev pub invariant-loop-act : goal.invariant-loop-act
invariant-loop-act l = record {
  slots : l.self.world.slots ≡ l.fn.self.world.slots;
  rest : l.yielded ++ l.act-iterator.rest.items ≡ l.fn.acts.items;
  run : (nodes : ℕ) (w : World) → length w.states ≡ nodes → Reports l.fn.self w
      → HasRun nodes (acts_in l.fn.self.report ++ l.yielded) l.self;
}
