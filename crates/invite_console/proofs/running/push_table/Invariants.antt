use Rattle.std.proofs.Common.{ℕ, List, drop}
use Rattle.runs.specs.World.{World}
use Rattle.cluster_sim.specs.World.{StandsFor}
use Rattle.invite_console.specs.Sim.{AddsRows}
use Rattle.invite_console.proofs.running.push_table.Given as goal

abbrev pub invariant-loop-number : goal.invariant-loop-number
invariant-loop-number l = (w : World) → StandsFor l.world w → (end : List ℕ) → AddsRows l.number (drop l.number w.states) l.text.items end
    → AddsRows 0 w.states l.fn.text.items end
