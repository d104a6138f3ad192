use Rattle.std.proofs.Common.{ℕ, ap, ◌∙◌}
use Rattle.histories.specs.NodeState.{opening}
use Rattle.trace_check.specs.Twins.{Twin}
use Rattle.trace_console.proofs.NodeCursors.{opens}
use Rattle.trace_console.proofs.walk.open.Goals as goal

pub loop-number-preserved : goal.loop-number-preserved
loop-number-preserved c =
    let nodes = c.nodes-nodes.result in
    opens nodes c.loop-number.number c.loop-number.seats.items _ _ c.loop-number.invariant c.in_ok-push.ensures.items
    (ap (λ (t : Twin). record { node_model = t; index = 0 }) (c.in_ok-node_model.ensures
    ∙ ap (λ (k : ℕ). record { id = k; nodes = nodes; node = opening k }) c.numbered.ensures))
