-- Which groups messages and states name.
use Rattle.std.specs.Prelude.{◌≢◌, List, IfSome}
use Rattle.group_task.specs.Group.{Group}
use Rattle.wire_msg.specs.Envelope.{Envelope}
use Rattle.node_core.specs.declared.phase.Phase.TheVariants.{Down}
use Rattle.node_core.specs.State.{State}
use Rattle.wire_msg.specs.Kinds.{group_in}
use Rattle.histories.specs.Lists.{Each}

-- P holds of each group that messages name
abbrev pub AllHold : (Group → Type 0) → List Envelope → Type 0
AllHold P ms = Each (λ (m : Envelope). IfSome (group_in m.body) P) ms

-- P holds of each group that a vector names: a node that is down is in none
abbrev pub StateHolds : (Group → Type 0) → State → Type 0
StateHolds P v = v.phase ≢ Down → P v.group × IfSome v.task (λ t. P t.group)
