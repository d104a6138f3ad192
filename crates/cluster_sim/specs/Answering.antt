-- What an act that is an event at a node is answered.
use Rattle.std.specs.Prelude.{ℕ, ◌≡◌, List, slice_get, Option, Some, option_map, Result}
use Rattle.std.specs.Option.{option_or}
use Rattle.std.specs.Result.{result_ok}
use Rattle.job_model.specs.Durable.{Durable}
use Rattle.wire_msg.specs.Envelope.{Envelope}
use Rattle.sector_disk.specs.Memory.{Memory}
use Rattle.sim_net.specs.declared.fault.NetFault.{NetFault}
use Rattle.sim_net.specs.Network.{Network, delivery}
use Rattle.node_core.specs.declared.event.Event.{Event}
use Rattle.node_core.specs.declared.event.Event.TheVariants as on
use Rattle.node_core.specs.declared.fault.CoreFault.{CoreFault}
use Rattle.node_core.specs.declared.fault.Refusal.{Refusal}
use Rattle.node_core.specs.declared.fault.Refusal.TheVariants.{Core}
use Rattle.node_core.specs.Refusals.{refusal_of}
use Rattle.node_core.specs.Wants.{wants_of}
use Rattle.durable_node.specs.Node.{Area, Node}
use Rattle.durable_node.specs.Refusing.{disk_refusal}
use Rattle.schedule.specs.declared.act.Act.{Act}
use Rattle.schedule.specs.declared.act.Act.TheVariants as act
use Rattle.runs.specs.declared.outcome.Outcome.{Outcome}
use Rattle.runs.specs.Events.{event_at}
use Rattle.cluster_sim.specs.Operated.{IsRefusedAs}
use Rattle.cluster_sim.specs.World.{WorldView}

-- the vector's reason comes before the disk's
abbrev pub first_of : Option CoreFault → Option Refusal → Option Refusal
first_of core why = option_or (option_map Core core) why

-- a node that is up refuses the event just for these reasons: those of its vector, and then those of its disk
abbrev pub IsAnswered : Node Memory → Event → Outcome → Type 0
IsAnswered was event o = (d : Durable) (area : Area) → was.kept ≡ Some d → was.area ≡ Some area →
    IsRefusedAs (option_or (option_map Core (refusal_of was.nodes was.id event was.state))
    (disk_refusal d area (wants_of was.id d.pending event was.state))) o

-- the same of the node of this id
abbrev pub IsAnsweredAt : List (Node Memory) → ℕ → Event → Outcome → Type 0
IsAnsweredAt nodes n event o = (was : Node Memory) → slice_get nodes n ≡ Some was → IsAnswered was event o

-- what is delivered is an event of its receiver
abbrev pub delivered : Result Envelope NetFault → Option (ℕ × Event)
delivered given = option_map (λ (m : Envelope). (m.receiver, on.Deliver m)) (result_ok given)

-- the event that an act is, with its node
abbrev pub event_by : Network → Act → Option (ℕ × Event)
event_by net (act.Deliver k) = option_map (λ (m : Envelope). (m.receiver, on.Deliver m)) (result_ok (delivery net k))
event_by net a = event_at a

-- an act that is an event is refused by its node just where the event is
abbrev pub IsAnsweredBy : Act → WorldView → Outcome → Type 0
IsAnsweredBy a view o = (n : ℕ) (event : Event) → event_by view.net a ≡ Some (n, event) →
    (was : Node Memory) → slice_get view.nodes n ≡ Some was → IsAnswered was event o
