-- What an act is, is exact.
use Rattle.std.specs.Prelude.{ℕ, ◌≡◌, ◌<◌, List, slice_get, Some, Ok}
use Rattle.wire_msg.specs.Envelope.{Envelope}
use Rattle.node_core.specs.declared.event.Event.{Event}
use Rattle.node_core.specs.NodeStep.{IsFull, IsRefused}
use Rattle.node_core.specs.declared.fault.Refusal.{Refusal}
use Rattle.node_core.specs.declared.fault.Refusal.TheVariants.{AreaExhausted}
use Rattle.histories.specs.NodeState.{NodeState, wants_at}
use Rattle.histories.specs.Possible.{Takes, FitsSlots}
use Rattle.histories.specs.History.{FollowsSlots}
use Rattle.schedule.specs.declared.act.Act.{Act}
use Rattle.schedule.specs.declared.act.Act.TheVariants as act
use Rattle.sim_net.specs.Network.{delivery}
use Rattle.runs.specs.World.{World}
use Rattle.runs.specs.declared.outcome.ActRefusal.{ActRefusal}
use Rattle.runs.specs.Step.{Step, Denies}
use Rattle.runs.specs.Run.{RunFrom, history_in}
use Rattle.runs.specs.Acts.{IsStepOf, IsRunOf}

-- the network doesn't deny a message that comes
abbrev pub NoIdleDenial : Type 0
NoIdleDenial = (nodes : ℕ) (w : World) (k : ℕ) (m : Envelope) (n : ℕ) (why : ActRefusal) → delivery w.net k ≡ Ok m → m.receiver < nodes
    → IsStepOf nodes w (act.Deliver k) (Denies n why) → ⊥

-- an event that a node may handle can be refused only where no area of its disk is left, which the layout alone decides
abbrev pub OneOutcome : Type 0
OneOutcome = (slots self nodes : ℕ) (s : NodeState) (event : Event) (fault : Refusal) →
    Takes self nodes s event → (IsFull slots s.durable (wants_at self nodes s event) → ⊥) →
    IsRefused nodes self s.state s.durable event fault → FitsSlots slots s.durable (wants_at self nodes s event) fault →
    fault ≡ AreaExhausted

-- a run of acts is a run, so all laws of runs hold of it
abbrev pub ActsRun : Type 0
ActsRun = (nodes slots : ℕ) (w : World) (acts : List Act) (steps : List Step) → IsRunOf nodes slots w acts steps → RunFrom nodes w steps

-- the history that a run of acts gives a node is one of a disk of so many slots
abbrev pub RunsOfSlots : Type 0
RunsOfSlots = (nodes slots : ℕ) (w : World) (acts : List Act) (steps : List Step) → IsRunOf nodes slots w acts steps →
    (n : ℕ) (s : NodeState) → slice_get w.states n ≡ Some s → FollowsSlots slots n nodes s (history_in n nodes w steps)
