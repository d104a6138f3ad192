-- What an act brings to a node, and what may come of it.
use Rattle.std.specs.Prelude.{ℕ, ◌≡◌, nat_lt, if◌then◌else◌, Option, Some, None, option_and_then, Result, Ok, Err}
use Rattle.wire_msg.specs.Envelope.{Envelope}
use Rattle.node_core.specs.declared.event.Event.TheVariants as on
use Rattle.histories.specs.NodeState.{NodeState}
use Rattle.histories.specs.declared.history_event.HistoryEvent.{HistoryEvent}
use Rattle.histories.specs.declared.history_event.HistoryEvent.TheVariants.{NoOp, Crashed}
use Rattle.histories.specs.declared.history_event.NoOpKind.TheVariants.{Nothing}
use Rattle.schedule.specs.declared.act.Act.{Act}
use Rattle.schedule.specs.declared.act.Act.TheVariants as act
use Rattle.sim_net.specs.declared.fault.NetFault.{NetFault}
use Rattle.sim_net.specs.Network.{Network, delivery}
use Rattle.histories.specs.HistoryEvent.{IsOf}
use Rattle.runs.specs.Acts.{IsCompaction}
use Rattle.cluster_sim.specs.declared.bringing.Brought.{Brought}
use Rattle.cluster_sim.specs.declared.bringing.Brought.TheVariants.{Event, Arming, Crash, Compaction}

-- a message that comes is an event of its receiver
abbrev pub delivered : Result Envelope NetFault → Option (ℕ × Brought)
delivered (Ok m) = Some (m.receiver, Event (on.Deliver m))
delivered (Err why) = None

-- the node that an act names, and what it brings there
abbrev pub named_by : Network → Act → Option (ℕ × Brought)
named_by net (act.Timer n timer) = Some (n, Event (on.Timer timer))
named_by net (act.Deliver k) = delivered (delivery net k)
named_by net (act.Lose k) = None
named_by net (act.Cut a b) = None
named_by net (act.Mend a b) = None
named_by net (act.Submit n work) = Some (n, Event (on.Submit work))
named_by net (act.Finish n origin id) = Some (n, Event (on.Finish origin id))
named_by net (act.Arm n calls) = Some (n, Arming)
named_by net (act.Crash n fill) = Some (n, Crash)
named_by net (act.Recover n) = Some (n, Event on.Recover)
named_by net (act.Compact n) = Some (n, Compaction)

-- and so in a cluster of so many nodes: nothing comes to a node outside it
abbrev pub brought_by : ℕ → Network → Act → Option (ℕ × Brought)
brought_by nodes net a = option_and_then (λ (comes : ℕ × Brought). if nat_lt comes.0 nodes then Some comes else None) (named_by net a)

-- it came of what was brought to a node in this state
abbrev pub CameOf : NodeState → Brought → HistoryEvent → Type 0
CameOf s (Event event) what = IsOf event what
CameOf s Arming what = what ≡ NoOp Nothing
CameOf s Crash what = what ≡ Crashed
CameOf s Compaction what = IsCompaction s what

-- the number of the message that an act delivers; of another act it says nothing
abbrev pub number_of : Act → ℕ
number_of (act.Timer n timer) = 0
number_of (act.Deliver k) = k
number_of (act.Lose k) = 0
number_of (act.Cut a b) = 0
number_of (act.Mend a b) = 0
number_of (act.Submit n work) = 0
number_of (act.Finish n origin id) = 0
number_of (act.Arm n calls) = 0
number_of (act.Crash n fill) = 0
number_of (act.Recover n) = 0
number_of (act.Compact n) = 0
