-- What contracts see of the world of a cluster, and what it stands for.
use Rattle.std.specs.Prelude.{ℕ, ◌≡◌, ◌≢◌, ◌+◌, ◌*◌, ◌≤◌, ◌⊎◌, ◌<◌, ◌^◌, Bool, true, false, if◌then◌else◌, List, length, slice_get, Option}
use Rattle.std.specs.Prelude.{Some, None, option_map, option_and_then}
use Rattle.group_task.specs.declared.node.TheConstants.{NODES}
use Rattle.group_task.specs.Ids.{with_id, without_id}
use Rattle.sector_disk.specs.Disk.{Counts}
use Rattle.sector_disk.specs.Memory.{Memory, state_of}
use Rattle.job_journal.specs.Journal.{AllWithin}
use Rattle.node_core.specs.declared.fault.Refusal.TheVariants.{AreaExhausted}
use Rattle.sim_net.specs.Network.{Network, after_all_sent, with_pair}
use Rattle.durable_node.specs.Forgetting.{forgotten_disk}
use Rattle.durable_node.specs.Node.{Node, Stands}
use Rattle.histories.specs.NodeState.{NodeState, opening}
use Rattle.histories.specs.declared.history_event.HistoryEvent.{HistoryEvent}
use Rattle.histories.specs.declared.history_event.HistoryEvent.TheVariants.{Did, Refused, Faulted, NoOp, Crashed, Recovered, MountFailed}
use Rattle.histories.specs.declared.history_event.HistoryEvent.TheVariants.{RaiseFailed, RaiseRefused}
use Rattle.histories.specs.After.{after, sent_at, mounted_at}
use Rattle.histories.specs.Possible.{IsPossible, IsOfSlots}
use Rattle.schedule.specs.declared.act.Act.{Act}
use Rattle.schedule.specs.declared.act.Act.TheVariants as act
use Rattle.cluster_sim.specs.declared.act_report.ActReport.{ActReport}
use Rattle.durable_node.specs.Stepping.{answer_at, command_at}
use Rattle.histories.specs.EventOutcomes.{attempt_of}
use Rattle.histories.specs.declared.event_outcome.EventOutcome.{EventOutcome}
use Rattle.histories.specs.declared.event_outcome.EventOutcome.TheVariants as event_outcome
use Rattle.runs.specs.declared.outcome.Outcome.{Outcome}
use Rattle.runs.specs.declared.outcome.Outcome.TheVariants as outcome
use Rattle.runs.specs.declared.outcome.ActRefusal.TheVariants.{Node as OfNode}
use Rattle.runs.specs.World.{World}
use Rattle.runs.specs.Step.{Step, Takes, world_after}
use Rattle.runs.specs.Run.{IsAllowed}
use Rattle.runs.specs.Acts.{what_outcome, act_outcome}
use Rattle.runs.specs.Growth.{IsNext, StepOfSlots}

-- the slots of a disk's area, the nodes by their ids, and the network
pub record WorldView : Type 0 where
  pub slots : ℕ
  pub nodes : List (Node Memory)
  pub net : Network

-- a disk, where there is one, has two areas of so many slots
abbrev pub IsOfSize : ℕ → Option Memory → Type 0
IsOfSize slots disk = (d : Memory) → disk ≡ Some d → length d.contents ≡ 8 + 4 * slots

-- a node of this id, in a cluster of so many nodes over disks of so many slots
pub record IsMember (slots count id : ℕ) (node : Node Memory) : Type 0 where
  pub id_is : node.id ≡ id
  pub nodes_is : node.nodes ≡ count
  pub size : IsOfSize slots node.disk

-- what is true of every cluster
pub record IsWorld (slots : ℕ) (nodes : List (Node Memory)) : Type 0 where
  pub least_slots : 4 ≤ slots
  pub most_slots : slots ≤ 4096
  pub least : 1 ≤ length nodes
  pub most : length nodes ≤ NODES
  pub members : (k : ℕ) (node : Node Memory) → slice_get nodes k ≡ Some node → IsMember slots (length nodes) k node

-- each node of a cluster is in its state, and its disk too, and the network is as it is
pub record StandsFor (view : WorldView) (w : World) : Type 0 where
  pub count : length view.nodes ≡ length w.states
  pub net : view.net ≡ w.net
  pub each : (k : ℕ) (node : Node Memory) (s : NodeState) → slice_get view.nodes k ≡ Some node →
      slice_get w.states k ≡ Some s → Stands state_of node s

-- the area of a disk, if there is one, has at most this number, in each image that a crash now may leave
abbrev pub AreaWithin : ℕ → Option Memory → Type 0
AreaWithin bound disk = (d : Memory) → disk ≡ Some d → AllWithin bound (state_of d)

-- the areas of all disks have
abbrev pub AreasWithin : ℕ → List (Node Memory) → Type 0
AreasWithin bound nodes = (k : ℕ) (node : Node Memory) → slice_get nodes k ≡ Some node → AreaWithin bound node.disk

-- no disk is armed, and no call of one has failed
abbrev pub IsUnarmed : Option Memory → Type 0
IsUnarmed disk = (d : Memory) → disk ≡ Some d → (d.left ≡ None) × (d.failures ≡ 0)

abbrev pub AreUnarmed : List (Node Memory) → Type 0
AreUnarmed nodes = (k : ℕ) (node : Node Memory) → slice_get nodes k ≡ Some node → IsUnarmed node.disk

-- the first of so many nodes, each of which has just opened over a disk of so many slots
pub record AreOpened (slots count so_far : ℕ) (nodes : List (Node Memory)) : Type 0 where
  pub len : length nodes ≡ so_far
  pub member : (k : ℕ) (node : Node Memory) → slice_get nodes k ≡ Some node → IsMember slots count k node
  pub opens : (k : ℕ) (node : Node Memory) → slice_get nodes k ≡ Some node → Stands state_of node (opening k)
  pub areas : AreasWithin 2 nodes
  pub unarmed : AreUnarmed nodes

-- ---- one node

-- whether it mounted the disk
abbrev pub is_mounting : HistoryEvent → Bool
is_mounting (Did event) = false
is_mounting (Refused event fault) = false
is_mounting (Faulted event) = false
is_mounting (NoOp rest) = false
is_mounting Crashed = false
is_mounting (Recovered kept) = true
is_mounting MountFailed = false
is_mounting (RaiseFailed kept) = true
is_mounting (RaiseRefused kept) = true

-- what came of an event, without the event
abbrev pub fate_in : HistoryEvent → Option EventOutcome
fate_in (Did event) = Some event_outcome.Done
fate_in (Refused event why) = Some (event_outcome.Refused why)
fate_in (Faulted event) = Some event_outcome.Faulted
fate_in (NoOp rest) = None
fate_in Crashed = None
fate_in (Recovered kept) = Some (event_outcome.Recovered kept)
fate_in MountFailed = Some event_outcome.MountFailed
fate_in (RaiseFailed kept) = Some (event_outcome.RaiseFailed kept)
fate_in (RaiseRefused kept) = Some (event_outcome.RaiseRefused kept)

-- an act in which no event came to a node
abbrev pub bare : Outcome → ActReport
bare o = record { outcome = o; event_outcome = None; tried = None; acked = None; mounted = false }

-- the node says this of its disk
pub record ActionOf (id nodes : ℕ) (s : NodeState) (what : HistoryEvent) (action : ActReport) : Type 0 where
  pub event_outcome : action.event_outcome ≡ fate_in what
  pub tried : action.tried ≡ option_map attempt_of (command_at id nodes s what)
  pub acked : action.acked ≡ answer_at id nodes s what
  pub mounted : action.mounted ≡ is_mounting what

-- one such thing came of a call at a node that was in this state, and so it is reported of this act, sent and kept
pub record Comes (slots id nodes : ℕ) (a : Act) (P : HistoryEvent → Type 0) (s : NodeState) (action : ActReport) (new : Node Memory)
    (net net' : Network) : Type 0 where
  pub what : HistoryEvent
  pub is : P what
  pub possible : IsPossible id nodes s what
  pub of_slots : IsOfSlots slots id nodes s what
  pub outcome_is : action.outcome ≡ what_outcome id nodes (length net.sent) s what a
  pub reports : ActionOf id nodes s what action
  pub sent : net' ≡ after_all_sent net (sent_at id nodes s what)
  pub mounted : new.mounted ≡ mounted_at s what
  pub stands : Stands state_of new (after id nodes s what)

-- how many calls of its disk still pass, of those before: an act that ends so arms none, arms it with so many, or crashes it
abbrev pub as_before : Outcome → Option ℕ → Option ℕ
as_before o armed = armed

abbrev pub armed_with : ℕ → Outcome → Option ℕ → Option ℕ
armed_with calls (outcome.Done answer first many) armed = Some calls
armed_with calls o armed = armed

abbrev pub disarmed : Outcome → Option ℕ → Option ℕ
disarmed (outcome.Done answer first many) armed = None
disarmed o armed = armed

abbrev pub armed_by : Act → Outcome → Option ℕ → Option ℕ
armed_by (act.Arm n calls) = armed_with calls
armed_by (act.Crash n fill) = disarmed
armed_by a = as_before

-- An act that didn't fault left a disk's count of failures as it was; in one that faulted it rose, or stands at its greatest value. No more
-- calls of the disk pass than before, but where the act itself arms or crashes it; where none was to fail, none is.
abbrev pub IsCounted : (Outcome → Option ℕ → Option ℕ) → Option Memory → Option Memory → Outcome → Type 0
IsCounted arms old new o = (was now : Memory) → old ≡ Some was → new ≡ Some now →
    Counts (state_of (record was { left = arms o was.left })) (state_of now) (o ≡ outcome.Faulted) (o ≢ outcome.Faulted)

-- the node stays the one of its id, over a disk of its size
pub record IsSame (old new : Node Memory) : Type 0 where
  pub id : new.id ≡ old.id
  pub nodes : new.nodes ≡ old.nodes
  pub size : (slots : ℕ) → IsOfSize slots old.disk → IsOfSize slots new.disk

-- nothing has changed, but that the node may not show any more what it mounted last
abbrev pub IsUntouchedNode : Node Memory → Node Memory → Type 0
IsUntouchedNode old new = (new ≡ old) ⊎ (new ≡ record old { mounted = None })

-- the number of its disk's area rises by one at most, and where it can be raised no act is refused because the areas are used up
abbrev pub AreaRises : Option Memory → Option Memory → Outcome → Type 0
AreaRises old new o = (bound : ℕ) → AreaWithin bound old →
    AreaWithin (bound + 1) new × (bound + 1 < 2 ^ 64 → o ≢ outcome.Refused (OfNode AreaExhausted))

-- it is as it was, or its disk forgot the moments before
abbrev pub MayHaveForgotten : Node Memory → Node Memory → Type 0
MayHaveForgotten old new = (new ≡ old) ⊎ (new ≡ record old { disk = forgotten_disk old.disk })

-- ---- the cluster

-- two nodes are joined again, or cut from one another
abbrev pub link_act : Bool → ℕ → ℕ → Act
link_act joined a b = if joined then act.Mend a b else act.Cut a b

abbrev pub linked : Bool → Network → ℕ → ℕ → Network
linked joined net a b = record net { cuts = with_pair (if joined then without_id else with_id) net.cuts a b }

-- nothing has changed, but that this node may not show any more what it mounted last
pub record IsUntouched (at : ℕ) (old new : WorldView) : Type 0 where
  pub count : length new.nodes ≡ length old.nodes
  pub net : new.net ≡ old.net
  pub here : (was now : Node Memory) → slice_get old.nodes at ≡ Some was → slice_get new.nodes at ≡ Some now →
      (now ≡ was) ⊎ (now ≡ record was { mounted = None })
  pub elsewhere : (k : ℕ) → k ≢ at → slice_get new.nodes k ≡ slice_get old.nodes k

-- the numbers of the areas rise by one at most
abbrev pub AreasRise : WorldView → WorldView → Outcome → Type 0
AreasRise old new o = (bound : ℕ) → AreasWithin bound old.nodes →
    AreasWithin (bound + 1) new.nodes × (bound + 1 < 2 ^ 64 → o ≢ outcome.Refused (OfNode AreaExhausted))

-- the node of a step shows what it mounted in it, if it mounted anything
abbrev pub Shows : World → Step → WorldView → Type 0
Shows w (Takes n number what) view = (node : Node Memory) (s : NodeState) → slice_get view.nodes n ≡ Some node
    → slice_get w.states n ≡ Some s → node.mounted ≡ mounted_at s what
Shows w step view = Unit {0}

-- the act had one of its steps
pub record Acted (w : World) (act : Act) (outcome : Outcome) (new : WorldView) : Type 0 where
  pub step : Step
  pub next : IsNext (length w.states) new.slots w act step
  pub outcome_is : outcome ≡ act_outcome (length w.states) w act step
  pub shows : Shows w step new
  pub stands : StandsFor new (world_after (length w.states) w step)

-- what the node of a step says of its disk: where no node takes it, nothing
abbrev pub ReportsAction : World → Step → ActReport → Type 0
ReportsAction w (Takes n number what) action = (s : NodeState) → slice_get w.states n ≡ Some s → ActionOf n (length w.states) s what action
ReportsAction w step action = (action.tried ≡ None) × (action.mounted ≡ false) × (action.event_outcome ≡ None)

-- a step of this kind led from what the cluster stood for to what it stands for now, and so it is reported of this act
pub record Makes (a : Act) (Q : Step → Type 0) (w : World) (action : ActReport) (new : WorldView) : Type 0 where
  pub step : Step
  pub is : Q step
  pub allowed : IsAllowed (length w.states) w step
  pub of_slots : StepOfSlots new.slots (length w.states) w step
  pub outcome_is : action.outcome ≡ act_outcome (length w.states) w a step
  pub shows : Shows w step new
  pub reports : ReportsAction w step action
  pub stands : StandsFor new (world_after (length w.states) w step)

-- the act, and what its node says
pub record Performed (w : World) (act : Act) (action : ActReport) (new : WorldView) : Type 0 where
  pub acted : Acted w act action.outcome new
  pub reports : ReportsAction w acted.step action

-- the disk of a node, if there is such a node
abbrev pub disk_of : Option (Node Memory) → Option Memory
disk_of node = option_and_then (λ (n : Node Memory). n.disk) node

-- an act faulted exactly where the disk of its node failed in it, armed by nothing but the act, and no other node changed
pub record FaultsAt (arms : Outcome → Option ℕ → Option ℕ) (at : ℕ) (old new : WorldView) (o : Outcome) : Type 0 where
  pub here : IsCounted arms (disk_of (slice_get old.nodes at)) (disk_of (slice_get new.nodes at)) o
  pub elsewhere : (k : ℕ) → k ≢ at → slice_get new.nodes k ≡ slice_get old.nodes k
