-- What a turn does at its node, and what is written down of it.
use Rattle.std.specs.Prelude.{ℕ, ◌≡◌, ◌≤◌, true, List, [], length, Some, None, IsSome, Ok}
use Rattle.wire_msg.specs.Envelope.{Envelope}
use Rattle.sector_disk.specs.Memory.{Memory, state_of, all_synced}
use Rattle.sector_disk.specs.Crash.{IsCrashed}
use Rattle.node_core.specs.declared.event.Event.{Event}
use Rattle.node_core.specs.declared.event.Event.TheVariants.{Recover}
use Rattle.node_core.specs.State.{is_down}
use Rattle.node_core.specs.Start.{down}
use Rattle.histories.specs.declared.history_event.HistoryEvent.{HistoryEvent}
use Rattle.histories.specs.declared.history_event.HistoryEvent.TheVariants as what
use Rattle.histories.specs.declared.history_event.NoOpKind.TheVariants.{Nothing}
use Rattle.histories.specs.NodeState.{NodeState}
use Rattle.histories.specs.HistoryEvent.{IsOf}
use Rattle.histories.specs.After.{after}
use Rattle.histories.specs.EventOutcomes.{what_of}
use Rattle.durable_node.specs.declared.step_report.StepReport.{StepReport}
use Rattle.durable_node.specs.Arming.{armed_disk}
use Rattle.durable_node.specs.Node.{Node, Stands}
use Rattle.durable_node.specs.Faults.{answered}
use Rattle.durable_node.specs.Forgetting.{forgotten_disk}
use Rattle.durable_node.specs.Reading.{ReadsDisk}
use Rattle.durable_node.specs.Refusing.{Answers}
use Rattle.durable_node.specs.Remounting.{IsMountedBy, Remounted}
use Rattle.durable_node.specs.Stepping.{AreaGoesOn, CountsOf, Steps, most_by}
use Rattle.node_lock.specs.Asking.{Asked, Hand, NoEvent, Arm, Crash}

-- there is a state that the node and its disk stand for
abbrev pub StandsForSome : Node Memory → Type 0
StandsForSome node = (s : NodeState) × Stands state_of node s

-- the disk has so many sectors
abbrev pub HasSectors : ℕ → Node Memory → Type 0
HasSectors n node = (disk : Memory) → node.disk ≡ Some disk → (state_of disk).sectors ≡ n

-- the node took a step at the event, of which all holds that is said of `DurableNode::step`; its disk then forgot the moments before; and
-- just what the
-- step answered is written down
pub record Did (old : Node Memory) (event : Event) (w : HistoryEvent) (sent : List Envelope) (new : Node Memory) : Type 0 where
  pub came : StepReport
  -- as the step left it
  pub left : Node Memory
  pub steps : Steps state_of old left event came
  pub answers : Answers old event (answered (Ok came))
  pub counts : CountsOf state_of old.disk left.disk (answered (Ok came))
  pub area : AreaGoesOn state_of old left event (answered (Ok came))
  pub mounting : is_down old.state.phase ≡ true → event ≡ Recover → Remounted old left (answered (Ok came)) left.mounted
  pub kept : is_down old.state.phase ≡ true → event ≡ Recover → IsMountedBy old.doubt came.event_outcome left.mounted
  pub reads : is_down old.state.phase ≡ true → event ≡ Recover → ReadsDisk state_of old.disk left.disk (answered (Ok came)) left.mounted
  pub few : length came.sent.items ≤ most_by old.nodes old.kept
  pub forgot : new ≡ record left { disk = forgotten_disk left.disk }
  pub written : w ≡ what_of event came.event_outcome
  pub is_sent : sent ≡ came.sent.items

-- the node's disk was armed
pub record WasArmed (calls : ℕ) (old new : Node Memory) : Type 0 where
  pub armed : new ≡ record old { disk = armed_disk calls old.disk; mounted = None }
  pub stands : (s : NodeState) → Stands state_of old s → Stands state_of new s

-- the node was stopped here, and its disk has these bytes in the sectors that weren't synced
pub record WasCrashed (fill : List ℕ) (old new : Node Memory) : Type 0 where
  pub there : IsSome old.disk
  pub down : new ≡ record old { state = down old.id; disk = new.disk; kept = None; area = None; mounted = None }
  pub disk : (was now : Memory) → old.disk ≡ Some was → new.disk ≡ Some now
      → IsCrashed was fill now.contents × (now ≡ all_synced now.contents was.failures)
  pub stands : (s : NodeState) → Stands state_of old s → Stands state_of new (after old.id old.nodes s what.Crashed)

-- the node did what was asked, this is what came of it, and these messages were sent
abbrev pub TurnDid : Node Memory → Asked → HistoryEvent → List Envelope → Node Memory → Type 0
TurnDid old (Hand event) w sent new = Did old event w sent new
TurnDid old NoEvent w sent new = (new ≡ old) × (w ≡ what.NoOp Nothing) × (sent ≡ [])
TurnDid old (Arm calls) w sent new = WasArmed calls old new × (w ≡ what.NoOp Nothing) × (sent ≡ [])
TurnDid old (Crash fill) w sent new = WasCrashed fill old new × (w ≡ what.Crashed) × (sent ≡ [])

-- what may be written down of what was asked
abbrev pub Gives : Asked → HistoryEvent → Type 0
Gives (Hand event) w = IsOf event w
Gives NoEvent w = w ≡ what.NoOp Nothing
Gives (Arm calls) w = w ≡ what.NoOp Nothing
Gives (Crash fill) w = w ≡ what.Crashed
