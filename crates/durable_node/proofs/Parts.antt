-- What a node shows of its parts, and when it stands for a state.
use Rattle.std.proofs.Common.{◌≡◌, ℕ, true, false, Bool, Option, Some, None, sym, ◌∙◌, ap, subst, true≢false}
use Rattle.sector_disk.specs.Disk.{DiskState}
use Rattle.job_model.specs.Durable.{Durable}
use Rattle.node_core.specs.State.{State, is_down}
use Rattle.node_core.specs.Start.{down}
use Rattle.node_core.specs.declared.event.Event.{Event}
use Rattle.histories.specs.NodeState.{NodeState}
use Rattle.histories.specs.declared.history_event.HistoryEvent.{HistoryEvent}
use Rattle.histories.specs.HistoryEvent.{IsOf}
use Rattle.histories.specs.Possible.{IsPossible, IsOfSlots}
use Rattle.histories.specs.EventOutcomes.{IsTriedAt}
use Rattle.histories.specs.After.{sent_at, mounted_at}
use Rattle.durable_node.specs.declared.step_report.StepReport.{StepReport}
use Rattle.durable_node.specs.Node.{IsLeft, Node, Stands, shown_doubt}
use Rattle.durable_node.specs.Stepping.{Does, command_at, answer_at}

pub is_some : {T : Type 0} (x y : T) → Some x ≡ Some y → x ≡ y
is_some x y e = cc

-- of what is there
pub at_some : {T : Type 0} (P : T → Type 0) (x y : T) → Some x ≡ Some y → P x → P y
at_some P x y is = subst P (is_some x y is)

pub at_both : {T : Type 0} (P : T → T → Type 0) (a b : T) → P a b → (x y : T) → Some a ≡ Some x → Some b ≡ Some y → P x y
at_both P a b p x y one two = subst (λ t. P t y) (is_some a x one) (subst (λ t. P a t) (is_some b y two) p)

pub clash : (b : Bool) → b ≡ true → b ≡ false → ⊥
clash b t f = true≢false (sym t ∙ f)

pub down_phase : (id : ℕ) (s : State) → s ≡ down id → is_down s.phase ≡ true
down_phase id s is = ap (λ (v : State). is_down v.phase) is

-- the state of a node that is down isn't up
pub not_up : (id : ℕ) (s : State) → s ≡ down id → is_down s.phase ≡ false → ⊥
not_up id s is = clash (is_down s.phase) (down_phase id s is)

-- a node over this disk
pub stands_at : {Disk : Type 0} (disks : Disk → DiskState) (n : Node Disk) (s : NodeState) (disk : Disk) → n.disk ≡ Some disk
    → IsLeft (disks disk) s → n.state ≡ s.state → n.doubt ≡ shown_doubt s.durable s.doubt
    → (is_down n.state.phase ≡ false → (n.kept ≡ Some s.durable) × (s.doubt ≡ None)) → Stands disks n s
stands_at disks n s disk at left state doubt up = record {
  state = state;
  doubt = doubt;
  up = up;
  disk =
      λ d e. at_some (λ (x : _). IsLeft (disks x) s) disk d (sym at ∙ e) left;
}

pub stands_down : {Disk : Type 0} (disks : Disk → DiskState) (n : Node Disk) (s : NodeState) (disk : Disk) (id : ℕ) → n.state ≡ down id
    → n.disk ≡ Some disk → IsLeft (disks disk) s → n.state ≡ s.state → n.doubt ≡ shown_doubt s.durable s.doubt → Stands disks n s
stands_down disks n s disk id fallen at left state doubt =
    stands_at disks n s disk at left state doubt (λ up. absurd (not_up id n.state fallen up))

-- this came of an event
pub does : {slots self nodes : ℕ} {s : NodeState} {event : Event} {came : StepReport} {mounted : Option Durable} {what : HistoryEvent}
    → IsOf event what → IsPossible self nodes s what → IsOfSlots slots self nodes s what
    → IsTriedAt event came.tried (command_at self nodes s what) → came.answer ≡ answer_at self nodes s what
    → came.sent.items ≡ sent_at self nodes s what → mounted ≡ mounted_at s what → Does slots self nodes s event came mounted what
does of possible of_slots tried answer sent mounted = record {
  of = of;
  possible = possible;
  of_slots = of_slots;
  tried = tried;
  answer =
      answer;
  sent = sent;
  mounted = mounted;
}
