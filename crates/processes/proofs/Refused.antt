-- What is refused changes nothing.
use Rattle.std.proofs.Common.{◌≡◌, ◌≢◌, ℕ, Bool, true, false, List, [], ◌∷◌, length, refl, sym, subst, Some}
use Rattle.std.specs.Prelude.{Err}
use Rattle.node_core.specs.declared.event.Event.{Event}
use Rattle.node_core.specs.State.{is_down}
use Rattle.histories.specs.NodeState.{NodeState}
use Rattle.histories.specs.HistoryEvent.{event_of}
use Rattle.histories.specs.declared.history_event.HistoryEvent.{HistoryEvent}
use Rattle.histories.specs.declared.history_event.HistoryEvent.TheVariants.{Refused, Faulted, MountFailed, RaiseFailed, RaiseRefused}
use Rattle.histories.specs.After.{after, sent_at}
use Rattle.durable_node.specs.declared.fault.NodeFault.{NodeFault}
use Rattle.durable_node.specs.declared.fault.NodeFault.TheVariants as fault
use Rattle.node_session.specs.Turns.{Turn, Goes, end_at, end_of}
use Rattle.node_session.specs.Chains.{AreGoing, ComesOfEvent, IsWrittenAnew, after_turns, brought_up, event_line_end}
use Rattle.node_session.specs.Chains.{is_device, line_end}
use Rattle.node_session.specs.Sending.{sent_turns}
use Rattle.processes.specs.Files.{at_first}
use Rattle.processes.specs.Answers.{RefusedChangesNothing}
use Rattle.processes.proofs.Answers.{all_come, asked_may, step_ended}

not_device : (why : NodeFault) → why ≢ fault.Device → is_device why ≡ false
not_device fault.Device other = absurd (other refl)
not_device why other = refl

-- a history that goes on by what is refused stays as it is
denied_stays : (self nodes : ℕ) (s : NodeState) (event : Event) (what : HistoryEvent) (why : NodeFault) → why ≢ fault.Device
    → event_of what ≡ Some event → end_at self nodes s what ≡ Err why
    → (after self nodes s what ≡ s) × (sent_at self nodes s what ≡ [])
denied_stays self nodes s event (Refused e reason) why other of is = (refl, refl)
denied_stays self nodes s event (RaiseRefused kept) why other of is = (refl, refl)
denied_stays self nodes s event (Faulted e) why other of is = absurd (let same : fault.Device ≡ why = cc is in other (sym same))
denied_stays self nodes s event MountFailed why other of is = absurd (let same : fault.Device ≡ why = cc is in other (sym same))
denied_stays self nodes s event (RaiseFailed kept) why other of is = absurd (let same : fault.Device ≡ why = cc is in other (sym same))
denied_stays self nodes s event what why other of is = absurd cc

-- and no call is behind it
none_anew : (self nodes slots : ℕ) (b : Bool) (s : NodeState) (ts : List Turn) → IsWrittenAnew (brought_up b b) self nodes slots s ts
    → ts ≡ []
none_anew self nodes slots true s [] may = refl
none_anew self nodes slots false s [] may = refl
none_anew self nodes slots true s (t ∷ ts) may = absurd may
none_anew self nodes slots false s (t ∷ ts) may = absurd may

turns_stay : (self nodes slots : ℕ) (s : NodeState) (event : Event) (ts : List Turn) (why : NodeFault) → why ≢ fault.Device
    → ComesOfEvent self nodes slots s event ts → AreGoing ts → event_line_end self nodes s ts ≡ Err why
    → (after_turns self nodes s ts ≡ s) × (sent_turns self nodes s ts ≡ [])
turns_stay self nodes slots s event [] why other may going is = absurd may
turns_stay self nodes slots s event (Goes what ∷ ts) why other may going is =
    let step = step_ended (end_of self nodes s (Goes what)) (line_end self nodes s (Goes what ∷ ts)) (Err why) (not_device why other) is in
    let still = denied_stays self nodes s event what why other may.0.0 step in
    let anew : IsWrittenAnew (brought_up (is_down s.state.phase) (is_down s.state.phase)) self nodes slots s ts =
    subst (λ (x : NodeState). IsWrittenAnew (brought_up (is_down s.state.phase) (is_down x.state.phase)) self nodes slots x ts) still.0
    may.1 in
    rw (none_anew self nodes slots (is_down s.state.phase) s ts anew, still.0, still.1) (refl, refl)
turns_stay self nodes slots s event (t ∷ ts) why other may going is = absurd going.0

pub refused_changes_nothing : RefusedChangesNothing
refused_changes_nothing cluster are n node at x i event asked answered why other is =
    let nodes = length cluster in
    let line = all_come n nodes node.slots (at_first n node.file) node.processes x (are.processes n node at) i in
    turns_stay n nodes node.slots x.at.state event x.came.turns why other (asked_may n nodes node.slots x line answered asked) line.going is
