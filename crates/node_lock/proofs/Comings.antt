-- What is written down of a turn is what came of it.
use Rattle.std.proofs.Common.{◌≡◌, ℕ, ◌+◌, ◌*◌, ◌≤◌, arith, length, List, [], ◌∷◌, refl, sym, ◌∙◌, ap, subst, Option, Some, None, IsSome}
use Rattle.std.proofs.lemmas.Option.{same_Some}
use Rattle.wire_msg.specs.Envelope.{Envelope}
use Rattle.sector_disk.specs.Memory.{Memory, state_of}
use Rattle.node_core.specs.declared.event.Event.{Event}
use Rattle.node_core.specs.declared.event.Event.TheVariants as on
use Rattle.node_core.specs.declared.timer.Timer.{Timer}
use Rattle.histories.specs.declared.history_event.HistoryEvent.{HistoryEvent}
use Rattle.histories.specs.declared.history_event.HistoryEvent.TheVariants as what
use Rattle.histories.specs.declared.history_event.NoOpKind.TheVariants.{Nothing}
use Rattle.histories.specs.NodeState.{NodeState}
use Rattle.histories.specs.HistoryEvent.{brought, event_of, IsOf}
use Rattle.histories.specs.After.{after, sent_at}
use Rattle.histories.specs.Possible.{IsPossible, IsOfSlots}
use Rattle.histories.specs.EventOutcomes.{what_of}
use Rattle.node_store.specs.Store.{slots_for}
use Rattle.durable_node.specs.Arming.{armed_disk}
use Rattle.durable_node.specs.Forgetting.{forgotten_disk}
use Rattle.durable_node.proofs.PublicLaws.{steps_and_forgets}
use Rattle.durable_node.specs.Node.{Node, Stands}
use Rattle.node_lock.specs.declared.order.OperatorOrder.{OperatorOrder}
use Rattle.node_lock.specs.declared.order.OperatorOrder.TheVariants as order
use Rattle.node_lock.specs.Asking.{Asked, Hand, NoEvent, Arm, Crash, asked_in, asked_by}
use Rattle.node_lock.specs.Doing.{Did, Gives, HasSectors, TurnDid}
use Rattle.node_lock.specs.History.{listed}

pub some_of : {A : Type 0} (o : Option A) → IsSome o → (a : A) × (o ≡ Some a)
some_of (Some a) is = (a, refl)
some_of None is = absurd cc

-- from the state that the node stood for, one possible entry came of what was asked
pub record Comes (old : Node Memory) (s : NodeState) (asked : Asked) (w : HistoryEvent) (sent : List Envelope) (new : Node Memory) :
    Type 0 where
  pub gives : Gives asked w
  pub possible : IsPossible old.id old.nodes s w
  pub is_sent : sent ≡ sent_at old.id old.nodes s w
  pub stands : Stands state_of new (after old.id old.nodes s w)
  -- on a disk of the size for so many slots
  pub of_slots : (slots : ℕ) → slots ≤ 4096 → HasSectors (8 + 4 * slots) old → IsOfSlots slots old.id old.nodes s w

did_comes : (old new : Node Memory) (event : Event) (w : HistoryEvent) (sent : List Envelope) → Did old event w sent new → (s : NodeState)
    → Stands state_of old s → Comes old s (Hand event) w sent new
did_comes old new event w sent did s stands =
    let disk = some_of old.disk did.counts.was_there in
    let came = steps_and_forgets old did.left new event did.came did.forgot did.steps disk.0 s disk.1 stands (λ _. refl) in
    record {
      gives = rw did.written came.0.of;
      possible = rw did.written came.0.possible;
      is_sent = rw did.written (did.is_sent ∙ came.0.sent);
      stands = rw did.written came.1;
      of_slots = λ slots most size.
          let sized : slots_for (8 + 4 * slots) ≡ slots = grind (arith) in
          rw did.written (subst (λ (n : ℕ). IsOfSlots n old.id old.nodes s (what_of event did.came.event_outcome))
          (ap slots_for (size disk.0 disk.1) ∙ sized) came.0.of_slots);
    }

rests : (old new : Node Memory) (s : NodeState) (asked : Asked) (w : HistoryEvent) (sent : List Envelope) → Gives asked (what.NoOp Nothing)
    → Stands state_of new s → w ≡ what.NoOp Nothing → sent ≡ [] → Comes old s asked w sent new
rests old new s asked w sent gives stands is none =
    subst (λ (x : HistoryEvent). Comes old s asked x sent new) (sym is)
    (record { gives = gives; possible = tt; is_sent = none; stands = stands; of_slots = λ slots most size. tt })

-- one turn
pub turn_comes : (old new : Node Memory) (asked : Asked) (w : HistoryEvent) (sent : List Envelope) → TurnDid old asked w sent new
    → (s : NodeState) → Stands state_of old s → Comes old s asked w sent new
turn_comes old new (Hand event) w sent did s stands = did_comes old new event w sent did s stands
turn_comes old new NoEvent w sent did s stands = rests old new s NoEvent w sent refl
    (subst (λ (n : Node Memory). Stands state_of n s) (sym did.0) stands) did.1 did.2
turn_comes old new (Arm calls) w sent did s stands = rests old new s (Arm calls) w sent refl (did.0.stands s stands) did.1 did.2
turn_comes old new (Crash fill) w sent did s stands =
    subst (λ (x : HistoryEvent). Comes old s (Crash fill) x sent new) (sym did.1)
    (record { gives = refl; possible = tt; is_sent = did.2; stands = did.0.stands s stands; of_slots = λ slots most size. tt })

-- ---- the size of the disk

forgotten_size : (n : ℕ) (disk : Option Memory) → ((d : Memory) → disk ≡ Some d → (state_of d).sectors ≡ n) → (d : Memory)
    → forgotten_disk disk ≡ Some d → (state_of d).sectors ≡ n
forgotten_size n None size d at = absurd cc
forgotten_size n (Some was) size d at = sym (ap (λ (m : Memory). length m.contents) (same_Some (record was { spans = [] }) d at))
    ∙ size was refl

armed_size : (n calls : ℕ) (disk : Option Memory) → ((d : Memory) → disk ≡ Some d → (state_of d).sectors ≡ n) → (d : Memory)
    → armed_disk calls disk ≡ Some d → (state_of d).sectors ≡ n
armed_size n calls None size d at = absurd cc
armed_size n calls (Some was) size d at = sym (ap (λ (m : Memory). length m.contents) (same_Some (record was { left = Some calls }) d at))
    ∙ size was refl

-- a turn leaves the disk as large as it was
pub turn_sectors : (n : ℕ) (old new : Node Memory) (asked : Asked) (w : HistoryEvent) (sent : List Envelope) → TurnDid old asked w sent new
    → HasSectors n old → HasSectors n new
turn_sectors n old new (Hand event) w sent did size d at =
    let was = some_of old.disk did.counts.was_there in
    forgotten_size n did.left.disk (λ now here. (did.counts.counts was.0 now was.1 here).sectors
    ∙ size was.0 was.1) d (sym (ap (λ (m : Node Memory). m.disk) did.forgot) ∙ at)
turn_sectors n old new NoEvent w sent did size d at = size d (sym (ap (λ (m : Node Memory). m.disk) did.0) ∙ at)
turn_sectors n old new (Arm calls) w sent did size d at =
    armed_size n calls old.disk size d (sym (ap (λ (m : Node Memory). m.disk) did.0.armed) ∙ at)
turn_sectors n old new (Crash fill) w sent did size d at =
    let was = some_of old.disk did.0.there in
    (did.0.disk was.0 d was.1 at).0.size ∙ size was.0 was.1

-- ---- what a turn was brought

brought_by : (m : Envelope) (w : HistoryEvent) → IsOf (on.Deliver m) w → brought (event_of w) ≡ m ∷ []
brought_by m w is = ap brought is

-- a poll brings what it took
pub brought_polled : (arrived : Option Envelope) (w : HistoryEvent) → Gives (asked_by arrived) w → brought (event_of w) ≡ listed arrived
brought_polled (Some m) w is = brought_by m w is
brought_polled None w is = ap (λ (x : HistoryEvent). brought (event_of x)) is

-- an event that brings nothing
none_by : (event : Event) (w : HistoryEvent) → brought (Some event) ≡ [] → IsOf event w → brought (event_of w) ≡ []
none_by event w none is = ap brought is ∙ none

-- timers and orders bring no message
pub none_of_tick : (t : Timer) (w : HistoryEvent) → Gives (Hand (on.Timer t)) w → brought (event_of w) ≡ []
none_of_tick t w is = none_by (on.Timer t) w refl is

pub none_of_order : (o : OperatorOrder) (w : HistoryEvent) → Gives (asked_in o) w → brought (event_of w) ≡ []
none_of_order (order.Submit work) w is = none_by (on.Submit work) w refl is
none_of_order (order.Finish origin id) w is = none_by (on.Finish origin id) w refl is
none_of_order (order.Arm calls) w is = ap (λ (x : HistoryEvent). brought (event_of x)) is
none_of_order (order.Crash fill) w is = ap (λ (x : HistoryEvent). brought (event_of x)) is
none_of_order order.Recover w is = none_by on.Recover w refl is

-- ---- want of memory
