-- What comes of an event, over any disk.
use Rattle.std.proofs.Common.{◌≡◌, ◌⊎◌, inl, inr, ℕ, ◌+◌, ◌-◌, ◌^◌, ◌<◌, ◌++◌, Bool, true, false, List, [], refl, sym, ap, ◌∙◌, subst}
use Rattle.std.proofs.Common.{append-nil, append_assoc, arith, map, Option, Some, None, Result, Ok, Err}
use Rattle.std.specs.Prelude.{◌≢◌, All, IfOk, IfErr, IsTrue, IsSome}
use Rattle.std.proofs.lemmas.List.Elements.{All-nil}
use Rattle.sector_disk.specs.Disk.{DiskState}
use Rattle.job_model.specs.Durable.{Durable}
use Rattle.wire_msg.specs.Envelope.{Envelope}
use Rattle.wire_msg.specs.Spelling.{IsMessage}
use Rattle.node_core.specs.Start.{down as down_state}
use Rattle.node_core.specs.State.{State, is_down}
use Rattle.node_core.specs.declared.event.Event.{Event}
use Rattle.node_core.specs.declared.event.Event.TheVariants as on
use Rattle.node_core.specs.declared.wanted.Wanted.TheVariants as wanted
use Rattle.node_store.specs.Store.{slots_for}
use Rattle.durable_node.specs.declared.fault.NodeFault.{NodeFault}
use Rattle.durable_node.specs.declared.fault.NodeFault.TheVariants as node
use Rattle.durable_node.specs.declared.step_report.StepReport.{StepReport}
use Rattle.durable_node.specs.Node.{Node, Stands, IsLeft}
use Rattle.histories.specs.NodeState.{NodeState}
use Rattle.histories.specs.declared.history_event.HistoryEvent.{HistoryEvent}
use Rattle.histories.specs.declared.history_event.HistoryEvent.TheVariants.{NoOp, Crashed, Recovered, RaiseFailed, RaiseRefused}
use Rattle.histories.specs.declared.history_event.NoOpKind.{NoOpKind}
use Rattle.histories.specs.declared.history_event.NoOpKind.TheVariants.{Nothing, Compacted, CompactDown, CompactAreaExhausted}
use Rattle.histories.specs.HistoryEvent.{event_of}
use Rattle.histories.specs.EventOutcomes.{what_of}
use Rattle.histories.specs.declared.event_outcome.EventOutcome.{EventOutcome}
use Rattle.histories.specs.declared.event_outcome.EventOutcome.TheVariants as event_outcome
use Rattle.histories.specs.After.{after, sent_at}
use Rattle.histories.specs.Possible.{IsOfSlots, IsPossible}
use Rattle.durable_node.specs.Compacting.{CompactionAnswers, RestAnswers}
use Rattle.durable_node.specs.Changes.{AreChanges, AreChangesSince, Foresees, IsMove, IsSeenBefore, Sight, dropped_since, held_by, seen_of}
use Rattle.durable_node.specs.Changes.{taken_since, told_anew, view_of}
use Rattle.durable_node.specs.declared.hand_move.HandMove.{HandMove}
use Rattle.durable_node.specs.declared.hand_move.HandMove.TheVariants as hand
use Rattle.durable_node.proofs.PublicLaws.{at_rest}
use Rattle.durable_node.specs.declared.changes.Changes.{Changes}
use Rattle.durable_node.specs.declared.group_view.GroupView.{GroupView}
use Rattle.node_core.specs.declared.in_hand.InHand.{InHand}
use Rattle.durable_node.specs.Stepping.{CountsOf, Does, IsMounting, Steps, Stuck, is_recover}
use Rattle.durable_node.specs.Faults.{fault_of, answered, answered_as}
use Rattle.node_core.specs.declared.fault.CoreFault.TheVariants.{NoMemory}
use Rattle.durable_node.specs.Remounting.{Remounted}
use Rattle.node_session.specs.Turns.{CallEnd, Turn, Goes, Unmounted, Begins, MayBegin, MayComeOf, MayCompact, IsGoing, IsOfCompaction}
use Rattle.node_session.specs.Turns.{after_begun}
use Rattle.node_session.specs.Turns.{after_turn, begun, cause}
use Rattle.node_session.specs.Turns.{compaction_end, end_at, end_of, ended_by, sent_by, sent_in}
use Rattle.node_timers.specs.Retransmission.{Waits, waits_behind}
use Rattle.node_session.specs.Changes.{changes, gone_news, is_finish, news}
use Rattle.node_session.specs.Text.{call_text, send_lines}
use Rattle.node_session.specs.Exact.{CompactionSays, IsCallBy, StepSays}
use Rattle.node_session.specs.Serving.{Progress, IsNodeOf, Turns}

-- what came of an event over a disk, and how it is written
record Happens {Disk : Type 0} (disks : Disk → DiskState) (slots : ℕ) (old new : Node Disk) (honest : Bool) (s : NodeState) (event : Event)
    (result : Result StepReport NodeFault) : Type 0 where
  pub turn : Turn
  pub may : MayComeOf old.id old.nodes event slots s turn
  pub going : IsTrue honest → IsGoing turn
  pub stands : Stands disks new (after_turn old.id old.nodes s turn)
  pub ended : ended_by result ≡ end_of old.id old.nodes s turn
  pub sent : sent_by result ≡ sent_in old.id old.nodes s turn

-- ---- the history goes on

ends : (slots self nodes : ℕ) (s : NodeState) (event : Event) (came : StepReport) (given : Option Durable) (event_outcome : EventOutcome)
    → Does slots self nodes s event came given (what_of event event_outcome)
    → (ended_by (answered_as came (fault_of event_outcome)) ≡ end_at self nodes s (what_of event event_outcome))
    × (sent_by (answered_as came (fault_of event_outcome)) ≡ sent_at self nodes s (what_of event event_outcome))
ends slots self nodes s event came given event_outcome.Done does = (ap Ok does.answer, does.sent)
ends slots self nodes s event came given (event_outcome.Recovered kept) does = (ap Ok does.answer, does.sent)
ends slots self nodes s event came given event_outcome does = (refl, refl)

-- a disk of a history is one that can be mounted
not_stuck : {Disk : Type 0} (disks : Disk → DiskState) (old new : Node Disk) (event : Event) (fault : NodeFault) (was : Disk)
    (s : NodeState) → Stuck disks old new event fault → fault ≢ node.Core NoMemory
    → old.disk ≡ Some was → Stands disks old s → (IsMounting old.state event → IsTrue (disks was).honest) → ⊥
not_stuck disks old new event (node.Core f) was s stuck memory is stands honest = memory (ap node.Core stuck.0)
not_stuck disks old new event node.Full was s stuck memory is stands honest = stuck
not_stuck disks old new event node.Exhausted was s stuck memory is stands honest = stuck
not_stuck disks old new event node.Device was s stuck memory is stands honest = stuck
not_stuck disks old new event node.NotFormatted was s stuck memory is stands honest = stuck.strange was s is stands (honest stuck.mounting)
not_stuck disks old new event (node.Damaged sector) was s stuck memory is stands honest =
    stuck.strange was s is stands (honest stuck.mounting)
not_stuck disks old new event node.TooSmall was s stuck memory is stands honest = stuck.strange was s is stands (honest stuck.mounting)

goes_on : {Disk : Type 0} (disks : Disk → DiskState) (old new : Node Disk) (event : Event) (reply : Result StepReport NodeFault)
    (was : Disk) (s : NodeState)
    → IfOk reply (Steps disks old new event) → IfErr reply (Stuck disks old new event) → reply ≢ Err (node.Core NoMemory)
    → old.disk ≡ Some was → Stands disks old s → (IsMounting old.state event → IsTrue (disks was).honest)
    → Happens disks (slots_for (disks was).sectors) old new (disks was).honest s event (answered reply)
goes_on disks old new event (Ok came) was s steps stuck memory is stands honest =
    let step = steps was s is stands honest in
    let does = step.0 in
    let ends_so = ends (slots_for (disks was).sectors) old.id old.nodes s event came new.mounted came.event_outcome does in
    record {
      turn = Goes (what_of event came.event_outcome);
      may = (does.of, does.possible, does.of_slots);
      going = λ _. tt;
      stands = step.1;
      ended = ends_so.0;
      sent = ends_so.1;
    }
goes_on disks old new event (Err fault) was s steps stuck memory is stands honest =
    absurd (not_stuck disks old new event fault was s stuck (λ e. memory (ap (λ (f : NodeFault). Err f) e)) is stands honest)

-- ---- a history begins

-- over a disk of which nothing is known
left_anyhow : (old new : DiskState) (s t : NodeState) → new.sectors ≡ old.sectors → new.honest ≡ false → IsLeft old s → IsLeft new t
left_anyhow old new s t sectors dishonest left = record {
  sectors = omega (arith, left.sectors, sectors);
  images = λ honest. absurd cc;
  sound = λ honest. absurd cc;
}

begins : {Disk : Type 0} (disks : Disk → DiskState) (slots : ℕ) (old new : Node Disk) (result : Result StepReport NodeFault)
    (given : Option Durable) (s : NodeState) → Remounted old new result given
    → (is_down old.state.phase ≡ true → old.state ≡ down_state old.id) → is_down old.state.phase ≡ true → Stands disks old s
    → ((t : NodeState) (d : Disk) → new.disk ≡ Some d → IsLeft (disks d) t)
    → Happens disks slots old new false s on.Recover result
begins disks slots old new (Ok came) None s mounted fallen down stands left = absurd mounted
begins disks slots old new (Ok came) (Some given) s mounted fallen down stands left = record {
  turn = Begins given (Recovered false);
  may = (refl, ap (λ (v : State). is_down v.phase) (sym stands.state) ∙ down, tt, (refl, λ kept. absurd cc, mounted.5));
  going = λ honest. absurd cc;
  stands = record { state = mounted.1; doubt = mounted.2; up = λ _. (mounted.0, refl); disk = left _ };
  ended = ap Ok mounted.4;
  sent = mounted.3;
}
begins disks slots old new (Err fault) None s mounted fallen down stands left = record {
  turn = Unmounted fault;
  may = (refl, ap (λ (v : State). is_down v.phase) (sym stands.state) ∙ down, mounted.0);
  going = λ honest. absurd cc;
  stands = record {
    state = mounted.1 ∙ stands.state;
    doubt = mounted.2 ∙ stands.doubt;
    up = λ up. (let same : is_down new.state.phase ≡ true = ap (λ (v : State). is_down v.phase) mounted.1 ∙ down in absurd cc);
    disk = left s;
  };
  ended = refl;
  sent = refl;
}
begins {Disk} disks slots old new (Err fault) (Some given) s mounted fallen down stands left = by_cases mounted.1
  where
    was_down : is_down s.state.phase ≡ true
    was_down = ap (λ (v : State). is_down v.phase) (sym stands.state) ∙ down

    still_down : is_down new.state.phase ≡ true
    still_down = ap (λ (v : State). is_down v.phase) mounted.0 ∙ down

    by_cases : ((fault ≡ node.Device) × (new.doubt ≡ Some (wanted.Raise, given.counter)) × (given.counter + 1 < 2 ^ 64))
        ⊎ ((fault ≡ node.Exhausted) × (given.counter ≡ 2 ^ 64 - 1) × (new.doubt ≡ old.doubt))
        → Happens disks slots old new false s on.Recover (Err fault)
    by_cases (inl failed) = record {
      turn = Begins given (RaiseFailed false);
      may = (refl, was_down, tt, (refl, λ kept. absurd cc, failed.2));
      going = λ honest. absurd cc;
      stands = record { state = mounted.0 ∙ fallen down; doubt = failed.1; up = λ up. absurd cc; disk = left _ };
      ended = ap Err failed.0;
      sent = refl;
    }
    by_cases (inr spent) = record {
      turn = Begins given (RaiseRefused false);
      may = (refl, was_down, tt, (refl, λ kept. absurd cc, spent.1));
      going = λ honest. absurd cc;
      stands = record { state = mounted.0 ∙ stands.state; doubt = spent.2 ∙ stands.doubt; up = λ up. absurd cc; disk = left s };
      ended = ap Err spent.0;
      sent = refl;
    }

-- ---- any event, over any disk

recovers : (event : Event) → is_recover event ≡ true → event ≡ on.Recover
recovers on.Recover is = refl
recovers event is = absurd cc

happens : {Disk : Type 0} (disks : Disk → DiskState) (old new : Node Disk) (event : Event) (reply : Result StepReport NodeFault)
    (was : Disk) (s : NodeState)
    → IfOk reply (Steps disks old new event) → IfErr reply (Stuck disks old new event) → reply ≢ Err (node.Core NoMemory)
    → (is_down old.state.phase ≡ true → event ≡ on.Recover → Remounted old new (answered reply) new.mounted)
    → (is_down old.state.phase ≡ true → old.state ≡ down_state old.id) → old.disk ≡ Some was → Stands disks old s
    → ((d : Disk) → new.disk ≡ Some d → ((disks d).sectors ≡ (disks was).sectors) × ((disks d).honest ≡ (disks was).honest))
    → Happens disks (slots_for (disks was).sectors) old new (disks was).honest s event (answered reply)
happens {Disk} disks old new event reply was s steps stuck memory mounting fallen is stands same = by_honesty (disks was).honest refl
  where
    begun_at : (disks was).honest ≡ false → is_down old.state.phase ≡ true → event ≡ on.Recover
        → Happens disks (slots_for (disks was).sectors) old new (disks was).honest s event (answered reply)
    begun_at dishonest down recover =
        subst (λ (e : Event). Happens disks (slots_for (disks was).sectors) old new (disks was).honest s e (answered reply)) (sym recover)
        (subst (λ (b : Bool). Happens disks (slots_for (disks was).sectors) old new b s on.Recover (answered reply)) (sym dishonest)
        (begins disks (slots_for (disks was).sectors) old new (answered reply) new.mounted s (mounting down recover) fallen down stands
        (λ t d at. left_anyhow (disks was) (disks d) s t (same d at).0 ((same d at).1 ∙ dishonest) (stands.disk was is))))

    by_event : (disks was).honest ≡ false → (down recover : Bool) → is_down old.state.phase ≡ down → is_recover event ≡ recover
        → Happens disks (slots_for (disks was).sectors) old new (disks was).honest s event (answered reply)
    by_event dishonest true true down recover = begun_at dishonest down (recovers event recover)
    by_event dishonest true false down recover = goes_on disks old new event reply was s steps stuck memory is stands (λ both. (let bad =
        both.1 in absurd cc))
    by_event dishonest false recovering down recover = goes_on disks old new event reply was s steps stuck memory is stands (λ both.
        (let bad = both.0 in absurd cc))

    by_honesty : (b : Bool) → (disks was).honest ≡ b → Happens disks (slots_for (disks was).sectors) old new (disks was).honest s event
        (answered reply)
    by_honesty true honest = goes_on disks old new event reply was s steps stuck memory is stands (λ _. honest)
    by_honesty false honest = by_event honest (is_down old.state.phase) (is_recover event) refl refl

some_is : {A : Type 0} (o : Option A) → IsSome o → (x : A) × (o ≡ Some x)
some_is None is = absurd cc
some_is (Some x) is = (x, refl)

-- the node is over the disk that it was over
same_node : {Disk A : Type 0} (disks : Disk → DiskState) (old new : Node Disk) (result : Result A NodeFault) → new.id ≡ old.id
    → new.nodes ≡ old.nodes → CountsOf disks old.disk new.disk result → IsNodeOf disks old new
same_node disks old new result id nodes counts = record {
  id = id;
  nodes = nodes;
  disk = λ was is. (let now = some_is new.disk counts.is_there in
      let same = counts.counts was now.0 is now.1 in
      record { now = now.0; is = now.1; sectors = same.sectors; honest = same.honest });
}

-- ---- what is written of it

-- a call that may come of an event is of that event
pub caused : (self nodes slots : ℕ) (s : NodeState) (event : Event) (turn : Turn) → MayComeOf self nodes event slots s turn
    → Some event ≡ cause turn
caused self nodes slots s event (Goes what) may = sym may.0
caused self nodes slots s event (Unmounted fault) may = ap (λ (x : Event). Some x) may.0
caused self nodes slots s event (Begins given what) may = ap (λ (x : Event). Some x) may.0

three_texts : (a b c d x y z : List ℕ) → b ≡ a ++ x → c ≡ b ++ y → d ≡ c ++ z → d ≡ a ++ (x ++ (y ++ z))
three_texts a b c d x y z first second third =
    third ∙ (ap (λ (t : List ℕ). t ++ z) second ∙ (append_assoc b y z
    ∙ (ap (λ (t : List ℕ). t ++ (y ++ z)) first ∙ append_assoc a x (y ++ z))))

-- what changed at the node, as it is written
changed_so : (finished : Bool) (old new : State) (came : Changes) (sent changed : List ℕ) → AreChanges old new came
    → changed ≡ sent ++ news finished came.group came.taken.items came.dropped.items → changed ≡ sent ++ changes finished old new
changed_so finished old new came sent changed are said =
    said ∙ (ap (λ (g : Option GroupView). sent ++ news finished g came.taken.items came.dropped.items) are.group
    ∙ (ap (λ (t : List InHand). sent ++ news finished (told_anew (view_of old) (view_of new)) t came.dropped.items) are.taken
    ∙ ap (λ (d : List (ℕ × ℕ)). sent ++ news finished (told_anew (view_of old) (view_of new)) (taken_since (map held_by old.hand) new.hand)
    d)
    are.dropped))

-- the hand moved as was foreseen of the event
begun_so : (self nodes : ℕ) (s : NodeState) (mounted : Durable) (what : HistoryEvent) (move : HandMove) → s.state ≡ down_state self
    → Foresees on.Recover move → MayBegin what → IsPossible self nodes (begun self mounted) what
    → IsMove move s.state.hand (after_begun self nodes s mounted what).state.hand
begun_so self nodes s mounted (Recovered kept) move fallen sees may possible =
    subst (λ (v : State). IsMove move v.hand (after self nodes (begun self mounted) (Recovered kept)).state.hand) (sym fallen)
    (sees.moved self nodes (begun self mounted) (Recovered kept) refl possible)
begun_so self nodes s mounted (RaiseFailed kept) move fallen sees may possible =
    subst (λ (v : State). IsMove move v.hand (after self nodes (begun self mounted) (RaiseFailed kept)).state.hand) (sym fallen)
    (sees.moved self nodes (begun self mounted) (RaiseFailed kept) refl possible)
begun_so self nodes s mounted (RaiseRefused kept) move fallen sees may possible = at_rest move s.state.hand
begun_so self nodes s mounted what move fallen sees may possible = absurd may

moved_so : (self nodes slots : ℕ) (s : NodeState) (event : Event) (turn : Turn) (move : HandMove)
    → (is_down s.state.phase ≡ true → s.state ≡ down_state self) → Foresees event move → MayComeOf self nodes event slots s turn
    → IsMove move s.state.hand (after_turn self nodes s turn).state.hand
moved_so self nodes slots s event (Goes what) move fallen sees may = sees.moved self nodes s what may.0 may.1
moved_so self nodes slots s event (Unmounted fault) move fallen sees may = at_rest move s.state.hand
moved_so self nodes slots s event (Begins mounted what) move fallen sees may =
    begun_so self nodes s mounted what move (fallen may.1) (subst (λ (e : Event). Foresees e move) may.0 sees) may.2 may.3

-- as the code does it
pub event_turns : {Disk : Type 0} (disks : Disk → DiskState) (old : Progress Disk) (node' : Node Disk) (event : Event)
    (reply : Result StepReport NodeFault) (seen : Sight) (came : Changes) (waits : Waits) (sent changed text : List ℕ)
    → node'.id ≡ old.node.id → node'.nodes ≡ old.node.nodes → IfOk reply (Steps disks old.node node' event)
    → IfErr reply (Stuck disks old.node node' event) → reply ≢ Err (node.Core NoMemory)
    → (is_down old.node.state.phase ≡ true → event ≡ on.Recover → Remounted old.node node' (answered reply) node'.mounted)
    → (is_down old.node.state.phase ≡ true → old.node.state ≡ down_state old.node.id)
    → CountsOf disks old.node.disk node'.disk (answered reply) → StepSays disks old.node event reply node'
    → All IsMessage (sent_by (answered reply))
    → waits ≡ waits_behind (Some event) (sent_by (answered reply)) node'.state old.waits
    → sent ≡ old.text ++ send_lines (sent_by (answered reply))
    → IsSeenBefore event old.node.state seen → AreChangesSince seen node'.state came
    → changed ≡ sent ++ news (is_finish (Some event)) came.group came.taken.items came.dropped.items
    → text ≡ changed ++ gone_news (Some event) (ended_by (answered reply))
    → Turns disks old (record old { node = node'; text = text; waits = waits }) (λ i n. MayComeOf i n event) (ended_by (answered reply))
event_turns {Disk} disks old node' event reply seen came waits sent changed text id nodes steps stuck memory mounting fallen counts says
    fits
    waited first sees are second third = record {
      node = same_node disks old.node node' (answered reply) id nodes counts;
      same = refl;
      turned = λ was s is stands. (let h = happens disks old.node node' event reply was s steps stuck memory mounting fallen is stands
          (λ d at. (let same = counts.counts was d is at in (same.sectors, same.honest))) in
          let self = old.node.id in
          let count = old.node.nodes in
          let t = after_turn self count s h.turn in
          let moved : IsMove seen.move old.node.state.hand node'.state.hand
          = subst (λ (v : State). IsMove seen.move v.hand node'.state.hand) (sym stands.state)
          (subst (λ (v : State). IsMove seen.move s.state.hand v.hand) (sym h.stands.state)
          (moved_so self count (slots_for (disks was).sectors) s event h.turn seen.move
          (λ down. sym stands.state ∙ fallen (ap (λ (v : State). is_down v.phase) stands.state ∙ down)) sees.foresees h.may)) in
          let all : text ≡ old.text ++ call_text (Some event) (sent_by (answered reply)) old.node.state node'.state
          (ended_by (answered reply))
          = three_texts old.text sent changed text _ _ _ first
          (changed_so (is_finish (Some event)) old.node.state node'.state came sent changed (are.are old.node.state sees.is moved) second)
          third in
          record {
            turn = h.turn;
            may = h.may;
            exact = subst (λ (o : Option Event). IsCallBy disks o old.node (sent_in self count s h.turn) (end_of self count s h.turn) node')
                (caused self count (slots_for (disks was).sectors) s event h.turn h.may)
                (record { reply = reply; ended_so = sym h.ended; sent_so = sym h.sent; says = says });
            messages = subst (All IsMessage) h.sent fits;
            honest = h.going;
            stands = h.stands;
            ended_so = h.ended;
            text = all ∙ (ap (λ (o : Option Event). old.text ++ call_text o (sent_by (answered reply)) old.node.state node'.state
                (ended_by (answered reply))) (caused self count (slots_for (disks was).sectors) s event h.turn h.may)
                ∙ (ap (λ (v : State). old.text ++ call_text (cause h.turn) (sent_by (answered reply)) v node'.state
                (ended_by (answered reply)))
                stands.state
                ∙ (ap (λ (v : State). old.text ++ call_text (cause h.turn) (sent_by (answered reply)) s.state v (ended_by (answered reply)))
                h.stands.state
                ∙ (ap (λ (ms : List Envelope). old.text ++ call_text (cause h.turn) ms s.state t.state (ended_by (answered reply))) h.sent
                ∙ ap (λ (e : CallEnd). old.text ++ call_text (cause h.turn) (sent_in self count s h.turn) s.state t.state e)
                h.ended))));
            waits = waited ∙ (ap (λ (o : Option Event). waits_behind o (sent_by (answered reply)) node'.state old.waits)
                (caused self count (slots_for (disks was).sectors) s event h.turn h.may)
                ∙ (ap (λ (v : State). waits_behind (cause h.turn) (sent_by (answered reply)) v old.waits) h.stands.state
                ∙ ap (λ (ms : List Envelope). waits_behind (cause h.turn) ms t.state old.waits) h.sent));
          });
    }

pub turn_so : {Disk : Type 0} (disks : Disk → DiskState) (old here : Progress Disk) (node' : Node Disk) (event : Event)
    (reply : Result StepReport NodeFault) (ended : CallEnd) (finished : Bool) (seen : Sight) (came : Changes) (behind : State)
    (given : List Envelope) (waits : Waits) (sent changed text : List ℕ) → here ≡ old → node'.id ≡ here.node.id
    → node'.nodes ≡ here.node.nodes → IfOk reply (Steps disks here.node node' event) → IfErr reply (Stuck disks here.node node' event)
    → reply ≢ Err (node.Core NoMemory)
    → (is_down here.node.state.phase ≡ true → event ≡ on.Recover → Remounted here.node node' (answered reply) node'.mounted)
    → (is_down here.node.state.phase ≡ true → here.node.state ≡ down_state here.node.id)
    → CountsOf disks here.node.disk node'.disk (answered reply) → StepSays disks here.node event reply node'
    → IsSeenBefore event here.node.state seen → AreChangesSince seen node'.state came → finished ≡ is_finish (Some event)
    → ended ≡ ended_by (answered reply)
    → given ≡ sent_by (answered reply) → All IsMessage given → behind ≡ node'.state
    → waits ≡ waits_behind (Some event) given behind here.waits
    → sent ≡ here.text ++ send_lines given → changed ≡ sent ++ news finished came.group came.taken.items came.dropped.items
    → text ≡ changed ++ gone_news (Some event) ended
    → Turns disks old (record here { node = node'; text = text; waits = waits }) (λ i n. MayComeOf i n event) ended
turn_so {Disk} disks old here node' event reply ended finished seen came behind given waits sent changed text is id nodes steps stuck memory
    mounting fallen counts says sees are finish ends_so given_so fits then waited first second third =
    subst (λ (p : Progress Disk). Turns disks p (record here { node = node'; text = text; waits = waits }) (λ i n. MayComeOf i n event)
    ended) is
    (subst (λ (e : CallEnd). Turns disks here (record here { node = node'; text = text; waits = waits }) (λ i n. MayComeOf i n event) e)
    (sym ends_so)
    (event_turns disks here node' event reply seen came waits sent changed text id nodes steps stuck memory mounting fallen counts says
    (subst (All IsMessage) given_so fits)
    (waited ∙ (ap (λ (ms : List Envelope). waits_behind (Some event) ms behind here.waits) given_so
    ∙ ap (λ (v : State). waits_behind (Some event) (sent_by (answered reply)) v here.waits) then))
    (first ∙ ap (λ (ms : List Envelope). here.text ++ send_lines ms) given_so) sees are
    (second ∙ ap (λ (b : Bool). sent ++ news b came.group came.taken.items came.dropped.items) finish)
    (third ∙ ap (λ (e : CallEnd). changed ++ gone_news (Some event) e) ends_so)))

-- ---- a compaction

record OfCompaction {A : Type 0} (self nodes slots : ℕ) (s : NodeState) (what : HistoryEvent) (result : Result A NodeFault) : Type 0 where
  pub of : IsOfCompaction what
  pub of_slots : IsOfSlots slots self nodes s what
  pub ended : compaction_end result ≡ end_at self nodes s what
  pub silent : sent_at self nodes s what ≡ []
  pub causeless : event_of what ≡ None

rest_of_compaction : {A : Type 0} (self nodes slots : ℕ) (s : NodeState) (rest : NoOpKind) (result : Result A NodeFault)
    → RestAnswers rest result → OfCompaction self nodes slots s (NoOp rest) result
rest_of_compaction self nodes slots s Nothing result said = absurd said
rest_of_compaction self nodes slots s Compacted (Ok done) said =
    record { of = tt; of_slots = tt; ended = refl; silent = refl; causeless = refl }
rest_of_compaction self nodes slots s Compacted (Err fault) said = absurd cc
rest_of_compaction self nodes slots s CompactDown result said =
    record { of = tt; of_slots = tt; ended = ap compaction_end said; silent = refl; causeless = refl }
rest_of_compaction self nodes slots s CompactAreaExhausted result said =
    record { of = tt; of_slots = tt; ended = ap compaction_end said; silent = refl; causeless = refl }

of_compaction : {A : Type 0} (self nodes slots : ℕ) (s : NodeState) (what : HistoryEvent) (result : Result A NodeFault)
    → CompactionAnswers what result → OfCompaction self nodes slots s what result
of_compaction self nodes slots s (NoOp rest) result said = rest_of_compaction self nodes slots s rest result said
of_compaction self nodes slots s Crashed result said = record {
  of = tt;
  of_slots = tt;
  ended = ap compaction_end said;
  silent =
      refl;
  causeless = refl;
}
of_compaction self nodes slots s what result said = absurd said

silent_text : (x y : State) (ended : CallEnd) → changes false x y ≡ call_text None [] x y ended
silent_text x y (Ok None) = sym (append-nil (changes false x y))
silent_text x y (Ok (Some id)) = sym (append-nil (changes false x y))
silent_text x y (Err fault) = sym (append-nil (changes false x y))

pub compaction_turns : {Disk : Type 0} (disks : Disk → DiskState) (old : Progress Disk) (node' : Node Disk) (result : Result Unit NodeFault)
    (waits : Waits) (text : List ℕ)
    → node'.id ≡ old.node.id → node'.nodes ≡ old.node.nodes → CompactionSays disks old.node result node'
    → waits ≡ waits_behind None [] node'.state old.waits → text ≡ old.text ++ changes false old.node.state node'.state
    → Turns disks old (record old { node = node'; text = text; waits = waits }) MayCompact (compaction_end result)
compaction_turns {Disk} disks old node' result waits text id nodes says waited said = record {
  node = same_node disks old.node node' result id nodes says.counts;
  same = refl;
  turned = λ was s is stands. (let step = says.step was s is stands in
      let what = step.0 in
      let self = old.node.id in
      let count = old.node.nodes in
      let of = of_compaction self count (slots_for (disks was).sectors) s what result step.1 in
      let t = after self count s what in
      record {
        turn = Goes what;
        may = (of.of, step.2, of.of_slots);
        exact = subst (λ (o : Option Event). IsCallBy disks o old.node (sent_at self count s what) (end_at self count s what) node')
            (sym of.causeless)
            (record { result = result; ended_so = sym of.ended; says = says });
        messages = subst (All IsMessage) (sym of.silent) (All-nil IsMessage);
        honest = λ honest. tt;
        stands = step.3;
        ended_so = of.ended;
        text = said ∙ (ap (λ (u : List ℕ). old.text ++ u) (silent_text old.node.state node'.state (compaction_end result))
            ∙ (ap (λ (v : State). old.text ++ call_text None [] v node'.state (compaction_end result)) stands.state
            ∙ (ap (λ (v : State). old.text ++ call_text None [] s.state v (compaction_end result)) step.3.state
            ∙ (ap (λ (ms : List Envelope). old.text ++ call_text None ms s.state t.state (compaction_end result)) (sym of.silent)
            ∙ (ap (λ (e : Option Event). old.text ++ call_text e (sent_at self count s what) s.state t.state (compaction_end result))
            (sym of.causeless)
            ∙ ap (λ (e : CallEnd). old.text ++ call_text (event_of what) (sent_at self count s what) s.state t.state e) of.ended)))));
        waits = waited ∙ (ap (λ (v : State). waits_behind None [] v old.waits) step.3.state
            ∙ (ap (λ (ms : List Envelope). waits_behind None ms t.state old.waits) (sym of.silent)
            ∙ ap (λ (e : Option Event). waits_behind e (sent_at self count s what) t.state old.waits) (sym of.causeless)));
      });
}

pub compaction_so : {Disk : Type 0} (disks : Disk → DiskState) (old here : Progress Disk) (node' : Node Disk)
    (result : Result Unit NodeFault) (ended : CallEnd) (seen : Sight) (came : Changes) (behind : State) (waits : Waits) (text : List ℕ)
    → here ≡ old → node'.id ≡ here.node.id → node'.nodes ≡ here.node.nodes → CompactionSays disks here.node result node'
    → seen ≡ seen_of hand.Turns here.node.state → AreChangesSince seen node'.state came → ended ≡ compaction_end result
    → behind ≡ node'.state → waits ≡ waits_behind None [] behind here.waits
    → text ≡ here.text ++ news false came.group came.taken.items came.dropped.items
    → Turns disks old (record here { node = node'; text = text; waits = waits }) MayCompact ended
compaction_so {Disk} disks old here node' result ended seen came behind waits text is id nodes says sees are ends_so then waited said =
    subst (λ (p : Progress Disk). Turns disks p (record here { node = node'; text = text; waits = waits }) MayCompact ended) is
    (subst (λ (e : CallEnd). Turns disks here (record here { node = node'; text = text; waits = waits }) MayCompact e) (sym ends_so)
    (compaction_turns disks here node' result waits text id nodes says (waited ∙ ap (λ (v : State). waits_behind None [] v here.waits) then)
    (changed_so false here.node.state node'.state came here.text text
    ((subst (λ (x : Sight). AreChangesSince x node'.state came) sees are).are here.node.state refl tt) said)))
