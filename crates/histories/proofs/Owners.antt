-- Each job that is done was finished by an owner of its queue.
use Rattle.std.proofs.Common.{◌≡◌, ◌⊎◌, ℕ, ◌+◌, Bool, true, false, ◌&&◌, ◌||◌, List, [], ◌∷◌, ◌++◌, length, slice_get, refl, sym, ◌∙◌, ap}
use Rattle.std.proofs.Common.{subst, inl, inr, Option, Some, None}
use Rattle.std.specs.Prelude.{◌==◌}
use Rattle.group_task.specs.Assignment.{Assignment, owner_of}
use Rattle.job_model.specs.declared.node_command.NodeCommand.{NodeCommand as Command}
use Rattle.job_model.specs.declared.node_command.NodeCommand.TheVariants.{Raise, Done}
use Rattle.job_model.specs.Durable.{Durable}
use Rattle.wire_msg.specs.Envelope.{Envelope}
use Rattle.wire_msg.specs.declared.body.Body.{Body}
use Rattle.wire_msg.specs.declared.body.Body.TheVariants.{Done as DoneMessage}
use Rattle.node_core.specs.declared.phase.Phase.{Phase}
use Rattle.node_core.specs.declared.in_hand.InHand.{InHand}
use Rattle.node_core.specs.declared.event.Event.{Event}
use Rattle.node_core.specs.declared.event.Event.TheVariants.{Deliver, Finish}
use Rattle.node_core.specs.State.{State}
use Rattle.node_core.specs.Words.{members_of, holds}
use Rattle.histories.specs.Lists.{IsAmong, Each}
use Rattle.histories.specs.NodeState.{NodeState, opening, wants_at}
use Rattle.histories.specs.declared.history_event.HistoryEvent.{HistoryEvent}
use Rattle.histories.specs.declared.history_event.HistoryEvent.TheVariants.{Did, Refused, Faulted, NoOp, Crashed, Recovered, MountFailed}
use Rattle.histories.specs.declared.history_event.HistoryEvent.TheVariants.{RaiseFailed, RaiseRefused}
use Rattle.histories.specs.HistoryEvent.{Entry, event_of, brought}
use Rattle.histories.specs.After.{after, sent_at, given_at}
use Rattle.histories.specs.Possible.{Takes, IsPossible}
use Rattle.histories.specs.History.{Follows, brought_in, sent_in, vectors}
use Rattle.histories.specs.declared.attempt.Attempt.{Attempt}
use Rattle.histories.specs.Marks.{Mark, Acknowledged, Unanswered, Mounted, commands_of, tried_marks, failed_marks, marks_at, marks_from}
use Rattle.histories.specs.Owners.{acted, acted_in, HasWork, FinishedBy, OwnerFinishes, OneWorker}
use Rattle.histories.proofs.Tests.{eq_nat, and_left, and_right}
use Rattle.histories.proofs.Among.{among_left, among_right, among_either, sent_by_one, each_at}
use Rattle.histories.proofs.Anything.{AnyGroup, AnyWork, knows_any, any_pending, all_any_work}
use Rattle.histories.proofs.Moves.{Held, HandHolds, SaysIn, Says}
use Rattle.histories.proofs.Entries.{entry_does, held_finish, addressed}
use Rattle.histories.proofs.Wanted.{Cause, causes}
use Rattle.histories.proofs.OneBooks.{one_task}
use Rattle.histories.proofs.Counts.{each_bundle_rises}

-- what is in hand is owned
abbrev pub IsHeld : ℕ → Phase → Option Assignment → InHand → Type 0
IsHeld self phase task job = Held AnyWork self phase task job

abbrev pub OwnedAt : ℕ → NodeState → Type 0
OwnedAt self s = HandHolds AnyWork self s.state

pub owned_after : (self nodes : ℕ) (s : NodeState) (what : HistoryEvent) → IsPossible self nodes s what → OwnedAt self s
    → OwnedAt self (after self nodes s what)
owned_after self nodes s what may h =
    (entry_does AnyGroup AnyWork AnyWork self nodes s what may).holds (any_pending self s.durable.pending)
    (any_pending self (after self nodes s what).durable.pending) (all_any_work (brought (event_of what))) h

-- in one history: the work in hand at a moment, and its Finish
record FinishedIn (self nodes : ℕ) (s : NodeState) (es : List Entry) (origin id : ℕ) : Type 0 where
  finished : IsAmong (Finish origin id) (acted_in es)
  moment : State
  is_moment : IsAmong moment (vectors self nodes s es)
  has_work : HasWork self moment origin id

-- work of this origin and id, by cases on the hand
find_work : (self : ℕ) (v : State) (hand : List InHand) (origin id : ℕ) → Each (IsHeld self v.phase v.task) hand
    → holds hand origin id ≡ true → HasWork self (record v { hand = hand }) origin id
find_work self v [] origin id owned is = absurd cc
find_work self v (w ∷ ws) origin id owned is = by_head (w.origin == origin
    && w.id == id) refl is (λ k. find_work self v ws origin id owned.1 k)
  where
    by_head : (b : Bool) → (w.origin == origin && w.id == id) ≡ b → (b || holds ws origin id) ≡ true
        → (holds ws origin id ≡ true → HasWork self (record v { hand = ws }) origin id)
        → HasWork self (record v { hand = w ∷ ws }) origin id
    by_head true e k rest = record {
      is_normal = owned.0.0;
      job = w;
      held = inl refl;
      of_origin = eq_nat w.origin origin (and_left (w.origin == origin) (w.id == id) e);
      of_id = eq_nat w.id id (and_right (w.origin == origin) (w.id == id) e);
      owned = owned.0.1;
    }
    by_head false e k rest = (let it = rest k in record {
      is_normal = it.is_normal;
      job = it.job;
      held = inr it.held;
      of_origin =
          it.of_origin;
      of_id = it.of_id;
      owned = it.owned;
    })

pub has_work : (self : ℕ) (s : NodeState) (origin id : ℕ) → OwnedAt self s → holds s.state.hand origin id ≡ true
    → HasWork self s.state origin id
has_work self s origin id owned is = find_work self s.state s.state.hand origin id owned is

-- the entry itself is the Finish
finished_now : (self nodes : ℕ) (s : NodeState) (what : HistoryEvent) (sent : List Envelope) (es : List Entry) (event : Event)
    (origin id : ℕ) → OwnedAt self s → event ≡ Finish origin id
    → Takes self nodes s event → acted what ≡ event ∷ [] → FinishedIn self nodes s (record { what = what; sent = sent } ∷ es) origin id
finished_now self nodes s what sent es event origin id owned is may acts =
    let taken : Takes self nodes s (Finish origin id) = subst (λ (e : Event). Takes self nodes s e) is may in record {
      finished = rw acts (inl (sym is));
      moment = s.state;
      is_moment = inl refl;
      has_work = has_work self s origin id owned (held_finish nodes self origin id s.state taken.1.by_core).1;
    }

finished_later : (self nodes : ℕ) (s : NodeState) (e : Entry) (es : List Entry) (origin id : ℕ)
    → FinishedIn self nodes (after self nodes s e.what) es origin id → FinishedIn self nodes s (e ∷ es) origin id
finished_later self nodes s e es origin id h = record {
  finished = among_right (Finish origin id) (acted e.what) (acted_in es) h.finished;
  moment = h.moment;
  is_moment = inr h.is_moment;
  has_work = h.has_work;
}

-- a Done that an entry sends
pub done_said : (self nodes : ℕ) (s : NodeState) (what : HistoryEvent) (m : Envelope) (id : ℕ) → IsPossible self nodes s what
    → IsAmong m (sent_at self nodes s what) → m.body ≡ DoneMessage id → event_of what ≡ Some (Finish m.receiver id)
done_said self nodes s what m id may i body =
    let row = entry_does AnyGroup AnyWork AnyWork self nodes s what may in
    let said = row.says (knows_any self s.state (given_at self nodes s what) (brought (event_of what))) (any_pending self s.durable.pending)
    (any_pending self (after self nodes s what).durable.pending) in
    subst (λ (b : Body). SaysIn AnyGroup AnyWork self row.made (event_of what) m.sender m.receiver b) body
    (each_at (Says AnyGroup AnyWork self row.made (event_of what)) (sent_at self nodes s what) m said i)

the_event : (e f : Event) → Some e ≡ Some f → e ≡ f
the_event e f is = cc

sent_done : (self nodes : ℕ) (s : NodeState) (what : HistoryEvent) (sent : List Envelope) (es : List Entry) (m : Envelope) (id : ℕ)
    → OwnedAt self s → IsPossible self nodes s what
    → IsAmong m (sent_at self nodes s what) → m.body ≡ DoneMessage id
    → FinishedIn self nodes s (record { what = what; sent = sent } ∷ es) m.receiver id
sent_done self nodes s (Did event) sent es m id owned may i body =
    finished_now self nodes s (Did event) sent es event m.receiver id owned
    (the_event event (Finish m.receiver id) (done_said self nodes s (Did event) m id may i body)) may refl
sent_done self nodes s (Refused event fault) sent es m id owned may i body = absurd i
sent_done self nodes s (Faulted event) sent es m id owned may i body = absurd i
sent_done self nodes s (NoOp why) sent es m id owned may i body = absurd i
sent_done self nodes s Crashed sent es m id owned may i body = absurd i
sent_done self nodes s (Recovered kept) sent es m id owned may i body = absurd i
sent_done self nodes s MountFailed sent es m id owned may i body = absurd i
sent_done self nodes s (RaiseFailed kept) sent es m id owned may i body = absurd i
sent_done self nodes s (RaiseRefused kept) sent es m id owned may i body = absurd i

all_sent_done : (self nodes : ℕ) (s : NodeState) (es : List Entry) (m : Envelope) (id : ℕ) → OwnedAt self s → Follows self nodes s es
    → IsAmong m (sent_in es) → m.body ≡ DoneMessage id
    → FinishedIn self nodes s es m.receiver id
all_sent_done self nodes s [] m id owned follows i body = absurd i
all_sent_done self nodes s (e ∷ es) m id owned follows i body = elim (among_either m e.sent (sent_in es) i) [
  | inl now ↦ sent_done self nodes s e.what e.sent es m id owned follows.0 (subst (λ (ms : List Envelope). IsAmong m ms) follows.1 now) body
  | inr later ↦ finished_later self nodes s e es m.receiver id
      (all_sent_done self nodes (after self nodes s e.what) es m id (owned_after self nodes s e.what follows.0 owned) follows.2 later body)
]

-- a Done that was delivered
record WasDone (self : ℕ) (es : List Entry) (id : ℕ) : Type 0 where
  by : Envelope
  brought_here : IsAmong by (brought_in es)
  says : by.body ≡ DoneMessage id
  addressed : by.receiver ≡ self

-- why a job was finished
abbrev Because : ℕ → ℕ → NodeState → List Entry → ℕ → Type 0
Because self nodes s es id = FinishedIn self nodes s es self id ⊎ WasDone self es id

because_of : (self nodes : ℕ) (s : NodeState) (what : HistoryEvent) (sent : List Envelope) (es : List Entry) (event : Event) (id : ℕ)
    → OwnedAt self s → Cause self event id
    → Takes self nodes s event → acted what ≡ event ∷ [] → event_of what ≡ Some event
    → Because self nodes s (record { what = what; sent = sent } ∷ es) id
because_of self nodes s what sent es event id owned cause may acts is = elim cause [
  | inl own ↦ inl (finished_now self nodes s what sent es event self id owned own may acts)
  | inr told ↦ (let taken : Takes self nodes s (Deliver told.0) = subst (λ (e : Event). Takes self nodes s e) told.1 may in
      let here : event_of what ≡ Some (Deliver told.0) = is ∙ ap Some told.1 in inr (record {
        by = told.0;
        brought_here = among_left told.0 (brought (event_of what)) (brought_in es) (rw here (inl refl));
        says = told.2;
        addressed = addressed nodes self told.0 s.state taken.1.by_core;
      }))
]

tried_wants : (d : Durable) (wants : Option Command) (t : Attempt) (id : ℕ) → IsAmong t (commands_of (tried_marks d wants))
    → t.command ≡ Done id → wants ≡ Some (Done id)
tried_wants d None t id i c = absurd i
tried_wants d (Some x) t id i c = elim i [ inl e ↦ ap Some (ap (λ (y : Attempt). y.command) (sym e) ∙ c) | inr none ↦ absurd none ]

failed_wants : (wants : Option Command) (t : Attempt) (id : ℕ) → IsAmong t (commands_of (failed_marks wants)) → t.command ≡ Done id
    → wants ≡ Some (Done id)
failed_wants None t id i c = absurd i
failed_wants (Some x) t id i c = elim i [ inl e ↦ ap Some (ap (λ (y : Attempt). y.command) (sym e) ∙ c) | inr none ↦ absurd none ]

raise_only : (t : Attempt) (u : Attempt) (id : ℕ) → u.command ≡ Raise → t ≡ u → t.command ≡ Done id → ⊥
raise_only t u id raise e c = (let same : Raise ≡ Done id = sym raise ∙ (ap (λ (y : Attempt). y.command) (sym e) ∙ c) in absurd cc)

entry_because : (self nodes : ℕ) (s : NodeState) (n : ℕ) (what : HistoryEvent) (sent : List Envelope) (es : List Entry) (t : Attempt)
    (id : ℕ) → OwnedAt self s → IsPossible self nodes s what
    → IsAmong t (commands_of (marks_at self nodes s n what)) → t.command ≡ Done id
    → Because self nodes s (record { what = what; sent = sent } ∷ es) id
entry_because self nodes s n (Did event) sent es t id owned may i c =
    because_of self nodes s (Did event) sent es event id owned
    (causes self s.durable.pending event s.state id (tried_wants s.durable (wants_at self nodes s event) t id i c)) may refl refl
entry_because self nodes s n (Refused event fault) sent es t id owned may i c = absurd i
entry_because self nodes s n (NoOp why) sent es t id owned may i c = absurd i
entry_because self nodes s n (Faulted event) sent es t id owned may i c =
    because_of self nodes s (Faulted event) sent es event id owned
    (causes self s.durable.pending event s.state id (failed_wants (wants_at self nodes s event) t id i c)) may.0 refl refl
entry_because self nodes s n Crashed sent es t id owned may i c = absurd i
entry_because self nodes s n (Recovered kept) sent es t id owned may i c =
    elim i [ inl e ↦ absurd (raise_only t _ id refl e c) | inr none ↦ absurd none ]
entry_because self nodes s n MountFailed sent es t id owned may i c = absurd i
entry_because self nodes s n (RaiseFailed kept) sent es t id owned may i c =
    elim i [ inl e ↦ absurd (raise_only t _ id refl e c) | inr none ↦ absurd none ]
entry_because self nodes s n (RaiseRefused kept) sent es t id owned may i c = absurd i

pub commands_append : (ms ns : List Mark) → commands_of (ms ++ ns) ≡ commands_of ms ++ commands_of ns
commands_append [] ns = refl
commands_append (Acknowledged c a ∷ ms) ns = ap (λ (ts : List Attempt). record { command = c; acked = Some a } ∷ ts) (commands_append ms ns)
commands_append (Unanswered c ∷ ms) ns = ap (λ (ts : List Attempt). record { command = c; acked = None } ∷ ts) (commands_append ms ns)
commands_append (Mounted w ∷ ms) ns = commands_append ms ns

all_because : (self nodes : ℕ) (s : NodeState) (n : ℕ) (es : List Entry) (t : Attempt) (id : ℕ) → OwnedAt self s → Follows self nodes s es
    → IsAmong t (commands_of (marks_from self nodes s n es)) → t.command ≡ Done id → Because self nodes s es id
all_because self nodes s n [] t id owned follows i c = absurd i
all_because self nodes s n (e ∷ es) t id owned follows i c =
    let next : ℕ = n + length (commands_of (marks_at self nodes s n e.what)) in
    let rest : List Mark = marks_from self nodes (after self nodes s e.what) next es in
    let split : IsAmong t (commands_of (marks_at self nodes s n e.what) ++ commands_of rest) =
    subst (λ (ts : List Attempt). IsAmong t ts) (commands_append (marks_at self nodes s n e.what) rest) i in
    elim (among_either t (commands_of (marks_at self nodes s n e.what)) (commands_of rest) split) [
      | inl now ↦ entry_because self nodes s n e.what e.sent es t id owned follows.0 now c
      | inr later ↦ elim (all_because self nodes (after self nodes s e.what) next es t id (owned_after self nodes s e.what follows.0 owned)
          follows.2 later c) [
            | inl own ↦ inl (finished_later self nodes s e es self id own)
            | inr told ↦ inr (record {
              by = told.by;
              brought_here = among_right told.by (brought (event_of e.what)) (brought_in es)
                  told.brought_here;
              says = told.says;
              addressed = told.addressed;
            })
          ]
    ]

finished_by : (hs : List (List Entry)) (n : ℕ) (h : List Entry) (origin id : ℕ) → slice_get hs n ≡ Some h
    → FinishedIn n (length hs) (opening n) h origin id → FinishedBy hs origin id
finished_by hs n h origin id at it = record {
  worker = n;
  history = h;
  at = at;
  finished = it.finished;
  moment = it.moment;
  is_moment = (h, at, it.is_moment);
  has_work = it.has_work;
}

pub owner_finishes : OwnerFinishes
owner_finishes hs bundle n h at t id i c = elim i [
  | inl e ↦ absurd (raise_only t _ id refl e c)
  | inr j ↦ elim (all_because n (length hs) (opening n) 1 h t id tt (bundle.follows n h at) j c) [
    | inl own ↦ finished_by hs n h n id at own
    | inr told ↦ (let from = sent_by_one told.by hs (bundle.delivers n h at told.by told.brought_here) in
        let it = all_sent_done from.node (length hs) (opening from.node) from.history told.by id tt
        (bundle.follows from.node from.history from.at) from.sent told.says in
        finished_by hs from.node from.history n id from.at (subst (λ (o : ℕ).
        FinishedIn from.node (length hs) (opening from.node) from.history o id) told.addressed it))
  ]
]

owned_moment : (self nodes : ℕ) (s : NodeState) (es : List Entry) (v : State) → Follows self nodes s es → OwnedAt self s
    → IsAmong v (vectors self nodes s es) → HandHolds AnyWork self v
owned_moment self nodes s [] v follows owned i = elim i [
  | inl e ↦ subst (λ (x : State). HandHolds AnyWork self x) (sym e) owned
  | inr none ↦ absurd none
]
owned_moment self nodes s (e ∷ es) v follows owned i = elim i [
  | inl is ↦ subst (λ (x : State). HandHolds AnyWork self x) (sym is) owned
  | inr later ↦ owned_moment self nodes (after self nodes s e.what) es v follows.2 (owned_after self nodes s e.what follows.0 owned) later
]

pub one_worker : OneWorker
one_worker hs bundle n m v w at_v at_w normal_v normal_w same a b in_v in_w queue =
    let task : v.task ≡ w.task = one_task hs bundle (each_bundle_rises hs bundle) n m v w at_v at_w normal_v normal_w same in
    let mine = each_at (IsHeld n v.phase v.task) v.hand a (owned_moment n (length hs) (opening n) at_v.0 v (bundle.follows n at_v.0 at_v.1)
    tt at_v.2) in_v in
    let yours = each_at (IsHeld m w.phase w.task) w.hand b (owned_moment m (length hs) (opening m) at_w.0 w (bundle.follows m at_w.0 at_w.1)
    tt at_w.2) in_w in
    sym mine.1 ∙ (ap (λ (t : Option Assignment). owner_of (members_of t) a.work.queue) task
    ∙ (ap (λ (q : ℕ). owner_of (members_of w.task) q) queue ∙ yours.1))
