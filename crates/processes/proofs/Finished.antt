-- Each job that is taken out of a journal was finished by an owner of its queue.
use Rattle.std.proofs.Common.{◌≡◌, ◌⊎◌, ℕ, List, [], ◌∷◌, length, slice_get, refl, sym, subst, inl, inr, Some, None}
use Rattle.job_model.specs.declared.node_command.NodeCommand.TheVariants.{Done}
use Rattle.wire_msg.specs.Envelope.{Envelope}
use Rattle.wire_msg.specs.declared.body.Body.TheVariants.{Done as DoneMessage}
use Rattle.node_core.specs.declared.event.Event.{Event}
use Rattle.node_core.specs.declared.event.Event.TheVariants.{Deliver, Finish}
use Rattle.node_core.specs.State.{State}
use Rattle.histories.specs.Lists.{IsAmong}
use Rattle.histories.specs.NodeState.{NodeState, wants_at}
use Rattle.histories.specs.declared.history_event.HistoryEvent.{HistoryEvent}
use Rattle.histories.specs.declared.history_event.HistoryEvent.TheVariants.{Did, Faulted}
use Rattle.histories.specs.HistoryEvent.{Entry}
use Rattle.histories.specs.After.{after, sent_at}
use Rattle.histories.specs.Possible.{IsPossible, Takes}
use Rattle.histories.specs.History.{Follows, sent_in, vectors}
use Rattle.histories.specs.Owners.{HasWork, acted, acted_in}
use Rattle.histories.proofs.PublicLaws.{OwnedAt, among_either, among_left, among_right, causes, done_said, has_work, held_finish}
use Rattle.histories.proofs.PublicLaws.{owned_after}
use Rattle.processes.specs.Files.{FileHistory, at_first, taken, taken_in}
use Rattle.processes.specs.Jobs.{DoneWasFinished, Tries, WasFinished, tried}
use Rattle.processes.proofs.Embedding.{entry_takes}

-- in the entries of one node: a moment with the work, and that it is finished
record FinishedIn (self nodes : ℕ) (s : NodeState) (es : List Entry) (origin id : ℕ) : Type 0 where
  finished : IsAmong (Finish origin id) (acted_in es)
  moment : State
  is_moment : IsAmong moment (vectors self nodes s es)
  has_work : HasWork self moment origin id

finished_now : (self nodes : ℕ) (s : NodeState) (e : Entry) (es : List Entry) (event : Event) (origin id : ℕ) → OwnedAt self s
    → event ≡ Finish origin id → Takes self nodes s event → acted e.what ≡ event ∷ [] → FinishedIn self nodes s (e ∷ es) origin id
finished_now self nodes s e es event origin id owned is may acts =
    let taken : Takes self nodes s (Finish origin id) = subst (λ (x : Event). Takes self nodes s x) is may in record {
      finished = rw acts (inl (sym is));
      moment = s.state;
      is_moment = inl refl;
      has_work = has_work self s origin id owned (held_finish nodes self origin id s.state taken.1.by_core).1;
    }

finished_later : (self nodes : ℕ) (s : NodeState) (e : Entry) (es : List Entry) (origin id : ℕ)
    → FinishedIn self nodes (after self nodes s e.what) es origin id → FinishedIn self nodes s (e ∷ es) origin id
finished_later self nodes s e es origin id it = record {
  finished = among_right (Finish origin id) (acted e.what) (acted_in es) it.finished;
  moment = it.moment;
  is_moment = inr it.is_moment;
  has_work = it.has_work;
}

-- the entry that says that a job is done
sent_done : (self nodes : ℕ) (s : NodeState) (what : HistoryEvent) (es : List Entry) (sent : List Envelope) (m : Envelope) (id : ℕ)
    → OwnedAt self s → IsPossible self nodes s what → IsAmong m (sent_at self nodes s what) → m.body ≡ DoneMessage id
    → FinishedIn self nodes s (record { what = what; sent = sent } ∷ es) m.receiver id
sent_done self nodes s (Did event) es sent m id owned may i body =
    let is : event ≡ Finish m.receiver id = cc (done_said self nodes s (Did event) m id may i body) in
    finished_now self nodes s (record { what = Did event; sent = sent }) es event m.receiver id owned is may refl
sent_done self nodes s what es sent m id owned may i body = absurd i

all_sent_done : (self nodes : ℕ) (s : NodeState) (es : List Entry) (m : Envelope) (id : ℕ) → OwnedAt self s → Follows self nodes s es
    → IsAmong m (sent_in es) → m.body ≡ DoneMessage id → FinishedIn self nodes s es m.receiver id
all_sent_done self nodes s [] m id owned follows i body = absurd i
all_sent_done self nodes s (e ∷ es) m id owned follows i body = elim (among_either m e.sent (sent_in es) i) [
  | inl now ↦ sent_done self nodes s e.what es e.sent m id owned follows.0 (subst (λ (ms : List Envelope). IsAmong m ms) follows.1 now) body
  | inr later ↦ finished_later self nodes s e es m.receiver id
      (all_sent_done self nodes (after self nodes s e.what) es m id (owned_after self nodes s e.what follows.0 owned) follows.2 later body)
]

-- or it was told so
record WasTold (self : ℕ) (es : List Entry) (id : ℕ) : Type 0 where
  by : Envelope
  taken : IsAmong by (taken_in es)
  says : by.body ≡ DoneMessage id
  addressed : by.receiver ≡ self

abbrev Because : ℕ → ℕ → NodeState → List Entry → ℕ → Type 0
Because self nodes s es id = FinishedIn self nodes s es self id ⊎ WasTold self es id

event_because : (self nodes : ℕ) (s : NodeState) (e : Entry) (es : List Entry) (event : Event) (id : ℕ) → OwnedAt self s
    → IsPossible self nodes s e.what → Takes self nodes s event → acted e.what ≡ event ∷ []
    → ((m : Envelope) → event ≡ Deliver m → IsAmong m (taken e.what))
    → wants_at self nodes s event ≡ Some (Done id) → Because self nodes s (e ∷ es) id
event_because self nodes s e es event id owned may takes acts brings wants = elim (causes self s.durable.pending event s.state id wants) [
  | inl own ↦ inl (finished_now self nodes s e es event self id owned own takes acts)
  | inr told ↦ (let here = brings told.0 told.1 in inr (record {
    by = told.0;
    taken = among_left told.0 (taken e.what) (taken_in es) here;
    says = told.2;
    addressed = (entry_takes self nodes s e.what told.0 may here).1;
  }))
]

entry_because : (self nodes : ℕ) (s : NodeState) (what : HistoryEvent) (sent : List Envelope) (es : List Entry) (id : ℕ) → OwnedAt self s
    → IsPossible self nodes s what → tried self nodes s what ≡ Some (Done id)
    → Because self nodes s (record { what = what; sent = sent } ∷ es) id
entry_because self nodes s (Did event) sent es id owned may is =
    event_because self nodes s (record { what = Did event; sent = sent }) es event id owned may may refl (λ m e. rw e (inl refl)) is
entry_because self nodes s (Faulted event) sent es id owned may is =
    event_because self nodes s (record { what = Faulted event; sent = sent }) es event id owned may may.0 refl (λ m e. rw e (inl refl)) is
entry_because self nodes s what sent es id owned may is = absurd (let none : None ≡ Some (Done id) = is in cc)

all_because : (self nodes : ℕ) (s : NodeState) (es : List Entry) (id : ℕ) → OwnedAt self s → Follows self nodes s es
    → Tries self nodes s es (Done id) → Because self nodes s es id
all_because self nodes s [] id owned follows i = absurd i
all_because self nodes s (e ∷ es) id owned follows i = elim i [
  | inl now ↦ entry_because self nodes s e.what e.sent es id owned follows.0 now
  | inr later ↦ elim (all_because self nodes (after self nodes s e.what) es id (owned_after self nodes s e.what follows.0 owned) follows.2
      later) [
        | inl own ↦ inl (finished_later self nodes s e es self id own)
        | inr told ↦ inr (record {
          by = told.by;
          taken = among_right told.by (taken e.what) (taken_in es) told.taken;
          says = told.says;
          addressed = told.addressed;
        })
      ]
]

finished_by : (cluster : List FileHistory) (n : ℕ) (node : FileHistory) (origin id : ℕ) → slice_get cluster n ≡ Some node
    → FinishedIn n (length cluster) (at_first n node.file) node.entries origin id → WasFinished cluster origin id
finished_by cluster n node origin id at it = record {
  worker = n;
  node = node;
  at = at;
  finished = it.finished;
  moment = it.moment;
  is_moment = (node, at, it.is_moment);
  has_work = it.has_work;
}

pub done_was_finished : DoneWasFinished
done_was_finished cluster over n node at id tries =
    elim (all_because n (length cluster) (at_first n node.file) node.entries id tt (over.follows n node at) tries) [
      | inl own ↦ finished_by cluster n node n id at own
      | inr told ↦ (let from = over.delivers n node at told.by told.taken in
          let it = all_sent_done from.0 (length cluster) (at_first from.0 from.1.file) from.1.entries told.by id tt
          (over.follows from.0 from.1 from.2) from.3 told.says in
          finished_by cluster from.0 from.1 n id from.2 (subst (λ (o : ℕ).
          FinishedIn from.0 (length cluster) (at_first from.0 from.1.file) from.1.entries o id) told.addressed it))
    ]
