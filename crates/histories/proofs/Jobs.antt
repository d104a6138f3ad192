-- The work in hand is a job of its origin.
use Rattle.std.proofs.Common.{◌≡◌, ℕ, List, [], ◌∷◌, length, slice_get, refl, sym, subst, inl, inr, Option, Some}
use Rattle.job_model.specs.declared.work.Work.{Work}
use Rattle.group_task.specs.Assignment.{Assignment}
use Rattle.job_model.specs.declared.job.Job.{Job}
use Rattle.wire_msg.specs.Envelope.{Envelope}
use Rattle.wire_msg.specs.declared.body.Body.{Body}
use Rattle.wire_msg.specs.declared.body.Body.TheVariants.{Work as WorkMessage}
use Rattle.node_core.specs.declared.event.Event.{Event}
use Rattle.node_core.specs.State.{State}
use Rattle.histories.specs.Lists.{IsAmong}
use Rattle.histories.specs.NodeState.{NodeState, opening}
use Rattle.histories.specs.declared.history_event.HistoryEvent.{HistoryEvent}
use Rattle.histories.specs.HistoryEvent.{Entry, event_of, brought}
use Rattle.histories.specs.After.{after, sent_at, given_at}
use Rattle.histories.specs.Possible.{IsPossible}
use Rattle.histories.specs.History.{Follows, states, vectors, brought_in, sent_in}
use Rattle.histories.specs.Jobs.{IsJobOf, WorkIsJob}
use Rattle.histories.proofs.Among.{sent_by_one, each_append, each_split, each_at, each_of, each_more}
use Rattle.histories.proofs.Anything.{AnyGroup, AnyWork, knows_any}
use Rattle.histories.proofs.Moves.{SaysIn, Says, WorkIn, AllWork, JobsHold, Held, HandHolds}
use Rattle.histories.proofs.Entries.{entry_does}

-- what is said of work
says_work : (J : ℕ → ℕ → Work → Type 0) (self sender receiver : ℕ) (made : List Assignment) (event : Option Event) (body : Body)
    → SaysIn AnyGroup J self made event sender receiver body → WorkIn J sender body
says_work J self sender receiver made event (WorkMessage group id work) h = h.1
says_work J self sender receiver made event body h = tt

first_state : (self nodes : ℕ) (s : NodeState) (es : List Entry) → IsAmong s (states self nodes s es)
first_state self nodes s [] = inl refl
first_state self nodes s (e ∷ es) = inl refl

-- each pending job of each state is known
abbrev pub StatesKnown : (ℕ → ℕ → Work → Type 0) → ℕ → ℕ → NodeState → List Entry → Type 0
StatesKnown P self nodes s es = (t : NodeState) → IsAmong t (states self nodes s es) → JobsHold P self t.durable.pending

entry_sends : (J : ℕ → ℕ → Work → Type 0) (self nodes : ℕ) (s : NodeState) (what : HistoryEvent) → IsPossible self nodes s what
    → JobsHold J self s.durable.pending → JobsHold J self (after self nodes s what).durable.pending
    → AllWork J (sent_at self nodes s what)
entry_sends J self nodes s what may now next =
    let row = entry_does AnyGroup J AnyWork self nodes s what may in
    each_more (Says AnyGroup J self row.made (event_of what)) (λ (m : Envelope). WorkIn J m.sender m.body) (sent_at self nodes s what)
    (λ m h. says_work J self m.sender m.receiver row.made (event_of what) m.body h)
    (row.says (knows_any self s.state (given_at self nodes s what) (brought (event_of what))) now next)

all_work_sent : (J : ℕ → ℕ → Work → Type 0) (self nodes : ℕ) (s : NodeState) (es : List Entry) → Follows self nodes s es
    → StatesKnown J self nodes s es → AllWork J (sent_in es)
all_work_sent J self nodes s [] follows h = tt
all_work_sent J self nodes s (e ∷ es) follows h = each_append (λ (m : Envelope). WorkIn J m.sender m.body) e.sent (sent_in es)
    (subst (λ (ms : List Envelope). AllWork J ms) (sym follows.1)
    (entry_sends J self nodes s e.what follows.0 (h s (inl refl))
    (h (after self nodes s e.what) (inr (first_state self nodes (after self nodes s e.what) es)))))
    (all_work_sent J self nodes (after self nodes s e.what) es follows.2 (λ t i. h t (inr i)))

all_hands : (Q : ℕ → ℕ → Work → Type 0) (self nodes : ℕ) (s : NodeState) (es : List Entry) → Follows self nodes s es
    → StatesKnown Q self nodes s es → AllWork Q (brought_in es) → HandHolds Q self s.state
    → (v : State) → IsAmong v (vectors self nodes s es) → HandHolds Q self v
all_hands Q self nodes s [] follows h came held v i = elim i [
  | inl e ↦ subst (λ (x : State). HandHolds Q self x) (sym e) held
  | inr none ↦ absurd none
]
all_hands Q self nodes s (e ∷ es) follows h came held v i =
    let parts = each_split (λ (m : Envelope). WorkIn Q m.sender m.body) (brought (event_of e.what)) (brought_in es) came in
    let now = h s (inl refl) in
    let next = h (after self nodes s e.what) (inr (first_state self nodes (after self nodes s e.what) es)) in
    elim i [
      | inl is ↦ subst (λ (x : State). HandHolds Q self x) (sym is) held
      | inr later ↦ all_hands Q self nodes (after self nodes s e.what) es follows.2 (λ t j. h t (inr j)) parts.1
          ((entry_does AnyGroup AnyWork Q self nodes s e.what follows.0).holds now next parts.0 held) v later
    ]

states_known : (hs : List (List Entry)) (n : ℕ) (h : List Entry) → slice_get hs n ≡ Some h
    → StatesKnown (IsJobOf hs) n (length hs) (opening n) h
states_known hs n h at t i = each_of (λ (job : Job). IsJobOf hs n job.id job.work) t.durable.pending (λ j k. record {
  history = h;
  at =
      at;
  state = t;
  is_state = i;
  job = j;
  pending = k;
  of_id = refl;
  of_work = refl;
})

pub work_is_job : WorkIsJob
work_is_job hs bundle n v moment w i =
    (each_at (Held (IsJobOf hs) n v.phase v.task) v.hand w
    (all_hands (IsJobOf hs) n (length hs) (opening n) moment.0 (bundle.follows n moment.0 moment.1) (states_known hs n moment.0 moment.1)
    (each_of (λ (m : Envelope). WorkIn (IsJobOf hs) m.sender m.body) (brought_in moment.0) (λ m j.
    (let from = sent_by_one m hs (bundle.delivers n moment.0 moment.1 m j) in
    each_at (λ (m : Envelope). WorkIn (IsJobOf hs) m.sender m.body) (sent_in from.history) m
    (all_work_sent (IsJobOf hs) from.node (length hs) (opening from.node) from.history (bundle.follows from.node from.history from.at)
    (states_known hs from.node from.history from.at)) from.sent)))
    tt v moment.2) i).2
