-- The work in hand is a job that its keeper had pending.
use Rattle.std.proofs.Common.{◌≡◌, ℕ, List, [], ◌∷◌, length, slice_get, refl, sym, subst, inl, inr, Option, Some, None, IfSome}
use Rattle.job_model.specs.declared.job.Job.{Job}
use Rattle.job_model.specs.declared.work.Work.{Work}
use Rattle.group_task.specs.Group.{Group}
use Rattle.group_task.specs.Assignment.{Assignment, owner_of}
use Rattle.wire_msg.specs.Envelope.{Envelope}
use Rattle.wire_msg.specs.Kinds.{group_in}
use Rattle.wire_msg.specs.declared.body.Body.{Body}
use Rattle.wire_msg.specs.declared.body.Body.TheVariants.{Work as WorkMessage}
use Rattle.node_core.specs.declared.event.Event.{Event}
use Rattle.node_core.specs.declared.in_hand.InHand.{InHand}
use Rattle.node_core.specs.declared.phase.Phase.TheVariants.{Normal}
use Rattle.node_core.specs.State.{State}
use Rattle.node_core.specs.Words.{members_of}
use Rattle.histories.specs.Lists.{Each, IsAmong}
use Rattle.histories.specs.Named.{AllHold}
use Rattle.histories.specs.NodeState.{NodeState}
use Rattle.histories.specs.HistoryEvent.{Entry, event_of, brought}
use Rattle.histories.specs.declared.history_event.HistoryEvent.{HistoryEvent}
use Rattle.histories.specs.declared.history_event.HistoryEvent.TheVariants.{Refused}
use Rattle.histories.specs.After.{after, given_at, sent_at}
use Rattle.histories.specs.Possible.{IsPossible}
use Rattle.histories.specs.History.{Follows, sent_in, states, vectors}
use Rattle.histories.proofs.PublicLaws.{AnyGroup, GivenHold, Knows, Says, SaysIn, among_either, among_left, among_right, each_at, each_of}
use Rattle.histories.proofs.PublicLaws.{entry_does}
use Rattle.processes.specs.Files.{FileHistory, at_first, taken, taken_in}
use Rattle.processes.specs.Jobs.{WasPending, WorkIsJob}

-- ---- what is known of any groups

any_task : (t : Option Assignment) → IfSome t (λ (x : Assignment). AnyGroup x.group)
any_task None = tt
any_task (Some t) = tt

any_named : (named : Option Group) → IfSome named AnyGroup
any_named None = tt
any_named (Some group) = tt

any_came : (ms : List Envelope) → AllHold AnyGroup ms
any_came [] = tt
any_came (m ∷ ms) = (any_named (group_in m.body), any_came ms)

any_given : (self : ℕ) (ks : List ℕ) → GivenHold AnyGroup self ks
any_given self [] = tt
any_given self (k ∷ ks) = (tt, any_given self ks)

knows_any : (self : ℕ) (s : State) (given : List ℕ) (came : List Envelope) → Knows AnyGroup self s given came
knows_any self s given came = record { place = λ up. (tt, any_task s.task); fresh = any_given self given; heard = any_came came }

-- ---- jobs, work that is sent, and work in hand

abbrev AllKnown : (ℕ → ℕ → Work → Type 0) → ℕ → List Job → Type 0
AllKnown Q self jobs = Each (λ (job : Job). Q self job.id job.work) jobs

-- Q holds of the job that a message brings
abbrev WorkIn : (ℕ → ℕ → Work → Type 0) → ℕ → Body → Type 0
WorkIn Q sender (WorkMessage group id work) = Q sender id work
WorkIn Q sender body = Unit {0}

abbrev Held : (ℕ → ℕ → Work → Type 0) → ℕ → State → Type 0
Held Q self v = Each (λ (job : InHand). (v.phase ≡ Normal) × (owner_of (members_of v.task) job.work.queue ≡ self)
    × Q job.origin job.id job.work) v.hand

says_work : (Q : ℕ → ℕ → Work → Type 0) (self : ℕ) (made : List Assignment) (event : Option Event) (sender receiver : ℕ) (body : Body)
    → SaysIn AnyGroup Q self made event sender receiver body → WorkIn Q sender body
says_work Q self made event sender receiver (WorkMessage group id work) says = says.1
says_work Q self made event sender receiver body says = tt

first_state : (self nodes : ℕ) (s : NodeState) (es : List Entry) → IsAmong s (states self nodes s es)
first_state self nodes s [] = inl refl
first_state self nodes s (e ∷ es) = inl refl

-- what an entry sends, where Q holds of the jobs of all states
work_sent : (Q : ℕ → ℕ → Work → Type 0) (self nodes : ℕ) (s : NodeState) (es : List Entry) (m : Envelope)
    → ((t : NodeState) → IsAmong t (states self nodes s es) → AllKnown Q self t.durable.pending) → Follows self nodes s es
    → IsAmong m (sent_in es) → WorkIn Q m.sender m.body
work_sent Q self nodes s [] m known follows i = absurd i
work_sent Q self nodes s (e ∷ es) m known follows i = elim (among_either m e.sent (sent_in es) i) [
  | inl now ↦ (let row = entry_does AnyGroup Q Q self nodes s e.what follows.0 in
      let said = row.says (knows_any self s.state (given_at self nodes s e.what) (brought (event_of e.what))) (known s (inl refl))
      (known (after self nodes s e.what) (inr (first_state self nodes (after self nodes s e.what) es))) in
      says_work Q self row.made (event_of e.what) m.sender m.receiver m.body
      (each_at (Says AnyGroup Q self row.made (event_of e.what)) (sent_at self nodes s e.what) m said
      (subst (λ (ms : List Envelope). IsAmong m ms) follows.1 now)))
  | inr later ↦ work_sent Q self nodes (after self nodes s e.what) es m (λ t j. known t (inr j)) follows.2 later
]

-- the hand after an entry
hand_after : (Q : ℕ → ℕ → Work → Type 0) (self nodes : ℕ) (s : NodeState) (what : HistoryEvent) → IsPossible self nodes s what
    → AllKnown Q self s.durable.pending → AllKnown Q self (after self nodes s what).durable.pending
    → ((m : Envelope) → IsAmong m (taken what) → WorkIn Q m.sender m.body) → Held Q self s.state
    → Held Q self (after self nodes s what).state
hand_after Q self nodes s (Refused event fault) may before behind brings h = h
hand_after Q self nodes s what may before behind brings h =
    (entry_does AnyGroup Q Q self nodes s what may).holds before behind
    (each_of (λ (m : Envelope). WorkIn Q m.sender m.body) (brought (event_of what)) brings) h

hands : (Q : ℕ → ℕ → Work → Type 0) (self nodes : ℕ) (s : NodeState) (es : List Entry) (v : State)
    → ((t : NodeState) → IsAmong t (states self nodes s es) → AllKnown Q self t.durable.pending)
    → ((m : Envelope) → IsAmong m (taken_in es) → WorkIn Q m.sender m.body)
    → Follows self nodes s es → Held Q self s.state → IsAmong v (vectors self nodes s es) → Held Q self v
hands Q self nodes s [] v known brings follows h i = elim i [ inl e ↦ subst (Held Q self) (sym e) h | inr none ↦ absurd none ]
hands Q self nodes s (e ∷ es) v known brings follows h i = elim i [
  | inl is ↦ subst (Held Q self) (sym is) h
  | inr later ↦ hands Q self nodes (after self nodes s e.what) es v (λ t j. known t (inr j))
      (λ m j. brings m (among_right m (taken e.what) (taken_in es) j)) follows.2
      (hand_after Q self nodes s e.what follows.0 (known s (inl refl))
      (known (after self nodes s e.what) (inr (first_state self nodes (after self nodes s e.what) es)))
      (λ m j. brings m (among_left m (taken e.what) (taken_in es) j)) h) later
]

-- ---- the law

pub work_is_job : WorkIsJob
work_is_job cluster over n v moment w i =
    let nodes = length cluster in
    let Q : ℕ → ℕ → Work → Type 0 = λ origin id work. WasPending cluster origin id work in
    let known : (k : ℕ) (node : FileHistory) → slice_get cluster k ≡ Some node → (t : NodeState)
    → IsAmong t (states k nodes (at_first k node.file) node.entries) → AllKnown Q k t.durable.pending =
    λ k node at t j. each_of (λ (job : Job). Q k job.id job.work) t.durable.pending (λ job among. (node, at, t, j, among)) in
    let brings : (m : Envelope) → IsAmong m (taken_in moment.0.entries) → WorkIn Q m.sender m.body =
    λ m j. (let from = over.delivers n moment.0 moment.1 m j in
    work_sent Q from.0 nodes (at_first from.0 from.1.file) from.1.entries m (known from.0 from.1 from.2)
    (over.follows from.0 from.1 from.2) from.3) in
    let all = hands Q n nodes (at_first n moment.0.file) moment.0.entries v (known n moment.0 moment.1) brings
    (over.follows n moment.0 moment.1) tt moment.2 in
    (each_at (λ (job : InHand). (v.phase ≡ Normal) × (owner_of (members_of v.task) job.work.queue ≡ n)
    × Q job.origin job.id job.work) v.hand w all i).2
