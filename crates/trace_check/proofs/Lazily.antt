-- A dispatch that is put off: what it would make of a node that stands as where it opens, and that nothing of it is left behind a recovery.
use Rattle.std.proofs.Common.{◌≡◌, ℕ, ◌%◌, Bool, true, false, List, [], ◌∷◌, refl, sym, ap, ◌∙◌, subst}
use Rattle.std.proofs.Common.{arith}
use Rattle.std.proofs.lemmas.Bool.Decides.{nat_tests}
use Rattle.std.proofs.Math.Nat.{mod-one}
use Rattle.std.specs.Prelude.{slice_index}
use Rattle.std.specs.Prelude.{◌==◌, ◌↔◌, not, if◌then◌else◌, map, IsSomeAnd, IsTrue}
use Rattle.std.specs.List.{filter}
use Rattle.wire_msg.specs.declared.body.Body.TheVariants as says
use Rattle.job_model.specs.Durable.{Durable}
use Rattle.job_model.specs.declared.job.Job.{Job}
use Rattle.wire_msg.specs.Envelope.{Envelope}
use Rattle.group_task.specs.Assignment.{owner_of}
use Rattle.node_core.specs.declared.event.Event.TheVariants.{Timer}
use Rattle.node_core.specs.declared.timer.Timer.TheVariants.{Dispatch}
use Rattle.node_core.specs.Priorities.{by_priority}
use Rattle.node_core.specs.Start.{alone}
use Rattle.node_core.specs.State.{State, is_down}
use Rattle.node_core.specs.Timers.{orders, timed}
use Rattle.node_core.specs.Words.{letter, owner}
use Rattle.histories.specs.NodeState.{NodeState}
use Rattle.histories.specs.declared.history_event.HistoryEvent.{HistoryEvent}
use Rattle.histories.specs.declared.history_event.HistoryEvent.TheVariants.{Did}
use Rattle.histories.specs.After.{after, sent_at}
use Rattle.histories.specs.Possible.{IsPossible}
use Rattle.trace_check.specs.declared.trace.TraceAction.{TraceAction}
use Rattle.trace_check.specs.declared.trace.TraceAction.TheVariants as action
use Rattle.trace_check.specs.Claims.{Claim, MayCome, after_claim, after_what, what_of}
use Rattle.trace_check.specs.Twins.{opened}
use Rattle.trace_check.specs.Lazily.{Loses, MayOwe, paid}
use Rattle.trace_check.specs.Twins.{Comes, Taken, Twin}

-- an entry at a node in this state
abbrev TakenAt : ℕ → ℕ → NodeState → Twin → Claim → Bool → Type 0
TakenAt self nodes s new c true = MayCome self nodes s c × (new.node ≡ after_claim self nodes s c)
TakenAt self nodes s new c false = MayCome self nodes s c → ⊥

-- of one member alone each queue is its own
owns : (self queue : ℕ) → owner_of (self ∷ []) queue ≡ self
owns self queue = ap (slice_index (self ∷ [])) (mod-one queue)

eq_self : (n : ℕ) → (n == n) ≡ true
eq_self n = grind (arith, nat_tests)

-- where each queue is its own it sends no job
none_sent : (self : ℕ) (s : State) (pending : List Job) → ((queue : ℕ) → owner s queue ≡ self) → orders self s pending ≡ []
none_sent self s [] own = refl
none_sent self s (job ∷ pending) own =
    let its : (owner s job.work.queue == self) ≡ true = subst (λ (n : ℕ). (n == self) ≡ true) (sym (own job.work.queue)) (eq_self self) in
    ap (λ (b : Bool). map (λ (job : Job). letter self (owner s job.work.queue) (says.Work s.group job.id job.work))
    (if not b then job ∷ filter (λ (job : Job). not (owner s job.work.queue == self)) pending
    else filter (λ (job : Job). not (owner s job.work.queue == self)) pending)) its ∙ none_sent self s pending own

silent : (self nodes : ℕ) (d : Durable) → sent_at self nodes (opened self d) (Did (Timer Dispatch)) ≡ []
unfolding timed
silent self nodes d = none_sent self (alone self d.counter) (by_priority d.pending) (owns self)

-- it may come, and sends nothing
comes : (t : Twin) → t.node ≡ opened t.id t.node.durable → Comes t (Did (Timer Dispatch)) []
comes t is = subst (λ (s : NodeState). IsPossible t.id t.nodes s (Did (Timer Dispatch))
    × ([] ≡ sent_at t.id t.nodes s (Did (Timer Dispatch))))
    (sym is) ((λ e. absurd cc, record { by_core = refl; not_spent = λ spent. spent }), sym (silent t.id t.nodes t.node.durable))

-- a dispatch of a node that stands so is taken where it sends nothing
pub puts_off : (t : Twin) (c : Claim) (b : Bool) → t.node ≡ opened t.id t.node.durable → c.action ≡ action.Done (Timer Dispatch)
    → (IsTrue b ↔ (c.sent ≡ [])) → Taken t (paid b t) c b
puts_off t c true is dispatch none =
    let it = comes t is in
    let sent : c.sent ≡ sent_at t.id t.nodes t.node (Did (Timer Dispatch)) = none.0 refl ∙ it.1 in
    subst (λ (a : TraceAction). IsSomeAnd (what_of (is_down t.node.state.phase) a)
    (λ (what : HistoryEvent). IsPossible t.id t.nodes t.node what × (c.sent ≡ sent_at t.id t.nodes t.node what))
    × ((paid true t).node ≡ after_what t.id t.nodes t.node (what_of (is_down t.node.state.phase) a)))
    (sym dispatch) ((it.0, sent), refl)
puts_off t c false is dispatch none = λ may.
    let it = comes t is in
    let said : IsPossible t.id t.nodes t.node (Did (Timer Dispatch)) × (c.sent ≡ sent_at t.id t.nodes t.node (Did (Timer Dispatch))) =
    subst (λ (a : TraceAction). IsSomeAnd (what_of (is_down t.node.state.phase) a)
    (λ (what : HistoryEvent). IsPossible t.id t.nodes t.node what × (c.sent ≡ sent_at t.id t.nodes t.node what))) dispatch may in
    let yes : false ≡ true = none.1 (said.1 ∙ sym it.1) in cc

-- the phase stays
phase_at : (self nodes : ℕ) (d : Durable) → (after self nodes (opened self d) (Did (Timer Dispatch))).state.phase
    ≡ (opened self d).state.phase
unfolding timed
phase_at self nodes d = refl

pub same_phase : (owes : Bool) (t : Twin) → MayOwe owes t → (paid owes t).node.state.phase ≡ t.node.state.phase
same_phase false t may = refl
same_phase true t may = subst (λ (s : NodeState). (after t.id t.nodes s (Did (Timer Dispatch))).state.phase ≡ s.state.phase) (sym may)
    (phase_at t.id t.nodes t.node.durable)

-- a recovery may come behind it just where it may come in its place
recovers : (self nodes : ℕ) (d : Durable) (sent : List Envelope)
    → MayCome self nodes (opened self d) (record { action = action.Recovered false; sent = sent })
    → MayCome self nodes (after self nodes (opened self d) (Did (Timer Dispatch))) (record { action = action.Recovered false; sent = sent })
unfolding timed
recovers self nodes d sent may = ((λ _. refl, record { by_core = refl; not_spent = may.0.1.not_spent }), may.1)

recovers_as_before : (self nodes : ℕ) (d : Durable) (sent : List Envelope)
    → MayCome self nodes (after self nodes (opened self d) (Did (Timer Dispatch))) (record { action = action.Recovered false; sent = sent })
    → MayCome self nodes (opened self d) (record { action = action.Recovered false; sent = sent })
unfolding timed
recovers_as_before self nodes d sent may = ((λ _. refl, record { by_core = refl; not_spent = may.0.1.not_spent }), may.1)

-- nothing of it is left behind an entry by which all in hand is lost
lost_at : (self nodes : ℕ) (d : Durable) (new : Twin) (a : TraceAction) (sent : List Envelope) (b : Bool) → Loses a
    → TakenAt self nodes (opened self d) new (record { action = a; sent = sent }) b
    → TakenAt self nodes (after self nodes (opened self d) (Did (Timer Dispatch))) new (record { action = a; sent = sent }) b
unfolding timed
lost_at self nodes d new action.Crashed sent true loses is = is
lost_at self nodes d new action.Crashed sent false loses is = is
lost_at self nodes d new (action.Recovered false) sent true loses is = (recovers self nodes d sent is.0, is.1)
lost_at self nodes d new (action.Recovered false) sent false loses is = λ may. is (recovers_as_before self nodes d sent may)
lost_at self nodes d new (action.Recovered true) sent b loses is = absurd loses
lost_at self nodes d new action.Nothing sent b loses is = absurd loses
lost_at self nodes d new (action.Done event) sent b loses is = absurd loses
lost_at self nodes d new (action.Faulted event) sent b loses is = absurd loses
lost_at self nodes d new (action.NotRecovered kept fault) sent b loses is = absurd loses

pub loses : (owes : Bool) (t new : Twin) (c : Claim) (b : Bool) → MayOwe owes t → Loses c.action → Taken t new c b
    → Taken (paid owes t) new c b
loses false t new c b may of is = is
loses true t new c b may of is =
    subst (λ (s : NodeState). TakenAt t.id t.nodes (after t.id t.nodes s (Did (Timer Dispatch))) new c b) (sym may)
    (lost_at t.id t.nodes t.node.durable new c.action c.sent b of (subst (λ (s : NodeState). TakenAt t.id t.nodes s new c b) may is))
