-- A step makes a node's hand longer by no more than the pending jobs and one.
use Rattle.std.proofs.Common.{◌≡◌, ℕ, ◌+◌, ◌≤◌, Bool, true, false, not, ◌&&◌, List, [], ◌∷◌, ◌++◌, length, filter, slice_get, ap, subst}
use Rattle.std.proofs.Common.{Some, rules, arith}
use Rattle.std.specs.Prelude.{if◌then◌else◌, ◌==◌}
use Rattle.std.proofs.lemmas.List.{length-append, length-map}
use Rattle.std.proofs.lemmas.List.Sums.{length-filter, count_by-le-length}
use Rattle.group_task.specs.Group.{same_group}
use Rattle.group_task.specs.Ids.{has}
use Rattle.job_model.specs.declared.job.Job.{Job}
use Rattle.job_model.specs.Answer.{answer_to}
use Rattle.wire_msg.specs.declared.body.Body.{Body}
use Rattle.wire_msg.specs.declared.body.Body.TheVariants.{Work as WorkMessage}
use Rattle.node_core.specs.declared.event.Event.{Event}
use Rattle.node_core.specs.declared.event.Event.TheVariants.{Timer as TimerEvent, Deliver, Submit, Finish, Recover}
use Rattle.node_core.specs.declared.timer.Timer.{Timer}
use Rattle.node_core.specs.declared.timer.Timer.TheVariants as timer
use Rattle.node_core.specs.declared.in_hand.InHand.{InHand}
use Rattle.node_core.specs.declared.phase.Phase.TheVariants.{Normal}
use Rattle.node_core.specs.State.{State, in_phase}
use Rattle.node_core.specs.Effect.{Effect}
use Rattle.node_core.specs.Words.{members_of, owner, holds}
use Rattle.node_core.specs.Priorities.{by_priority}
use Rattle.node_core.proofs.PublicLaws.{few_by_priority}
use Rattle.node_core.specs.Timers.{timed, own_jobs}
use Rattle.node_core.specs.Messages.{delivered}
use Rattle.node_core.specs.Effects.{effect_of}
use Rattle.histories.specs.NodeState.{NodeState, wants_at}
use Rattle.histories.specs.declared.history_event.HistoryEvent.{HistoryEvent}
use Rattle.histories.specs.declared.history_event.HistoryEvent.TheVariants.{Did}
use Rattle.histories.specs.After.{after}
use Rattle.runs.specs.World.{World}
use Rattle.runs.specs.Step.{Step, Takes, world_after}
use Rattle.runs.specs.Run.{IsAllowed}
use Rattle.runs.proofs.Keeping.{AllStates, states_keep}

-- so many jobs are in hand afterwards at most
record HasFew (limit : ℕ) (e : Effect) : Type 0 where
  few : length e.state.hand ≤ limit

few_if : (limit : ℕ) (b : Bool) (x y : Effect) → HasFew limit x → HasFew limit y → HasFew limit (if b then x else y)
few_if limit true x y hx hy = hx
few_if limit false x y hx hy = hy

-- one job more
gains : (limit : ℕ) (s : State) (job : InHand) → length s.hand + 1 ≤ limit
    → HasFew limit (record { state = record s { hand = s.hand ++ job ∷ [] }; sent = [] })
gains limit s job h = record { few = omega (arith, length-append s.hand (job ∷ []), h) }

few_chosen : {A : Type 0} (test : A → Bool) (xs : List A) → length (filter test xs) ≤ length xs
few_chosen test xs = omega (arith, length-filter test xs, count_by-le-length test xs)

few_own : (self : ℕ) (s : State) (pending : List Job) → length (own_jobs self s pending) ≤ length pending
few_own self s pending =
    let test : Job → Bool = λ job. owner s job.work.queue == self && not (holds s.hand self job.id) in
    let taken : Job → InHand = λ job. record { origin = self; id = job.id; work = job.work } in
    omega (arith, length-map (filter test pending) taken, few_chosen test pending)

body_few : (limit self from : ℕ) (body : Body) (answer : ℕ) (s : State) → length s.hand + 1 ≤ limit
    → HasFew limit (delivered self from body answer s)
unfolding delivered
body_few limit self from (WorkMessage group id work) answer s h =
    few_if limit (in_phase Normal s.phase && same_group group s.group && has (members_of s.task) from && owner s work.queue == self
    && not (holds s.hand from id)) _ _
    (gains limit s (record { origin = from; id = id; work = work }) h) (record { few = omega (arith, h) })
body_few limit self from body answer s h = search (rules, arith, h)

timer_few : (limit nodes self : ℕ) (pending : List Job) (timer : Timer) (answer : ℕ) (s : State)
    → length s.hand + length pending + 1 ≤ limit → HasFew limit (timed nodes self pending timer answer s)
unfolding timed
timer_few limit nodes self pending timer.Dispatch answer s h = few_if limit (in_phase Normal s.phase) _ _
    (record {
      few = omega (
        arith,
        length-append s.hand (own_jobs self s (by_priority pending)),
        few_own self s (by_priority pending),
        few_by_priority pending,
        h,
      );
    })
    (record { few = omega (arith, h) })
timer_few limit nodes self pending timer answer s h = search (rules, arith, h)

event_few : (limit nodes self : ℕ) (pending : List Job) (event : Event) (answer : ℕ) (s : State)
    → length s.hand + length pending + 1 ≤ limit → HasFew limit (effect_of nodes self pending event answer s)
event_few limit nodes self pending (TimerEvent timer) answer s h = timer_few limit nodes self pending timer answer s h
event_few limit nodes self pending (Deliver m) answer s h = body_few limit self m.sender m.body answer s (omega (arith, h))
event_few limit nodes self pending (Submit work) answer s h =
    few_if limit (owner s work.queue == self) _ _ (gains limit s (record { origin = self; id = answer; work = work }) (omega (arith, h)))
    (record { few = omega (arith, h) })
event_few limit nodes self pending (Finish origin id) answer s h =
    record { few = omega (arith, few_chosen (λ (job : InHand). not (job.origin == origin && job.id == id)) s.hand, h) }
event_few limit nodes self pending Recover answer s h = record { few = omega arith }

-- an event makes the hand longer by the pending jobs and one at most
pub event_gains : (nodes self : ℕ) (pending : List Job) (event : Event) (answer : ℕ) (s : State)
    → length (effect_of nodes self pending event answer s).state.hand ≤ length s.hand + length pending + 1
event_gains nodes self pending event answer s = (event_few (length s.hand + length pending + 1) nodes self pending event answer s
    (omega arith)).few

-- and so does anything that may come of it
step_gains : (self nodes : ℕ) (s : NodeState) (what : HistoryEvent)
    → length (after self nodes s what).state.hand ≤ length s.state.hand + length s.durable.pending + 1
step_gains self nodes s (Did event) = event_gains nodes self s.durable.pending event (answer_to s.durable (wants_at self nodes s event))
    s.state
step_gains self nodes s _ = omega arith

-- so no hand gets longer by more in a step of the cluster
abbrev pub AtMost : World → ℕ → NodeState → Type 0
AtMost w n x = (s : NodeState) → slice_get w.states n ≡ Some s → length x.state.hand ≤ length s.state.hand + length s.durable.pending + 1

unmoved : (w : World) → AllStates (AtMost w) w
unmoved w n x at s was = (let same : x ≡ s = cc (at, was) in
    let hand : length x.state.hand ≡ length s.state.hand = ap (λ (y : NodeState). length y.state.hand) same in omega (arith, hand))

pub hands_grow : (nodes : ℕ) (w : World) (step : Step) → IsAllowed nodes w step → AllStates (AtMost w) (world_after nodes w step)
hands_grow nodes w (Takes m number what) allowed = states_keep (AtMost w) nodes w m number what allowed.0 allowed.1
    (λ t was.
    (let at = allowed.1 in
    let same : allowed.0 ≡ t = cc (at, was) in
    subst (λ (y : NodeState). length (after m nodes allowed.0 what).state.hand ≤ length y.state.hand + length y.durable.pending + 1) same
    (step_gains m nodes allowed.0 what))) (unmoved w)
hands_grow nodes w _ allowed = unmoved w
