-- No event but a dispatch sends two messages to one node, and a dispatch sends no more than there are pending jobs.
use Rattle.std.proofs.Common.{◌≡◌, ℕ, zero, suc, ◌+◌, ◌%◌, ◌<◌, ◌≤◌, ◌==◌, Bool, true, false, not, ◌&&◌, List, [], ◌∷◌, ◌++◌, length}
use Rattle.std.proofs.Common.{get_or, Option, Some, None, refl, sym, ap, ◌∙◌, subst, inl, inr, arith}
use Rattle.std.specs.Prelude.{if◌then◌else◌, nat_lt, ⊤}
use Rattle.std.specs.List.{filter}
use Rattle.std.proofs.lemmas.Bool.{cases_Bool, cond_both, eqb-true}
use Rattle.std.proofs.lemmas.Bool.Decides.{nat_tests}
use Rattle.std.proofs.lemmas.List.{length-append}
use Rattle.std.proofs.lemmas.Nat.{mod_below}
use Rattle.std.proofs.lemmas.Option.{same_Some}
use Rattle.group_task.specs.Group.{Group}
use Rattle.group_task.specs.Assignment.{Assignment, owner_of}
use Rattle.group_task.specs.Ids.{has, with_id, without_id, either_of, ids_below, RisesWithin, IsSet}
use Rattle.group_task.specs.declared.node.TheConstants.{NODES}
use Rattle.job_model.specs.declared.job.Job.{Job}
use Rattle.job_model.specs.Durable.{Durable}
use Rattle.wire_msg.specs.Envelope.{Envelope}
use Rattle.wire_msg.specs.declared.body.Body.{Body}
use Rattle.wire_msg.specs.declared.body.Body.TheVariants as says
use Rattle.node_core.specs.declared.event.Event.{Event}
use Rattle.node_core.specs.declared.event.Event.TheVariants as on
use Rattle.node_core.specs.declared.timer.Timer.{Timer}
use Rattle.node_core.specs.declared.timer.Timer.TheVariants as timer
use Rattle.node_core.specs.State.{State, is_down, in_phase}
use Rattle.node_core.specs.Effect.{Effect, quietly}
use Rattle.node_core.specs.Words.{letter, to_each, is_empty, leads_in, members_of, owner, own_group, task_of}
use Rattle.node_core.specs.declared.phase.Phase.{Phase}
use Rattle.node_core.specs.declared.phase.Phase.TheVariants as phase
use Rattle.node_core.specs.Priorities.{by_priority}
use Rattle.node_core.specs.Timers.{timed, merges, orders}
use Rattle.node_core.proofs.PublicLaws.{few_by_priority}
use Rattle.node_core.specs.Messages.{delivered, takes_invitation, passed_on}
use Rattle.node_core.specs.Effects.{effect_of}
use Rattle.sector_disk.specs.Memory.{Memory}
use Rattle.histories.specs.declared.event_outcome.EventOutcome.{EventOutcome}
use Rattle.histories.specs.declared.history_event.HistoryEvent.TheVariants as what
use Rattle.histories.specs.declared.event_outcome.EventOutcome.TheVariants as event_outcome
use Rattle.histories.specs.NodeState.{NodeState, wants_at}
use Rattle.job_model.specs.Answer.{answer_to}
use Rattle.histories.specs.After.{sent_at}
use Rattle.histories.specs.EventOutcomes.{what_of}
use Rattle.durable_node.specs.Node.{Node}
use Rattle.node_lock.specs.Asking.{Hand}
use Rattle.node_lock.specs.Doing.{Did, StandsForSome}
use Rattle.durable_node.specs.Stepping.{most_by}
use Rattle.node_lock.specs.Sending.{addressed_to, is_member, may_give_to, most_from, most_to}
use Rattle.node_lock.proofs.Carried.{addressed-append}
use Rattle.node_lock.proofs.Comings.{turn_comes}

-- how often an id stands in a list
abbrev times : ℕ → List ℕ → ℕ
times j ids = length (filter (λ (x : ℕ). x == j) ids)

-- ---- sets

not_before : (j low limit : ℕ) (xs : List ℕ) → j < low → RisesWithin low limit xs → times j xs ≡ 0
not_before j low limit [] lt r = refl
not_before j low limit (x ∷ xs) lt r = cond_both (x == j) _ _ (λ ids. length ids ≡ 0)
    (λ is. absurd (let below = r.0 in let same : x ≡ j = eqb-true x j is in omega (arith, lt, below, same)))
    (λ _. not_before j (x + 1) limit xs (let below = r.0 in omega (arith, lt, below)) r.2)

once : (j low limit : ℕ) (xs : List ℕ) → RisesWithin low limit xs → times j xs ≤ 1
once j low limit [] r = omega arith
once j low limit (x ∷ xs) r = cond_both (x == j) _ _ (λ ids. length ids ≤ 1)
    (λ is. (let none = not_before j (x + 1) limit xs (omega (arith, eqb-true x j is)) r.2 in omega (arith, none)))
    (λ _. once j (x + 1) limit xs r.2)

rises_with : (i low limit : ℕ) (xs : List ℕ) → low ≤ i → i < limit → RisesWithin low limit xs → RisesWithin low limit (with_id xs i)
rises_with i low limit [] le lt r = (le, lt, tt)
rises_with i low limit (x ∷ xs) le lt r = cond_both (nat_lt i x) _ _ (RisesWithin low limit)
    (λ before. (le, lt, (grind (arith, nat_tests, before), r.1, r.2)))
    (λ behind. cond_both (i == x) _ _ (RisesWithin low limit) (λ _. r)
    (λ other. (r.0, r.1, rises_with i (x + 1) limit xs (grind (arith, nat_tests, behind, other)) lt r.2)))

rises_either : (low limit : ℕ) (xs ys : List ℕ) → RisesWithin low limit xs → RisesWithin 0 limit ys → RisesWithin 0 limit (either_of xs ys)
rises_either low limit [] ys r q = q
rises_either low limit (x ∷ xs) ys r q = rises_with x 0 limit (either_of xs ys) (omega arith) r.1 (rises_either (x + 1) limit xs ys r.2 q)

rises_wider : (low limit wide : ℕ) (xs : List ℕ) → limit ≤ wide → RisesWithin low limit xs → RisesWithin low wide xs
rises_wider low limit wide [] le r = tt
rises_wider low limit wide (x ∷ xs) le r = (r.0, (let lt = r.1 in omega (arith, lt, le)), rises_wider (x + 1) limit wide xs le r.2)

rises_below : (n : ℕ) → RisesWithin 0 n (ids_below n)
rises_below zero = tt
rises_below (suc n) = rises_with n 0 (suc n) (ids_below n) (omega arith) (omega arith)
    (rises_wider 0 n (suc n) (ids_below n) (omega arith) (rises_below n))

fewer_left : (j : ℕ) (keep : ℕ → Bool) (xs : List ℕ) → times j (filter keep xs) ≤ times j xs
fewer_left j keep [] = omega arith
fewer_left j keep (x ∷ xs) =
    let rest = fewer_left j keep xs in
    cond_both (keep x) _ _ (λ ids. times j ids ≤ times j (x ∷ xs))
    (λ _. elim (cases_Bool (x == j)) [ inl is ↦ rw is (omega (arith, rest)) | inr is ↦ rw is rest ])
    (λ _. cond_both (x == j) _ _ (λ ids. times j (filter keep xs) ≤ length ids) (λ _. omega (arith, rest)) (λ _. rest))

taken_out : (j : ℕ) (xs : List ℕ) → times j (without_id xs j) ≡ 0
taken_out j [] = refl
taken_out j (x ∷ xs) = elim (cases_Bool (x == j)) [
  | inl is ↦ rw is (taken_out j xs)
  | inr is ↦ rw (is, is) (taken_out j xs)
]

-- ---- messages to each of a set

to_each_times : (j self : ℕ) (body : Body) (ids : List ℕ) → length (addressed_to j (to_each self ids body)) ≡ times j ids
to_each_times j self body [] = refl
to_each_times j self body (x ∷ xs) = elim (cases_Bool (x == j)) [
  | inl is ↦ rw is (ap suc (to_each_times j self body xs))
  | inr is ↦ rw is (to_each_times j self body xs)
]

to_set : (j self limit : ℕ) (body : Body) (ids : List ℕ) → RisesWithin 0 limit ids → length (addressed_to j (to_each self ids body)) ≤ 1
to_set j self limit body ids r = let same = to_each_times j self body ids in let few = once j 0 limit ids r in omega (arith, same, few)

one_letter : (j self receiver : ℕ) (body : Body) → length (addressed_to j (letter self receiver body ∷ [])) ≤ 1
one_letter j self receiver body = cond_both (receiver == j) _ _ (λ ms. length ms ≤ 1) (λ _. omega arith) (λ _. omega arith)

none : 0 ≤ 1
none = omega arith

-- ---- the rows

-- at most one message goes to this node
record SendsOnce (j : ℕ) (e : Effect) : Type 0 where
  few : length (addressed_to j e.sent) ≤ 1

-- the timer is no dispatch
abbrev pub IsOther : Timer → Type 0
IsOther timer.Dispatch = ⊥
IsOther t = ⊤

-- the event is no dispatch
abbrev pub IsSingle : Event → Type 0
IsSingle (on.Timer t) = IsOther t
IsSingle event = ⊤

module _ (nodes self j : ℕ) (s : State) (up : IsSet s.up) (found : IsSet s.found) where
  by : (b : Bool) (x y : Effect) → SendsOnce j x → SendsOnce j y → SendsOnce j (if b then x else y)
  by true x y t f = t
  by false x y t f = f

  quiet : (t : State) → SendsOnce j (quietly t)
  quiet t = record { few = none }

  when : (b : Bool) (x : Effect) → SendsOnce j x → SendsOnce j (if b then x else quietly s)
  when b x t = by b x (quietly s) t (quiet s)

  -- one message is sent
  sends_one : (t : State) (receiver : ℕ) (body : Body) → SendsOnce j (record { state = t; sent = letter self receiver body ∷ [] })
  sends_one t receiver body = record { few = one_letter j self receiver body }

  -- an invitation is passed on to all but its creator, who is told that it is accepted
  passes : (group : Group) → length (addressed_to j (to_each self (passed_on self group s) (says.Invitation group)
      ++ letter self group.creator (says.Accept group) ∷ [])) ≤ 1
  passes group = by_creator (group.creator == j) refl
    where
      split : length (addressed_to j (to_each self (passed_on self group s) (says.Invitation group)
          ++ letter self group.creator (says.Accept group) ∷ []))
          ≡ times j (passed_on self group s) + length (addressed_to j (letter self group.creator (says.Accept group) ∷ []))
      split = ap length (addressed-append j (to_each self (passed_on self group s) (says.Invitation group))
          (letter self group.creator (says.Accept group) ∷ []))
          ∙ (length-append (addressed_to j (to_each self (passed_on self group s) (says.Invitation group)))
          (addressed_to j (letter self group.creator (says.Accept group) ∷ []))
          ∙ ap (λ (n : ℕ). n + length (addressed_to j (letter self group.creator (says.Accept group) ∷ [])))
          (to_each_times j self (says.Invitation group) (passed_on self group s)))

      by_creator : (b : Bool) → (group.creator == j) ≡ b → length
          (addressed_to j (to_each self (passed_on self group s) (says.Invitation group)
          ++ letter self group.creator (says.Accept group) ∷ [])) ≤ 1
      by_creator true is =
          let none_passed : times j (passed_on self group s) ≡ 0 =
          cond_both (s.coordinator == self) _ _ (λ ids. times j ids ≡ 0)
          (λ _. rw (← eqb-true group.creator j is) (taken_out group.creator s.up)) (λ _. refl) in
          let last = one_letter j self group.creator (says.Accept group) in
          omega (arith, split, none_passed, last)
      by_creator false is =
          let few : times j (passed_on self group s) ≤ 1 = cond_both (s.coordinator == self) _ _ (λ ids. times j ids ≤ 1)
          (λ _. (let few = fewer_left j (λ (x : ℕ). not (x == group.creator)) s.up in let one = once j 0 NODES s.up up in
          omega (arith, few, one))) (λ _. none) in
          let last : length (addressed_to j (letter self group.creator (says.Accept group) ∷ [])) ≡ 0 = rw is refl in
          omega (arith, split, few, last)

  body_once : (from : ℕ) (body : Body) (answer : ℕ) → SendsOnce j (delivered self from body answer s)
  unfolding delivered
  body_once from (says.Invitation group) answer = when (takes_invitation self group s) _ (record { few = passes group })
  body_once from body answer = search (by, quiet, sends_one)

  to_others : length (addressed_to j (to_each self (without_id (ids_below nodes) self) says.AreYouCoordinator)) ≤ 1
  to_others =
      let same = to_each_times j self says.AreYouCoordinator (without_id (ids_below nodes) self) in
      let few = fewer_left j (λ (x : ℕ). not (x == self)) (ids_below nodes) in
      let one = once j 0 nodes (ids_below nodes) (rises_below nodes) in
      omega (arith, same, few, one)

  timer_once : (pending : List Job) (t : Timer) (answer : ℕ) → IsOther t → SendsOnce j (timed nodes self pending t answer s)
  unfolding timed
  timer_once pending timer.Check answer o = when (leads_in phase.Normal self s) _ (record { few = to_others })
  timer_once pending timer.Merge answer o = when (merges self s) _ (by (is_empty s.found) _ _ (quiet _)
      (record {
        few = to_set j self NODES (says.Invitation (own_group self answer)) (either_of s.up s.found)
            (rises_either 0 NODES s.up s.found up found);
      }))
  timer_once pending timer.Accept answer o = when (in_phase phase.Election s.phase
      && s.coordinator == self) _ (record { few = to_set j self NODES (says.Ready (task_of s.group (with_id s.up self))) s.up up })
  timer_once pending timer.Dispatch answer o = absurd o
  timer_once pending t answer o = search (by, quiet, sends_one)

  finish_once : (origin id : ℕ) (b : Bool) → length (addressed_to j (to_each self (if b then [] else origin ∷ []) (says.Done id))) ≤ 1
  finish_once origin id true = none
  finish_once origin id false = one_letter j self origin (says.Done id)

  event_once : (pending : List Job) (event : Event) (answer : ℕ) → IsSingle event
      → SendsOnce j (effect_of nodes self pending event answer s)
  event_once pending (on.Timer t) answer o = timer_once pending t answer o
  event_once pending (on.Deliver m) answer o = body_once m.sender m.body answer
  event_once pending (on.Submit work) answer o = by (owner s work.queue == self) _ _ (quiet _)
      (sends_one s (owner s work.queue) (says.Work s.group answer work))
  event_once pending (on.Finish origin id) answer o = record { few = finish_once origin id (origin == self) }
  event_once pending on.Recover answer o = quiet _

-- ---- what a node sends at an event

-- an event that wasn't done sends nothing
of_done : (nodes self : ℕ) (s : NodeState) (event : Event) (event_outcome : EventOutcome) (P : List Envelope → Type 0) → P []
    → P (sent_at self nodes s (what.Did event)) → P (sent_at self nodes s (what_of event event_outcome))
of_done nodes self s event event_outcome.Done P nothing done = done
of_done nodes self s event event_outcome P nothing done = nothing

fewer : (j : ℕ) (ms : List Envelope) → length (addressed_to j ms) ≤ length ms
fewer j [] = omega arith
fewer j (m ∷ ms) = (let rest = fewer j ms in
    cond_both (m.receiver == j) _ _ (λ xs. length xs ≤ suc (length ms)) (λ _. omega (arith, rest)) (λ _. omega (arith, rest)))

-- ---- a dispatch

few_orders : (self : ℕ) (s : State) (jobs : List Job) → length (orders self s jobs) ≤ length jobs
few_orders self s [] = omega arith
few_orders self s (job ∷ jobs) = (let rest = few_orders self s jobs in
    elim (cases_Bool (owner s job.work.queue == self)) [ inl is ↦ rw is (omega (arith, rest)) | inr is ↦ rw is (omega (arith, rest)) ])

up_where_normal : (p : Phase) → in_phase phase.Normal p ≡ true → is_down p ≡ false
up_where_normal phase.Down is = absurd cc
up_where_normal p is = refl

-- no more messages than there are pending jobs
dispatch_few : (nodes self n answer : ℕ) (pending : List Job) (s : State) → (is_down s.phase ≡ false → length pending ≤ n)
    → length (timed nodes self pending timer.Dispatch answer s).sent ≤ n
unfolding timed
dispatch_few nodes self n answer pending s few = cond_both (in_phase phase.Normal s.phase) _ _ (λ (e : Effect). length e.sent ≤ n)
    (λ normal. (let a = few_orders self s (by_priority pending) in let b = few_by_priority pending in
    let c = few (up_where_normal s.phase normal) in omega (arith, a, b, c))) (λ _. omega arith)

-- ---- a dispatch gives work to members alone

has_place : (i : ℕ) (xs : List ℕ) → i < length xs → has xs (get_or xs i 0) ≡ true
has_place i [] lt = absurd (omega arith)
has_place zero (x ∷ xs) lt = grind (arith, nat_tests)
has_place (suc i) (x ∷ xs) lt = grind (arith, nat_tests, has_place i xs (omega arith))

filled : (id : ℕ) (xs : List ℕ) → has xs id ≡ true → 0 < length xs
filled id [] is = absurd cc
filled id (x ∷ xs) is = omega arith

owner_is_member : (id queue : ℕ) (members : List ℕ) → has members id ≡ true → has members (owner_of members queue) ≡ true
owner_is_member id queue members some = has_place (queue % length members) members
    (mod_below queue (length members) (filled id members some))

-- the creator of the task is a member by it
abbrev pub IsFilled : Option Assignment → Type 0
IsFilled task = (t : Assignment) → task ≡ Some t → has t.members t.group.creator ≡ true

never_owner : (j queue : ℕ) (task : Option Assignment) → IsFilled task → is_member task j ≡ false
    → (owner_of (members_of task) queue == j) ≡ false
never_owner j queue None some out = absurd cc
never_owner j queue (Some t) some out = elim (cases_Bool (owner_of t.members queue == j)) [
  | inr is ↦ is
  | inl is ↦ (let bad : has t.members j ≡ true = rw (← eqb-true (owner_of t.members queue) j is)
      (owner_is_member t.group.creator queue t.members (some t refl)) in
      absurd (let no : true ≡ false = sym bad ∙ out in cc))
]

no_orders : (self j : ℕ) (s : State) (jobs : List Job) → ((queue : ℕ) → (owner s queue == j) ≡ false)
    → length (addressed_to j (orders self s jobs)) ≤ 0
no_orders self j s [] never = omega arith
no_orders self j s (job ∷ jobs) never = elim (cases_Bool (owner s job.work.queue == self)) [
  | inl is ↦ rw is (no_orders self j s jobs never)
  | inr is ↦ rw (is, never job.work.queue) (no_orders self j s jobs never)
]

none_to : (nodes self j answer : ℕ) (pending : List Job) (s : State) → IsFilled s.task → may_give_to s j ≡ false
    → length (addressed_to j (timed nodes self pending timer.Dispatch answer s).sent) ≤ 0
unfolding timed
none_to nodes self j answer pending s some out = cond_both (in_phase phase.Normal s.phase) _ _ (λ (e : Effect).
    length (addressed_to j e.sent) ≤ 0)
    (λ normal. (let not_there : is_member s.task j ≡ false = ap (λ (b : Bool). b && is_member s.task j) (sym normal) ∙ out in
    no_orders self j s (by_priority pending) (λ queue. never_owner j queue s.task some not_there))) (λ _. omega arith)

at_most : (n pending : ℕ) (event : Event) (gives : Bool) → (event ≡ on.Timer timer.Dispatch → n ≤ (if gives then pending else 0))
    → (IsSingle event → n ≤ 1) → n ≤ most_from event gives pending
at_most n pending (on.Timer timer.Dispatch) gives all one = all refl
at_most n pending event gives all one = one tt

pub sends_few : (old new : Node Memory) (event : Event) (event_outcome : EventOutcome) (sent : List Envelope) → StandsForSome old
    → Did old event (what_of event event_outcome) sent new → length sent ≤ most_by old.nodes old.kept
    → IsSet old.state.up × IsSet old.state.found → IsFilled old.state.task
    → (j : ℕ) → length (addressed_to j sent) ≤ most_to event old.state old.kept j
unfolding timed
sends_few old new event event_outcome sent stands did few sets some_task j = by_kept old.kept refl few
  where
    s : NodeState
    s = stands.0

    is : old.state ≡ s.state
    is = stands.1.state

    came : sent ≡ sent_at old.id old.nodes s (what_of event event_outcome)
    came = (turn_comes old new (Hand event) (what_of event event_outcome) sent did s stands.1).is_sent

    one : IsSingle event → length (addressed_to j sent) ≤ 1
    one single = rw came (of_done old.nodes old.id s event event_outcome (λ ms. length (addressed_to j ms) ≤ 1) none
        (event_once old.nodes old.id j s.state (rw (← is) sets.0) (rw (← is) sets.1) s.durable.pending event
        (answer_to s.durable (wants_at old.id old.nodes s event)) single).few)

    by_kept : (kept : Option Durable) → old.kept ≡ kept → length sent ≤ most_by old.nodes kept
        → length (addressed_to j sent) ≤ most_to event old.state kept j
    by_kept None none few = let shorter = fewer j sent in omega (arith, shorter, few)
    by_kept (Some d) some few = at_most (length (addressed_to j sent)) (length d.pending) event (may_give_to old.state j)
        (λ dispatch. cond_both (may_give_to old.state j) _ _ (λ k. length (addressed_to j sent) ≤ k) (λ _. all dispatch)
        (λ out. gone out dispatch)) one
      where
        same : is_down s.state.phase ≡ false → length s.durable.pending ≤ length d.pending
        same up = let kept = same_Some s.durable d (sym (stands.1.up (subst (λ (v : State). is_down v.phase ≡ false) (sym is) up)).0
            ∙ some) in subst (λ (x : Durable). length s.durable.pending ≤ length x.pending) kept (omega arith)

        all : event ≡ on.Timer timer.Dispatch → length (addressed_to j sent) ≤ length d.pending
        all dispatch =
            let few : length (sent_at old.id old.nodes s (what_of event event_outcome)) ≤ length d.pending =
            of_done old.nodes old.id s event event_outcome (λ ms. length ms ≤ length d.pending) (omega arith) (rw dispatch
            (dispatch_few old.nodes old.id (length d.pending) (answer_to s.durable (wants_at old.id old.nodes s event)) s.durable.pending
            s.state same)) in
            let shorter = fewer j sent in
            let long = ap length came in
            omega (arith, shorter, few, long)

        gone : may_give_to old.state j ≡ false → event ≡ on.Timer timer.Dispatch → length (addressed_to j sent) ≤ 0
        gone out dispatch = rw came (of_done old.nodes old.id s event event_outcome (λ ms. length (addressed_to j ms) ≤ 0) (omega arith)
            (rw dispatch (none_to old.nodes old.id j (answer_to s.durable (wants_at old.id old.nodes s event)) s.durable.pending s.state
            (rw (← is) some_task) (rw (← is) out))))
