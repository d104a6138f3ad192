-- A run in which nothing is used up is exact; and an exact run is a run, as long as it is short.
use Rattle.std.proofs.Common.{◌≡◌, ◌≢◌, ◌⊎◌, ℕ, zero, suc, ◌+◌, ◌^◌, ◌<◌, Bool, true, false, List, [], ◌∷◌, length, slice_get, refl, sym}
use Rattle.std.proofs.Common.{◌∙◌, ap, subst, inl, inr, arith, Option, Some, None}
use Rattle.std.specs.Prelude.{nat_lt, if◌then◌else◌, Result, Ok, Err, option_map, IsSome, MatchBool, MatchOption}
use Rattle.std.specs.Option.{option_or}
use Rattle.std.proofs.lemmas.Bool.Decides.{nat_tests}
use Rattle.job_model.specs.Durable.{Durable}
use Rattle.job_model.specs.declared.node_command.NodeCommand.{NodeCommand as Command}
use Rattle.job_model.specs.declared.node_command.NodeCommand.TheVariants.{Raise, Put, Done}
use Rattle.job_model.specs.declared.job.Job.{Job}
use Rattle.wire_msg.specs.Envelope.{Envelope}
use Rattle.wire_msg.specs.declared.body.Body.{Body}
use Rattle.wire_msg.specs.declared.body.Body.TheVariants as says
use Rattle.sim_net.specs.declared.fault.NetFault.{NetFault}
use Rattle.sim_net.specs.Network.{Network, delivery}
use Rattle.node_core.specs.declared.event.Event.{Event}
use Rattle.node_core.specs.declared.event.Event.TheVariants as on
use Rattle.node_core.specs.declared.fault.CoreFault.{CoreFault}
use Rattle.node_core.specs.declared.fault.Refusal.{Refusal}
use Rattle.node_core.specs.declared.fault.Refusal.TheVariants.{Core, Full, Exhausted, AreaExhausted}
use Rattle.node_core.specs.NodeStep.{IsFull, IsSpent, IsAppended, IsTaken}
use Rattle.node_core.specs.Refusals.{refusal_of}
use Rattle.node_core.specs.State.{State, is_down}
use Rattle.node_core.specs.Wants.{delivered_wants, wants_of}
use Rattle.node_core.specs.declared.timer.Timer.{Timer}
use Rattle.node_core.specs.declared.timer.Timer.TheVariants as clock
use Rattle.histories.specs.Counts.{IsShort}
use Rattle.histories.specs.Lists.{IsAmong}
use Rattle.histories.specs.NodeState.{NodeState, wants_at, settled}
use Rattle.histories.specs.Possible.{IsForNode, IsPossible, IsOfSlots}
use Rattle.histories.specs.HistoryEvent.{IsOf}
use Rattle.histories.specs.declared.history_event.HistoryEvent.{HistoryEvent}
use Rattle.histories.specs.declared.history_event.HistoryEvent.TheVariants.{Did, Refused, Faulted, NoOp, Crashed, Recovered, MountFailed}
use Rattle.histories.specs.declared.history_event.HistoryEvent.TheVariants.{RaiseFailed, RaiseRefused}
use Rattle.histories.specs.declared.history_event.NoOpKind.TheVariants.{Nothing, Compacted, CompactDown, CompactAreaExhausted}
use Rattle.schedule.specs.declared.act.Act.{Act}
use Rattle.schedule.specs.declared.act.Act.TheVariants as act
use Rattle.runs.specs.declared.outcome.Outcome.{Outcome}
use Rattle.runs.specs.declared.outcome.Outcome.TheVariants as outcome
use Rattle.runs.specs.declared.outcome.ActRefusal.TheVariants.{Node}
use Rattle.runs.specs.World.{World, node_in, start}
use Rattle.runs.specs.Step.{Step, Takes, world_after}
use Rattle.runs.specs.Acts.{At, IsCompaction, IsStepBy, IsStepOf, IsLawful, IsRunOf, act_outcome, what_outcome}
use Rattle.runs.proofs.Acting.{Rests, by_act}
use Rattle.runs.proofs.Bringing.{BringsBy}
use Rattle.runs.specs.ExactRuns.{refusal_at, ComesOfMounting, MayCome, MayCompact, IsExactStep, IsExactRun}
use Rattle.runs.specs.Reporting.{Moment, Report, moment_of, report_of}
use Rattle.runs.specs.Growth.{acts_in, IsLeft, IsNext}
use Rattle.runs.specs.Reported.{IsReported}
use Rattle.runs.specs.Headline.{NoAreaExhausted}
use Rattle.runs.specs.Run.{world_at}
use Rattle.runs.specs.Uses.{NoneIsSpent}
use Rattle.runs.proofs.Keeping.{AllStates, step_length}
use Rattle.runs.proofs.Lawful.{lawful_of}
use Rattle.runs.proofs.Opened.{length_openings}
use Rattle.runs.proofs.Reports.{moments_from, moments_are}
use Rattle.runs.proofs.Runs.{at_place, node_there}
use Rattle.runs.proofs.Unspent.{FewGiven, none_spent, opens_few, settled_below, spent_high, step_few, step_unspent}

-- ---- room for a command

-- why a journal of so many slots has no room for a command, if it has none
abbrev no_room : ℕ → Durable → Option Command → Option Refusal
no_room slots d (Some (Put work)) = if nat_lt slots (length d.pending + 3) then Some Full else None
no_room slots d wants = None

has_room : (slots : ℕ) (d : Durable) (wants : Option Command) → (IsFull slots d wants → ⊥) → no_room slots d wants ≡ None
has_room slots d (Some (Put work)) fits = pick (nat_lt slots (length d.pending + 3)) refl
  where
    pick : (b : Bool) → nat_lt slots (length d.pending + 3) ≡ b → (if b then Some Full else None) ≡ None
    pick true is = absurd (fits (grind (arith, nat_tests, is)))
    pick false is = refl
has_room slots d _ fits = refl

lacks_room : (slots : ℕ) (d : Durable) (wants : Option Command) → IsFull slots d wants → no_room slots d wants ≡ Some Full
lacks_room slots d (Some (Put work)) full = (let known : nat_lt slots (length d.pending + 3) ≡ true = grind (arith, nat_tests, full) in
    rw known refl)
lacks_room slots d _ full = absurd full

fits_room : (slots : ℕ) (d : Durable) (wants : Option Command) → no_room slots d wants ≡ None → IsFull slots d wants → ⊥
fits_room slots d wants none full = (let both : None ≡ Some Full = sym none ∙ lacks_room slots d wants full in absurd cc)

-- where there is none, the command puts a job
record IsPutRefused (slots : ℕ) (d : Durable) (wants : Option Command) (why : Refusal) : Type 0 where
  is : why ≡ Full
  full : IsFull slots d wants
  appended : IsAppended wants

full_why : (slots : ℕ) (d : Durable) (wants : Option Command) (why : Refusal) → no_room slots d wants ≡ Some why
    → IsPutRefused slots d wants why
full_why slots d (Some (Put work)) why is = pick (nat_lt slots (length d.pending + 3)) refl is
  where
    pick : (b : Bool) → nat_lt slots (length d.pending + 3) ≡ b → (if b then Some Full else None) ≡ Some why
        → IsPutRefused slots d (Some (Put work)) why
    pick true known e = record { is = (let same : Full ≡ why = cc e in sym same); full = grind (arith, nat_tests, known); appended = tt }
    pick false known e = absurd cc
full_why slots d _ why is = absurd cc

-- ---- only a job that is submitted wants room

raise_room : (slots : ℕ) (d : Durable) (b : Bool) → no_room slots d (if b then Some Raise else None) ≡ None
raise_room slots d true = refl
raise_room slots d false = refl

done_room : (slots : ℕ) (d : Durable) (id : ℕ) (b : Bool) → no_room slots d (if b then Some (Done id) else None) ≡ None
done_room slots d id true = refl
done_room slots d id false = refl

timer_room : (slots n : ℕ) (d : Durable) (timer : Timer) (s : State) → no_room slots d (wants_of n d.pending (on.Timer timer) s) ≡ None
timer_room slots n d clock.Merge s = raise_room slots d _
timer_room slots n d clock.Ready s = raise_room slots d _
timer_room slots n d clock.Coord s = raise_room slots d _
timer_room slots n d _ s = refl

delivered_room : (slots from : ℕ) (d : Durable) (pending : List Job) (body : Body) (s : State)
    → no_room slots d (delivered_wants from pending body s) ≡ None
delivered_room slots from d pending (says.Here group agreed) s = raise_room slots d _
delivered_room slots from d pending (says.Done id) s = done_room slots d id _
delivered_room slots from d pending _ s = refl

-- why a node refuses an event, by the event's command
abbrev refused_by : ℕ → ℕ → ℕ → NodeState → Event → Option Refusal
refused_by slots n nodes s event = option_or (option_map Core (refusal_of nodes n event s.state))
    (no_room slots s.durable (wants_at n nodes s event))

with_room : (core room : Option Refusal) → room ≡ None → core ≡ option_or core room
with_room (Some why) room none = refl
with_room None room none = sym none

refusal_is : (slots n nodes : ℕ) (s : NodeState) (event : Event) → refusal_at slots n nodes s event ≡ refused_by slots n nodes s event
refusal_is slots n nodes s (on.Timer timer) = with_room _ _ (timer_room slots n s.durable timer s.state)
refusal_is slots n nodes s (on.Deliver m) = with_room _ _ (delivered_room slots m.sender s.durable s.durable.pending m.body s.state)
refusal_is slots n nodes s (on.Submit work) = refl
refusal_is slots n nodes s (on.Finish origin id) = with_room _ _ (done_room slots s.durable id _)
refusal_is slots n nodes s on.Recover = refl

-- ---- what may come, where nothing is used up

-- what may come of an event that is refused for this reason, if it is
abbrev ComesOf : Option Refusal → ℕ → ℕ → NodeState → Event → HistoryEvent → Type 0
ComesOf refusal n nodes s event what = MatchOption refusal ((what ≡ Did event)
    ⊎ ((what ≡ Faulted event) × IsSome (wants_at n nodes s event))) (λ why. what ≡ Refused event why)

-- what may come where a node is to recover: one that is down mounts its disk
abbrev Recovers : Bool → NodeState → HistoryEvent → Type 0
Recovers down s what = MatchBool down (ComesOfMounting s what) ((what ≡ Did on.Recover) ⊎ (what ≡ Faulted on.Recover))

abbrev IsUsedUp : HistoryEvent → Type 0
IsUsedUp (Refused event Exhausted) = Unit {0}
IsUsedUp (Refused event AreaExhausted) = Unit {0}
IsUsedUp (NoOp CompactAreaExhausted) = Unit {0}
IsUsedUp (RaiseRefused kept) = Unit {0}
IsUsedUp what = ⊥

unless_mounting : (slots n nodes : ℕ) (s : NodeState) (event : Event) (what : HistoryEvent) → IsForNode s.state event
    → ComesOf (refusal_at slots n nodes s event) n nodes s event what → MayCome slots n nodes s event what
unless_mounting slots n nodes s on.Recover what up h = subst (λ (b : Bool). Recovers b s what) (sym (up refl))
    (elim h [ inl did ↦ inl did | inr failed ↦ inr failed.0 ])
unless_mounting slots n nodes s _ what up h = h

by_mounting : (slots n nodes : ℕ) (s : NodeState) (event : Event) (what : HistoryEvent) → on.Recover ≡ event
    → is_down s.state.phase ≡ true → ComesOfMounting s what → MayCome slots n nodes s event what
by_mounting slots n nodes s event what is down h =
    subst (λ (x : Event). MayCome slots n nodes s x what) is (subst (λ (b : Bool). Recovers b s what) (sym down) h)

-- what comes of the event e came of this one
of_same : (slots n nodes : ℕ) (s : NodeState) (e event : Event) (what : HistoryEvent) (r : Option Refusal) → e ≡ event → IsForNode s.state e
    → refused_by slots n nodes s e ≡ r → ComesOf r n nodes s e what → MayCome slots n nodes s event what
of_same slots n nodes s e event what r same up is h =
    subst (λ (x : Event). MayCome slots n nodes s x what) same
    (unless_mounting slots n nodes s e what up (subst (λ (x : Option Refusal). ComesOf x n nodes s e what)
    (sym (refusal_is slots n nodes s e ∙ is)) h))

event_exact : (slots n nodes : ℕ) (s : NodeState) (event : Event) (what : HistoryEvent) → IsOf event what → IsPossible n nodes s what
    → IsOfSlots slots n nodes s what → (IsUsedUp what → ⊥) → MayCome slots n nodes s event what
event_exact slots n nodes s event (Did e) is may fits up =
    of_same slots n nodes s e event (Did e) None (cc is) may.0 (λ i.
    option_or (option_map Core (may.1.by_core i)) (has_room slots s.durable (wants_at n nodes s e) fits i)) (inl refl)
event_exact slots n nodes s event (Faulted e) is may fits up =
    of_same slots n nodes s e event (Faulted e) None (cc is) may.0.0 (λ i.
    option_or (option_map Core (may.0.1.by_core i)) (has_room slots s.durable (wants_at n nodes s e) fits i)) (inr (refl, may.1))
event_exact slots n nodes s event (Refused e (Core fault)) is may fits up =
    of_same slots n nodes s e event (Refused e (Core fault)) (Some (Core fault))
    (cc is) may.0 (λ i. option_or (option_map Core (may.1 i)) (no_room slots s.durable (wants_at n nodes s e))) refl
event_exact slots n nodes s event (Refused e Full) is may fits up =
    of_same slots n nodes s e event (Refused e Full) (Some Full)
    (cc is) may.0 (λ i. option_or (option_map Core (may.1.0 i)) (lacks_room slots s.durable (wants_at n nodes s e) fits i)) refl
event_exact slots n nodes s event (Recovered kept) is may fits up =
    by_mounting slots n nodes s event (Recovered kept) (cc is) may.0 (inr (kept, may.1, inl refl))
event_exact slots n nodes s event MountFailed is may fits up = by_mounting slots n nodes s event MountFailed (cc is) may (inl refl)
event_exact slots n nodes s event (RaiseFailed kept) is may fits up =
    by_mounting slots n nodes s event (RaiseFailed kept) (cc is) may.0 (inr (kept, may.1, inr refl))
event_exact slots n nodes s event (NoOp rest) is may fits up = absurd cc
event_exact slots n nodes s event Crashed is may fits up = absurd cc
event_exact slots n nodes s event _ is may fits up = absurd (up tt)

abbrev ByPhase : Bool → HistoryEvent → Type 0
ByPhase down what = MatchBool down (what ≡ NoOp CompactDown) ((what ≡ NoOp Compacted) ⊎ (what ≡ Crashed))

compact_exact : (n nodes : ℕ) (s : NodeState) (what : HistoryEvent) → IsCompaction s what → IsPossible n nodes s what → (IsUsedUp what → ⊥)
    → MayCompact s what
compact_exact n nodes s (NoOp Nothing) is may up = absurd is
compact_exact n nodes s (NoOp Compacted) is may up = subst (λ (b : Bool). ByPhase b (NoOp Compacted)) (sym may) (inl refl)
compact_exact n nodes s (NoOp CompactDown) is may up = subst (λ (b : Bool). ByPhase b (NoOp CompactDown)) (sym may) refl
compact_exact n nodes s (NoOp CompactAreaExhausted) is may up = absurd (up tt)
compact_exact n nodes s Crashed is may up = subst (λ (b : Bool). ByPhase b Crashed) (sym is) (inr refl)
compact_exact n nodes s _ is may up = absurd is

-- ---- what came may have come

-- it is one of those of which P holds, and may have come
record MayHaveCome (P : HistoryEvent → Type 0) (slots n nodes : ℕ) (s : NodeState) (what : HistoryEvent) : Type 0 where
  of : P what
  possible : IsPossible n nodes s what
  of_slots : IsOfSlots slots n nodes s what

module _ (slots n nodes limit : ℕ) (s : NodeState) (few : FewGiven limit n s) (short : limit + 1 < 2 ^ 64) where
  unspent : (wants : Option Command) → IsSpent s.durable wants → ⊥
  unspent wants spent = spent_high few.low s.durable wants few.below (omega (arith, few.sum, short)) spent

  came_of : (event : Event) (what : HistoryEvent) → IsForNode s.state event → (core : Option CoreFault) (room : Option Refusal)
      → refusal_of nodes n event s.state ≡ core → no_room slots s.durable (wants_at n nodes s event) ≡ room
      → ComesOf (option_or (option_map Core core) room) n nodes s event what → MayHaveCome (IsOf event) slots n nodes s what
  came_of event what up (Some fault) room core_is room_is h =
      subst (MayHaveCome (IsOf event) slots n nodes s) (sym h) (record { of = refl; possible = (up, core_is); of_slots = tt })
  came_of event what up None (Some why) core_is room_is h =
      let put = full_why slots s.durable (wants_at n nodes s event) why room_is in
      subst (MayHaveCome (IsOf event) slots n nodes s) (sym (h ∙ ap (λ (x : Refusal). Refused event x) put.is)) (record {
        of = refl;
        possible = (up, (core_is, (unspent (wants_at n nodes s event), put.appended)));
        of_slots = put.full;
      })
  came_of event what up None None core_is room_is h =
      let fits = fits_room slots s.durable (wants_at n nodes s event) room_is in
      let taken : IsTaken nodes n s.state s.durable event = record { by_core = core_is; not_spent = unspent (wants_at n nodes s event) } in
      elim h [
        | inl did ↦ subst (MayHaveCome (IsOf event) slots n nodes s) (sym did)
            (record { of = refl; possible = (up, taken); of_slots = fits })
        | inr failed ↦ subst (MayHaveCome (IsOf event) slots n nodes s) (sym failed.0)
            (record { of = refl; possible = ((up, taken), failed.1); of_slots = fits })
      ]

  came_up : (event : Event) (what : HistoryEvent) → IsForNode s.state event
      → ComesOf (refusal_at slots n nodes s event) n nodes s event what → MayHaveCome (IsOf event) slots n nodes s what
  came_up event what up h = came_of event what up _ _ refl refl
      (subst (λ (x : Option Refusal). ComesOf x n nodes s event what) (refusal_is slots n nodes s event) h)

  low : (kept : Bool) → (settled kept s).counter + 1 < 2 ^ 64
  low kept = (let below = settled_below few.low kept s few.below in omega (arith, below.counts, few.sum, short))

  came : (event : Event) (what : HistoryEvent) → MayCome slots n nodes s event what → MayHaveCome (IsOf event) slots n nodes s what
  came (on.Timer timer) what h = came_up (on.Timer timer) what (λ e. absurd cc) h
  came (on.Deliver m) what h = came_up (on.Deliver m) what (λ e. absurd cc) h
  came (on.Submit work) what h = came_up (on.Submit work) what (λ e. absurd cc) h
  came (on.Finish origin id) what h = came_up (on.Finish origin id) what (λ e. absurd cc) h
  came on.Recover what h = pick (is_down s.state.phase) refl h
    where
      pick : (b : Bool) → is_down s.state.phase ≡ b → Recovers b s what → MayHaveCome (IsOf on.Recover) slots n nodes s what
      pick true down it = elim it [
        | inl failed ↦ subst (MayHaveCome (IsOf on.Recover) slots n nodes s) (sym failed)
            (record { of = refl; possible = down; of_slots = tt })
        | inr mounts ↦ elim mounts.2 [
          | inl e ↦ subst (MayHaveCome (IsOf on.Recover) slots n nodes s) (sym e)
              (record { of = refl; possible = (down, mounts.1, low mounts.0); of_slots = tt })
          | inr e ↦ subst (MayHaveCome (IsOf on.Recover) slots n nodes s) (sym e)
              (record { of = refl; possible = (down, mounts.1, low mounts.0); of_slots = tt })
        ]
      ]
      pick false up it = came_up on.Recover what (λ e. up) (elim it [ inl did ↦ inl did | inr failed ↦ inr (failed, refl) ])

compacted : (slots n nodes : ℕ) (s : NodeState) (what : HistoryEvent) → MayCompact s what
    → MayHaveCome (IsCompaction s) slots n nodes s what
compacted slots n nodes s what h = pick (is_down s.state.phase) refl h
  where
    pick : (b : Bool) → is_down s.state.phase ≡ b → ByPhase b what → MayHaveCome (IsCompaction s) slots n nodes s what
    pick true down it = subst (MayHaveCome (IsCompaction s) slots n nodes s) (sym it) (record { of = tt; possible = down; of_slots = tt })
    pick false up it = elim it [
      | inl e ↦ subst (MayHaveCome (IsCompaction s) slots n nodes s) (sym e) (record { of = tt; possible = up; of_slots = tt })
      | inr e ↦ subst (MayHaveCome (IsCompaction s) slots n nodes s) (sym e) (record { of = up; possible = tt; of_slots = tt })
    ]

-- ---- the step of an act

at_by : (known : Bool) (n k : ℕ) (P Q : HistoryEvent → Type 0) (step : Step)
    → ((what : HistoryEvent) → known ≡ true → step ≡ Takes n k what → P what → Q what) → At known n k P step → At known n k Q step
at_by true n k P Q step f h = (h.0, h.1, f h.0 refl h.1 h.2)
at_by false n k P Q step f h = h

-- what may come by other words, where it comes at a node of the cluster
module _ (E F : ℕ → Event → HistoryEvent → Type 0) (C D : ℕ → HistoryEvent → Type 0) (nodes : ℕ) (step : Step)
    (f : (n number : ℕ) (event : Event) (what : HistoryEvent) → nat_lt n nodes ≡ true → step ≡ Takes n number what → E n event what
    → F n event what)
    (g : (n number : ℕ) (what : HistoryEvent) → nat_lt n nodes ≡ true → step ≡ Takes n number what → C n what → D n what) where
  event_by : (n k : ℕ) (event : Event) → At (nat_lt n nodes) n k (E n event) step → At (nat_lt n nodes) n k (F n event) step
  event_by n k event h = at_by (nat_lt n nodes) n k (E n event) (F n event) step (λ what known is e. f n k event what known is e) h

  brings_by : (net : Network) (k : ℕ) (d : Result Envelope NetFault) → BringsBy E nodes net k d step → BringsBy F nodes net k d step
  brings_by net k (Ok m) h = event_by m.receiver k (on.Deliver m) h
  brings_by net k (Err why) h = h

  step_by : (net : Network) (a : Act) → IsStepBy E C nodes net a step → IsStepBy F D nodes net a step
  step_by net (act.Timer n timer) h = event_by n 0 (on.Timer timer) h
  step_by net (act.Deliver k) h = brings_by net k (delivery net k) h
  step_by net (act.Submit n work) h = event_by n 0 (on.Submit work) h
  step_by net (act.Finish n origin id) h = event_by n 0 (on.Finish origin id) h
  step_by net (act.Recover n) h = event_by n 0 on.Recover h
  step_by net (act.Compact n) h = at_by (nat_lt n nodes) n 0 (C n) (D n) step (λ what known is c. g n 0 what known is c) h
  step_by net _ h = h

-- ---- a run in which nothing is used up is exact

used_up_outcome : (n nodes first : ℕ) (s : NodeState) (what : HistoryEvent) (a : Act) → IsUsedUp what
    → (what_outcome n nodes first s what a ≡ outcome.Refused (Node Exhausted))
    ⊎ (what_outcome n nodes first s what a ≡ outcome.Refused (Node AreaExhausted))
used_up_outcome n nodes first s (Refused event Exhausted) a up = inl refl
used_up_outcome n nodes first s (Refused event AreaExhausted) a up = inr refl
used_up_outcome n nodes first s (NoOp CompactAreaExhausted) a up = inr refl
used_up_outcome n nodes first s (RaiseRefused kept) a up = inl refl
used_up_outcome n nodes first s _ a up = absurd up

-- what comes there may come there
there : (slots nodes : ℕ) (w : World) (n number : ℕ) (what : HistoryEvent) → IsLawful slots nodes w (Takes n number what)
    → MayHaveCome (λ x. Unit {0}) slots n nodes (node_in w.states n) what
there slots nodes w n number what may = subst (λ (x : NodeState). MayHaveCome (λ y. Unit {0}) slots n nodes x what)
    (sym (node_there w.states n may.0 may.1)) (record { of = tt; possible = may.2; of_slots = may.3 })

exact_step : (slots nodes : ℕ) (w : World) (a : Act) (step : Step) → IsStepOf nodes w a step → IsLawful slots nodes w step
    → act_outcome nodes w a step ≢ outcome.Refused (Node Exhausted) → act_outcome nodes w a step ≢ outcome.Refused (Node AreaExhausted)
    → IsExactStep nodes slots w a step
exact_step slots nodes w a step of may unspent never_area_exhausted =
    step_by _ _ _ _ nodes step
    (λ n number event what known is of. let it = came_there n number what is in
    event_exact slots n nodes (node_in w.states n) event what of it.possible it.of_slots (left n number what is))
    (λ n number what known is of. let it = came_there n number what is in
    compact_exact n nodes (node_in w.states n) what of it.possible (left n number what is))
    w.net a of
  where
    came_there : (n number : ℕ) (what : HistoryEvent) → step ≡ Takes n number what
        → MayHaveCome (λ x. Unit {0}) slots n nodes (node_in w.states n) what
    came_there n number what is = there slots nodes w n number what (subst (IsLawful slots nodes w) is may)

    left : (n number : ℕ) (what : HistoryEvent) → step ≡ Takes n number what → IsUsedUp what → ⊥
    left n number what is up = elim (used_up_outcome n nodes (length w.net.sent) (node_in w.states n) what a up) [
      | inl spent ↦ unspent (ap (act_outcome nodes w a) is ∙ spent)
      | inr area_exhausted ↦ never_area_exhausted (ap (act_outcome nodes w a) is ∙ area_exhausted)
    ]

exact_from : (slots nodes : ℕ) (acts : List Act) (steps : List Step) (w : World) → IsRunOf nodes slots w acts steps
    → ((m : Moment) → IsAmong m (moments_from nodes w acts steps) → m.outcome ≢ outcome.Refused (Node Exhausted))
    → ((k : ℕ) (m : Moment) → slice_get (moments_from nodes w acts steps) k ≡ Some m → m.outcome ≢ outcome.Refused (Node AreaExhausted))
    → IsExactRun nodes slots w acts steps
exact_from slots nodes [] [] w run unspent never_area_exhausted = tt
exact_from slots nodes (a ∷ acts) (step ∷ steps) w run unspent never_area_exhausted = (
  exact_step slots nodes w a step run.0 run.1 (unspent (moment_of nodes w a step) (inl refl))
      (never_area_exhausted 0 (moment_of nodes w a step) refl),
  exact_from slots nodes acts steps (world_after nodes w step) run.2 (λ m i. unspent m (inr i))
      (λ k m at. never_area_exhausted (suc k) m at),
)
exact_from slots nodes _ _ w run unspent never_area_exhausted = absurd run

pub exact_run : (slots nodes : ℕ) (acts : List Act) (steps : List Step) → IsShort acts → IsRunOf nodes slots (start nodes) acts steps
    → NoAreaExhausted (report_of nodes acts steps) → IsExactRun nodes slots (start nodes) acts steps
exact_run slots nodes acts steps short run never_area_exhausted =
    let same = moments_are nodes acts steps in
    exact_from slots nodes acts steps (start nodes) run
    (λ m i. none_spent nodes slots acts steps short run m (subst (IsAmong m) (sym same) i))
    (λ k m at. never_area_exhausted k m (subst (λ (ms : List Moment). slice_get ms k ≡ Some m) (sym same) at))

-- ---- an exact run is a run

run_step : (slots nodes limit : ℕ) (w : World) (a : Act) (step : Step) → IsExactStep nodes slots w a step → length w.states ≡ nodes
    → AllStates (FewGiven limit) w → limit + 1 < 2 ^ 64 → IsStepOf nodes w a step × IsLawful slots nodes w step
run_step slots nodes limit w a step exact many few short = (
  step_by _ _ _ _ nodes step (λ n number event what known is (e : MayHaveCome (IsOf event) slots n nodes (node_in w.states n) what). e.of)
      (λ n number what known is (c : MayHaveCome (IsCompaction (node_in w.states n)) slots n nodes (node_in w.states n) what). c.of) w.net a
      by,
  lawful,
)
  where
    here : (n : ℕ) → nat_lt n nodes ≡ true → (s : NodeState) × (slice_get w.states n ≡ Some s)
    here n known = at_place w.states n (subst (λ (k : ℕ). n < k) (sym many) (grind (arith, nat_tests, known)))

    few_here : (n : ℕ) → nat_lt n nodes ≡ true → FewGiven limit n (node_in w.states n)
    few_here n known = (let at = here n known in subst (FewGiven limit n) (sym (node_there w.states n at.0 at.1)) (few n at.0 at.1))

    by : IsStepBy (λ (n : ℕ) (event : Event). MayHaveCome (IsOf event) slots n nodes (node_in w.states n))
        (λ (n : ℕ). MayHaveCome (IsCompaction (node_in w.states n)) slots n nodes (node_in w.states n)) nodes w.net a step
    by = step_by _ _ _ _ nodes step (λ n number event what known is e.
        came slots n nodes limit (node_in w.states n) (few_here n known) short event what e)
        (λ n number what known is c. compacted slots n nodes (node_in w.states n) what c) w.net a exact

    Lawful : ℕ → HistoryEvent → Type 0
    Lawful n what = IsLawful slots nodes w (Takes n 0 what)

    lawful_at : (P : HistoryEvent → Type 0) (n : ℕ) (what : HistoryEvent) → nat_lt n nodes ≡ true
        → MayHaveCome P slots n nodes (node_in w.states n) what → Lawful n what
    lawful_at P n what known it =
        let at = here n known in
        let is = node_there w.states n at.0 at.1 in (
          at.0,
          at.1,
          subst (λ (x : NodeState). IsPossible n nodes x what) is it.possible,
          subst (λ (x : NodeState). IsOfSlots slots n nodes x what) is it.of_slots,
        )

    rests_lawful : (n : ℕ) (what : HistoryEvent) → nat_lt n nodes ≡ true
        → Rests (λ (n : ℕ). MayHaveCome (IsCompaction (node_in w.states n)) slots n nodes (node_in w.states n)) n what → Lawful n what
    rests_lawful n what known rest = elim rest [
      | inl c ↦ lawful_at (IsCompaction (node_in w.states n)) n what known c
      | inr other ↦ lawful_at (λ x. Unit {0}) n what known (elim other [
        | inl is ↦ rw is (record { of = tt; possible = tt; of_slots = tt })
        | inr is ↦ rw is (record { of = tt; possible = tt; of_slots = tt })
      ])
    ]

    lawful : IsLawful slots nodes w step
    lawful = by_act _ _ nodes w (λ (a : Act). IsLawful slots nodes w)
        (λ a n k event what known is e. lawful_at (IsOf event) n what known e)
        (λ a n what known none rest. rests_lawful n what known rest) (λ a net none same. tt) (λ a n why no. tt) a step by

run_from : (slots nodes limit : ℕ) (acts : List Act) (steps : List Step) (w : World) → IsExactRun nodes slots w acts steps
    → length w.states ≡ nodes → AllStates (FewGiven limit) w → limit + length acts < 2 ^ 64 → IsRunOf nodes slots w acts steps
run_from slots nodes limit [] [] w exact many few short = tt
run_from slots nodes limit (a ∷ acts) (step ∷ steps) w exact many few short =
    let it = run_step slots nodes limit w a step exact.0 many few (omega (arith, short)) in (
      it.0,
      it.1,
      run_from slots nodes (limit + 1) acts steps (world_after nodes w step) exact.1 (step_length nodes w step
          ∙ many) (step_few slots nodes limit w step it.1 few) (omega (arith, short)),
    )
run_from slots nodes limit _ _ w exact many few short = absurd exact

pub run_of : (slots nodes : ℕ) (acts : List Act) (steps : List Step) → IsShort acts → IsExactRun nodes slots (start nodes) acts steps
    → IsRunOf nodes slots (start nodes) acts steps
run_of slots nodes acts steps short exact = run_from slots nodes 1 acts steps (start nodes) exact (length_openings 0 nodes)
    (opens_few nodes) (omega (arith, short))

-- that of a report is one
pub run_in : (nodes slots : ℕ) (acts : List Act) (r : Report) (h : IsReported nodes slots acts r)
    → IsRunOf nodes slots (start nodes) acts h.steps
run_in nodes slots acts r h = run_of slots nodes acts h.steps h.short h.is_run

-- and that which left a cluster
pub left_run : (nodes slots : ℕ) (w : World) (r : Report) (left : IsLeft nodes slots w r)
    → IsRunOf nodes slots (start nodes) (acts_in r) left.steps
left_run nodes slots w r left = run_of slots nodes (acts_in r) left.steps left.short left.is_run

-- ---- one act more

run_few : (slots nodes limit : ℕ) (acts : List Act) (steps : List Step) (w : World) → IsRunOf nodes slots w acts steps
    → AllStates (FewGiven limit) w → AllStates (FewGiven (limit + length acts)) (world_at nodes w steps)
run_few slots nodes limit [] [] w run few = subst (λ (k : ℕ). AllStates (FewGiven k) w) (let e : limit ≡ limit + 0 = omega arith in e) few
run_few slots nodes limit (a ∷ acts) (step ∷ steps) w run few =
    subst (λ (k : ℕ). AllStates (FewGiven k) (world_at nodes (world_after nodes w step) steps))
    (let e : limit + 1 + length acts ≡ limit + suc (length acts) = omega arith in e)
    (run_few slots nodes (limit + 1) acts steps (world_after nodes w step) run.2 (step_few slots nodes limit w step run.1 few))
run_few slots nodes limit _ _ w run few = absurd run

-- the step of the next act is exact, unless it is refused because the areas of a disk are used up
pub exact_next : (slots nodes : ℕ) (acts : List Act) (steps : List Step) (a : Act) (step : Step) → length acts + 2 < 2 ^ 64
    → IsRunOf nodes slots (start nodes) acts steps → IsNext nodes slots (world_at nodes (start nodes) steps) a step
    → act_outcome nodes (world_at nodes (start nodes) steps) a step ≢ outcome.Refused (Node AreaExhausted)
    → IsExactStep nodes slots (world_at nodes (start nodes) steps) a step
exact_next slots nodes acts steps a step short run next never_area_exhausted =
    let w : World = world_at nodes (start nodes) steps in
    let lawful = lawful_of slots nodes w step next.allowed next.of_slots in
    exact_step slots nodes w a step next.of_act lawful
    (step_unspent slots nodes (1 + length acts) w a step next.of_act lawful
    (run_few slots nodes 1 acts steps (start nodes) run (opens_few nodes)) (omega (arith, short))) never_area_exhausted

-- ---- nothing is used up in an exact run

module _ (slots n nodes : ℕ) (s : NodeState) where
  comes_by : (event : Event) (what : HistoryEvent) (core : Option CoreFault) (room : Option Refusal)
      → no_room slots s.durable (wants_at n nodes s event) ≡ room → ComesOf (option_or (option_map Core core) room) n nodes s event what
      → IsUsedUp what → ⊥
  comes_by event what (Some fault) room is h up = subst IsUsedUp h up
  comes_by event what None (Some why) is h up =
      (let put = full_why slots s.durable (wants_at n nodes s event) why is in
      subst IsUsedUp (h ∙ ap (λ (x : Refusal). Refused event x) put.is) up)
  comes_by event what None None is h up = elim h [ inl did ↦ subst IsUsedUp did up | inr failed ↦ subst IsUsedUp failed.0 up ]

  comes_usable : (event : Event) (what : HistoryEvent) → ComesOf (refusal_at slots n nodes s event) n nodes s event what → IsUsedUp what → ⊥
  comes_usable event what h up =
      comes_by event what (refusal_of nodes n event s.state) (no_room slots s.durable (wants_at n nodes s event)) refl
      (subst (λ (x : Option Refusal). ComesOf x n nodes s event what) (refusal_is slots n nodes s event) h) up

  mounting_usable : (what : HistoryEvent) → ComesOfMounting s what → IsUsedUp what → ⊥
  mounting_usable what h up = elim h [
    | inl failed ↦ subst IsUsedUp failed up
    | inr mounts ↦ elim mounts.2 [ inl e ↦ subst IsUsedUp e up | inr e ↦ subst IsUsedUp e up ]
  ]

  usable : (event : Event) (what : HistoryEvent) → MayCome slots n nodes s event what → IsUsedUp what → ⊥
  usable (on.Timer timer) what h up = comes_usable (on.Timer timer) what h up
  usable (on.Deliver m) what h up = comes_usable (on.Deliver m) what h up
  usable (on.Submit work) what h up = comes_usable (on.Submit work) what h up
  usable (on.Finish origin id) what h up = comes_usable (on.Finish origin id) what h up
  usable on.Recover what h up = pick (is_down s.state.phase) h
    where
      pick : (b : Bool) → Recovers b s what → ⊥
      pick true it = mounting_usable what it up
      pick false it = elim it [ inl did ↦ subst IsUsedUp did up | inr failed ↦ subst IsUsedUp failed up ]

compact_usable : (s : NodeState) (what : HistoryEvent) → MayCompact s what → IsUsedUp what → ⊥
compact_usable s what h up = pick (is_down s.state.phase) h
  where
    pick : (b : Bool) → ByPhase b what → ⊥
    pick true it = subst IsUsedUp it up
    pick false it = elim it [ inl e ↦ subst IsUsedUp e up | inr e ↦ subst IsUsedUp e up ]

abbrev SaysUsedUp : Outcome → Type 0
SaysUsedUp o = (o ≡ outcome.Refused (Node Exhausted)) ⊎ (o ≡ outcome.Refused (Node AreaExhausted))

usable_outcome : (n nodes first : ℕ) (s : NodeState) (what : HistoryEvent) (a : Act) → (IsUsedUp what → ⊥)
    → SaysUsedUp (what_outcome n nodes first s what a) → ⊥
usable_outcome n nodes first s (Refused event Exhausted) a may says = may tt
usable_outcome n nodes first s (Refused event AreaExhausted) a may says = may tt
usable_outcome n nodes first s (NoOp CompactAreaExhausted) a may says = may tt
usable_outcome n nodes first s Crashed (act.Compact m) may says = elim says [ inl is ↦ absurd cc | inr is ↦ absurd cc ]
usable_outcome n nodes first s (RaiseRefused kept) a may says = may tt
usable_outcome n nodes first s _ a may says = elim says [ inl is ↦ absurd cc | inr is ↦ absurd cc ]

usable_rest : (w : World) (n : ℕ) (what : HistoryEvent) → Rests (λ (n : ℕ). MayCompact (node_in w.states n)) n what → IsUsedUp what → ⊥
usable_rest w n what rest up = elim rest [
  | inl c ↦ compact_usable (node_in w.states n) what c up
  | inr other ↦ elim other [ inl is ↦ subst IsUsedUp is up | inr is ↦ subst IsUsedUp is up ]
]

usable_step : (slots nodes : ℕ) (w : World) (a : Act) (step : Step) → IsExactStep nodes slots w a step
    → SaysUsedUp (act_outcome nodes w a step) → ⊥
usable_step slots nodes w = by_act (λ (n : ℕ). MayCome slots n nodes (node_in w.states n)) (λ (n : ℕ). MayCompact (node_in w.states n))
    nodes w (λ (a : Act) (step : Step). SaysUsedUp (act_outcome nodes w a step) → ⊥)
    (λ a n k event what known is e. usable_outcome n nodes _ (node_in w.states n) what a
    (usable slots n nodes (node_in w.states n) event what e))
    (λ a n what known none rest. usable_outcome n nodes _ (node_in w.states n) what a (usable_rest w n what rest))
    (λ a net none same says. elim says [ inl is ↦ absurd cc | inr is ↦ absurd cc ])
    (λ a n why no says. elim says [ inl is ↦ no Exhausted (cc is) | inr is ↦ no AreaExhausted (cc is) ])

usable_from : (slots nodes : ℕ) (acts : List Act) (steps : List Step) (w : World) → IsExactRun nodes slots w acts steps
    → (k : ℕ) (m : Moment) → slice_get (moments_from nodes w acts steps) k ≡ Some m → SaysUsedUp m.outcome → ⊥
usable_from slots nodes [] steps w run k m at says = absurd cc
usable_from slots nodes (a ∷ acts) [] w run k m at says = absurd cc
usable_from slots nodes (a ∷ acts) (step ∷ steps) w run zero m at says =
    let it : moment_of nodes w a step ≡ m = cc at in
    usable_step slots nodes w a step run.0 (subst (λ (x : Moment). SaysUsedUp x.outcome) (sym it) says)
usable_from slots nodes (a ∷ acts) (step ∷ steps) w run (suc k) m at says =
    usable_from slots nodes acts steps (world_after nodes w step) run.1 k m at says

pub none_is_spent : NoneIsSpent
none_is_spent nodes slots acts r h k m at =
    let there : slice_get (moments_from nodes (start nodes) acts h.steps) k ≡ Some m =
    subst (λ (ms : List Moment). slice_get ms k ≡ Some m) (ap (λ (x : Report). x.moments) h.reported ∙ moments_are nodes acts h.steps) at in
    let none = usable_from slots nodes acts h.steps (start nodes) h.is_run k m there in
    (λ is. none (inl is), λ is. none (inr is))
