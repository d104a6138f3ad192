-- An act that is refused changes nothing, and one that is done has the effect of its event's row.
use Rattle.std.proofs.Common.{◌≡◌, ℕ, ◌<◌, Bool, true, false, List, [], ◌∷◌, ◌++◌, length, take, slice_get, refl, sym, ◌∙◌, ap, subst}
use Rattle.std.proofs.Common.{inl, inr, arith, Option, Some, None}
use Rattle.std.specs.Prelude.{if◌then◌else◌, ◌==◌, nat_lt, option_map, unwrap_or, flat_map}
use Rattle.std.proofs.lemmas.Bool.Decides.{nat_tests}
use Rattle.std.proofs.lemmas.Grind.{flat_map-append}
use Rattle.std.proofs.lemmas.List.{append-nil}
use Rattle.job_model.specs.declared.node_command.NodeCommand.{NodeCommand as Command}
use Rattle.job_model.specs.Answer.{answer_of, answer_to}
use Rattle.job_model.specs.Durable.{Durable}
use Rattle.wire_msg.specs.Envelope.{Envelope}
use Rattle.node_core.specs.State.{State, is_down}
use Rattle.node_core.specs.Effects.{effect_of}
use Rattle.node_core.specs.Effect.{Effect}
use Rattle.node_core.specs.declared.event.Event.{Event}
use Rattle.histories.specs.NodeState.{NodeState, opening, wants_at, effect_at}
use Rattle.histories.specs.declared.history_event.HistoryEvent.{HistoryEvent}
use Rattle.histories.specs.declared.history_event.HistoryEvent.TheVariants.{Did, Refused, NoOp, Crashed, Recovered}
use Rattle.histories.specs.declared.history_event.HistoryEvent.TheVariants.{RaiseRefused}
use Rattle.histories.specs.declared.history_event.NoOpKind.TheVariants.{Nothing, Compacted, CompactDown, CompactAreaExhausted}
use Rattle.node_core.specs.declared.fault.CoreFault.TheVariants.{Down}
use Rattle.node_core.specs.declared.fault.Refusal.TheVariants.{Core}
use Rattle.histories.specs.HistoryEvent.{IsOf}
use Rattle.histories.specs.After.{after, sent_at}
use Rattle.histories.specs.Possible.{IsPossible}
use Rattle.histories.proofs.PublicLaws.{eq_nat}
use Rattle.schedule.specs.declared.act.Act.{Act}
use Rattle.schedule.specs.declared.act.Act.TheVariants as act
use Rattle.runs.specs.declared.outcome.Outcome.TheVariants as outcome
use Rattle.runs.specs.declared.outcome.ActRefusal.{ActRefusal}
use Rattle.runs.specs.declared.outcome.ActRefusal.TheVariants.{Node as OfNode}
use Rattle.runs.specs.declared.attempt_at.AttemptAt.{AttemptAt}
use Rattle.runs.specs.World.{World, node_in, start}
use Rattle.runs.specs.Step.{Step, Takes, Changes, Denies, step_sent, world_after}
use Rattle.runs.specs.Run.{world_at}
use Rattle.runs.specs.Acts.{At, IsCompaction, IsStepOf, IsLawful, IsRunOf, act_outcome, what_outcome}
use Rattle.runs.proofs.Acting.{by_act, event_by, same_event}
use Rattle.runs.specs.Reporting.{Moment, Report, moment_of, node_of, tries, commands_at, group_of, grown, first_report, report_from}
use Rattle.runs.specs.Uses.{report_within, last_of, last_state, all_sent, event_in, RefusedChangesNothing, DoneHasItsEffect}
use Rattle.runs.specs.Uses.{DownRefusesCompaction}
use Rattle.runs.proofs.ExactRuns.{run_in}
use Rattle.runs.proofs.Fronts.{front_of}
use Rattle.runs.proofs.Keeping.{GoesOn, node_goes_on}
use Rattle.runs.proofs.Lawful.{sent_there}
use Rattle.runs.proofs.Moments.{acts_front, front_report}
use Rattle.runs.proofs.Reported.{state_there}
use Rattle.runs.proofs.Runs.{node_there, starts_opened, state_here}

-- ---- the state that is shown last

last_append : (n : ℕ) (m : Moment) (ms : List Moment) (s : Option State)
    → last_of n s (ms ++ m ∷ []) ≡ (if m.node == n then Some m.state else last_of n s ms)
last_append n m [] s = refl
last_append n m (x ∷ ms) s = last_append n m ms (if x.node == n then Some x.state else s)

-- the node is shown last as it is in the world
record IsLast (w : World) (r : Report) (n : ℕ) : Type 0 where
  now : NodeState
  at : slice_get w.states n ≡ Some now
  shown : last_state r n ≡ Some now.state

step_last : (nodes n : ℕ) (w : World) (r : Report) (a : Act) (step : Step) → IsLast w r n
    → IsLast (world_after nodes w step) (grown nodes w a step r) n
step_last nodes n w r a step h = record {
  now = on.now;
  at = on.at;
  shown = last_append n (moment_of nodes w a step) r.moments (slice_get r.opening n) ∙ by_node (node_of step == n) refl;
}
  where
    on : GoesOn nodes w step n h.now
    on = node_goes_on nodes w step n h.now h.at

    new : List NodeState
    new = (world_after nodes w step).states

    by_node : (b : Bool) → (node_of step == n) ≡ b
        → (if b then Some (node_in new (node_of step)).state else last_state r n) ≡ Some on.now.state
    by_node true is = ap (λ (j : ℕ). Some (node_in new j).state) (eq_nat (node_of step) n is)
        ∙ ap (λ (x : NodeState). Some x.state) (node_there new n on.now on.at)
    by_node false is = elim on.how [
      | inl same ↦ h.shown ∙ ap (λ (x : NodeState). Some x.state) (sym same)
      | inr it ↦ (let node : node_of step ≡ n = ap node_of it.2 in
          let no : ⊥ = grind (arith, nat_tests, is, node) in absurd no)
    ]

run_last : (slots nodes n : ℕ) (acts : List Act) (steps : List Step) (w : World) (r : Report) → IsRunOf nodes slots w acts steps
    → IsLast w r n → IsLast (world_at nodes w steps) (report_from nodes w r acts steps) n
run_last slots nodes n [] [] w r run h = h
run_last slots nodes n (a ∷ acts) (step ∷ steps) w r run h =
    run_last slots nodes n acts steps (world_after nodes w step) (grown nodes w a step r) run.2 (step_last nodes n w r a step h)
run_last slots nodes n _ _ w r run h = absurd run

-- after the first acts
within_last : (slots nodes n k : ℕ) (acts : List Act) (steps : List Step) → IsRunOf nodes slots (start nodes) acts steps → n < nodes
    → IsLast (world_at nodes (start nodes) (take k steps)) (report_within nodes k acts steps) n
within_last slots nodes n k acts steps run within =
    let first : IsLast (start nodes) (first_report nodes) n =
    record {
      now = opening n;
      at = starts_opened nodes n within;
      shown = state_there (start nodes).states n (opening n) (starts_opened nodes n within);
    } in
    subst (λ (r : Report). IsLast (world_at nodes (start nodes) (take k steps)) r n) (sym (front_report nodes k acts steps))
    (run_last slots nodes n (take k acts) (take k steps) (start nodes) (first_report nodes)
    (acts_front k nodes slots acts steps (start nodes) run) first)

-- ---- what is refused

record IsQuiet (self nodes : ℕ) (s : NodeState) (what : HistoryEvent) : Type 0 where
  stays : after self nodes s what ≡ s
  silent : sent_at self nodes s what ≡ []
  untried : tries self nodes s what ≡ []

refused_what : (n nodes first : ℕ) (s : NodeState) (what : HistoryEvent) (a : Act) (why : ActRefusal)
    → what_outcome n nodes first s what a ≡ outcome.Refused why → IsQuiet n nodes s what
refused_what n nodes first s (Refused event fault) a why is = record { stays = refl; silent = refl; untried = refl }
refused_what n nodes first s (NoOp rest) a why is = record { stays = refl; silent = refl; untried = refl }
refused_what n nodes first s Crashed (act.Compact m) why is = absurd cc
refused_what n nodes first s (RaiseRefused kept) a why is = record { stays = refl; silent = refl; untried = refl }
refused_what n nodes first s _ a why is = absurd cc

-- a step that is refused
record IsIdle (nodes : ℕ) (w : World) (a : Act) (step : Step) : Type 0 where
  silent : step_sent nodes w step ≡ []
  untried : commands_at nodes w step ≡ []
  last : (r : Report) (n : ℕ) → IsLast w r n → last_state (grown nodes w a step r) n ≡ last_state r n

refused_last : (nodes : ℕ) (w : World) (a : Act) (step : Step) (why : ActRefusal) → act_outcome nodes w a step ≡ outcome.Refused why
    → (r : Report) (n : ℕ) → IsLast w r n → last_state (grown nodes w a step r) n ≡ last_state r n
refused_last nodes w a step why is r n h =
    let last = step_last nodes n w r a step h in
    let on = node_goes_on nodes w step n h.now h.at in
    let now : last.now ≡ on.now = cc (last.at, on.at) in
    last.shown ∙ ap (λ (x : NodeState). Some x.state) (now ∙ elim on.how [
      | inl same ↦ same
      | inr it ↦ it.3 ∙ subst (λ (x : NodeState). after n nodes x it.1 ≡ x) (node_there w.states n h.now h.at)
          (refused_what n nodes _ (node_in w.states n) it.1 a why (ap (act_outcome nodes w a) (sym it.2) ∙ is)).stays
    ]) ∙ sym h.shown

refused_step : (nodes : ℕ) (w : World) (a : Act) (step : Step) (why : ActRefusal) → act_outcome nodes w a step ≡ outcome.Refused why
    → IsIdle nodes w a step
refused_step nodes w a (Takes m number what) why is =
    let quiet = refused_what m nodes _ (node_in w.states m) what a why is in
    record { silent = quiet.silent; untried = rw quiet.untried refl; last = refused_last nodes w a (Takes m number what) why is }
refused_step nodes w a (Changes net) why is = absurd cc
refused_step nodes w a (Denies named reason) why is =
    record { silent = refl; untried = refl; last = refused_last nodes w a (Denies named reason) why is }

pub refused_changes_nothing : RefusedChangesNothing
refused_changes_nothing nodes slots acts r h k m why at is =
    let f = front_of nodes slots acts r h k m at in
    let before : Report = report_within nodes k acts h.steps in
    let idle = refused_step nodes f.before f.act f.step why (ap (λ (x : Moment). x.outcome) (sym f.is) ∙ is) in
    let commands : commands_at nodes f.before f.step ≡ [] = idle.untried in (
      ap (λ (x : Moment). x.sent) f.is ∙ idle.silent,
      ap (λ (x : Report). x.commands) f.grows ∙ (ap (λ (ts : List AttemptAt). before.commands ++ ts) commands ∙ append-nil before.commands),
      ap (λ (x : Report). x.groups) f.grows
          ∙ (ap (λ (ts : List AttemptAt). before.groups ++ flat_map (λ (t : AttemptAt). group_of t.node t.tried.command t.tried.acked) ts)
          commands ∙ append-nil before.groups),
      λ n within. ap (λ (x : Report). last_state x n) f.grows
          ∙ idle.last before n (subst (λ (w : World). IsLast w before n) (sym f.is_world)
          (within_last slots nodes n k acts h.steps (run_in nodes slots acts r h) within)),
    )

-- ---- what is done

step_all_sent : (slots nodes : ℕ) (w : World) (r : Report) (a : Act) (step : Step) → IsStepOf nodes w a step → all_sent r ≡ w.net.sent
    → all_sent (grown nodes w a step r) ≡ (world_after nodes w step).net.sent
step_all_sent slots nodes w r a step of h =
    flat_map-append (λ (m : Moment). m.sent) r.moments (moment_of nodes w a step ∷ [])
    ∙ (ap (λ (ms : List Envelope). ms ++ (step_sent nodes w step ++ [])) h
    ∙ (ap (λ (ms : List Envelope). w.net.sent ++ ms) (append-nil (step_sent nodes w step)) ∙ by_step step of))
  where
    by_step : (x : Step) → IsStepOf nodes w a x → w.net.sent ++ step_sent nodes w x ≡ (world_after nodes w x).net.sent
    by_step (Takes m number what) of = refl
    by_step (Changes net) of = append-nil w.net.sent ∙ sym (sent_there nodes w a net of)
    by_step (Denies named why) of = append-nil w.net.sent

run_all_sent : (slots nodes : ℕ) (acts : List Act) (steps : List Step) (w : World) (r : Report) → IsRunOf nodes slots w acts steps
    → all_sent r ≡ w.net.sent
    → all_sent (report_from nodes w r acts steps) ≡ (world_at nodes w steps).net.sent
run_all_sent slots nodes [] [] w r run h = h
run_all_sent slots nodes (a ∷ acts) (step ∷ steps) w r run h =
    run_all_sent slots nodes acts steps (world_after nodes w step)
    (grown nodes w a step r) run.2 (step_all_sent slots nodes w r a step run.0 h)
run_all_sent slots nodes _ _ w r run h = absurd run

-- this event came to this node
abbrev CameTo : ℕ → HistoryEvent → ℕ → Event → Type 0
CameTo m what n event = (m ≡ n) × IsOf event what

-- the event of an act is that of its step
abbrev Came : World → Act → Step → Type 0
Came w a (Takes m number what) = (n : ℕ) (event : Event) → event_by w.net.sent a ≡ Some (n, event) → CameTo m what n event
Came w a (Changes net) = event_by w.net.sent a ≡ None
Came w a (Denies named why) = Unit {0}

came_there : (nodes : ℕ) (w : World) (a : Act) (step : Step) → IsStepOf nodes w a step → Came w a step
came_there nodes w = by_act (λ (n : ℕ) (event : Event). IsOf event) (λ (n : ℕ). IsCompaction (node_in w.states n)) nodes w (Came w)
    (λ a m k x what known is of n event other. let same = same_event m n x event (sym is.is ∙ other) in
    (same.0, subst (λ (e : Event). IsOf e what) same.1 of))
    (λ a m what known none rest n event other. (let both : None ≡ Some (n, event) = sym none ∙ other in absurd cc))
    (λ a net none same. none) (λ a n why no. tt)

-- a report tells it by what it says was sent
event_is : (r : Report) (sent : List Envelope) (a : Act) → all_sent r ≡ sent → event_in r a ≡ event_by sent a
event_is r sent (act.Deliver k) all = ap (λ (ms : List Envelope). event_by ms (act.Deliver k)) all
event_is r sent _ all = refl

-- it was handled
record IsHandled (n nodes : ℕ) (s : NodeState) (what : HistoryEvent) (event : Event) (answer : Option ℕ) : Type 0 where
  did : what ≡ Did event
  answers : answer ≡ option_map (answer_of s.durable) (wants_at n nodes s event)

done_what : (n nodes first p q : ℕ) (s : NodeState) (what : HistoryEvent) (a : Act) (event : Event) (answer : Option ℕ)
    → IsPossible n nodes s what → is_down s.state.phase ≡ false → IsOf event what
    → what_outcome n nodes first s what a ≡ outcome.Done answer p q → IsHandled n nodes s what event answer
done_what n nodes first p q s (Did e) a event answer may up of is =
    let same : e ≡ event = cc of in
    let answers : option_map (answer_of s.durable) (wants_at n nodes s e) ≡ answer = cc is in
    record { did = ap Did same; answers = sym answers ∙ ap (λ (x : Event). option_map (answer_of s.durable) (wants_at n nodes s x)) same }
done_what n nodes first p q s (Recovered kept) a event answer may up of is = (let both : true ≡ false = sym may.0 ∙ up in absurd cc)
done_what n nodes first p q s _ a event answer may up of is = absurd cc

answer_given : (d : Durable) (wants : Option Command) → unwrap_or (option_map (answer_of d) wants) 0 ≡ answer_to d wants
answer_given d None = refl
answer_given d (Some c) = refl

-- the row's effect on a node, whose disk keeps these jobs
abbrev Effected : ℕ → ℕ → NodeState → Event → Option ℕ → Moment → Type 0
Effected nodes n s event answer m =
    (m.node ≡ n) × (m.state ≡ (effect_of nodes n s.durable.pending event (unwrap_or answer 0) s.state).state)
    × (m.sent ≡ (effect_of nodes n s.durable.pending event (unwrap_or answer 0) s.state).sent)

effect_given : (nodes n : ℕ) (s : NodeState) (event : Event) (answer : Option ℕ)
    → answer ≡ option_map (answer_of s.durable) (wants_at n nodes s event)
    → effect_at n nodes s event ≡ effect_of nodes n s.durable.pending event (unwrap_or answer 0) s.state
effect_given nodes n s event answer is =
    ap (λ (x : ℕ). effect_of nodes n s.durable.pending event x s.state)
    (sym (answer_given s.durable (wants_at n nodes s event)) ∙ ap (λ (x : Option ℕ). unwrap_or x 0) (sym is))

done_step : (slots nodes n p q : ℕ) (w : World) (r : Report) (a : Act) (step : Step) (event : Event) (answer : Option ℕ) (s : NodeState)
    → IsStepOf nodes w a step → IsLawful slots nodes w step → all_sent r ≡ w.net.sent
    → event_in r a ≡ Some (n, event) → slice_get w.states n ≡ Some s → is_down s.state.phase ≡ false
    → act_outcome nodes w a step ≡ outcome.Done answer p q → Effected nodes n s event answer (moment_of nodes w a step)
done_step slots nodes n p q w r a (Takes m number what) event answer s of may all named at up is =
    let came = came_there nodes w a (Takes m number what) of n event (sym (event_is r w.net.sent a all) ∙ named) in
    let there : slice_get w.states m ≡ Some s = subst (λ (j : ℕ). slice_get w.states j ≡ Some s) (sym came.0) at in
    let was : node_in w.states m ≡ s = node_there w.states m s there in
    let same : may.0 ≡ s = cc (may.1, there) in
    let possible : IsPossible m nodes s what = subst (λ (x : NodeState). IsPossible m nodes x what) same may.2 in
    let handled = done_what m nodes (length w.net.sent) p q s what a event answer possible up came.1
    (subst (λ (x : NodeState). what_outcome m nodes (length w.net.sent) x what a ≡ outcome.Done answer p q) was is) in
    let new : List NodeState = (world_after nodes w (Takes m number what)).states in
    let now : node_in new m ≡ after m nodes s what = node_there new m (after m nodes s what)
    (state_here m m nodes what w.states s refl there) in
    let at_n : effect_at m nodes s event ≡ effect_of nodes n s.durable.pending event (unwrap_or answer 0) s.state =
    effect_given nodes m s event answer handled.answers ∙ ap (λ (j : ℕ).
    effect_of nodes j s.durable.pending event (unwrap_or answer 0) s.state) came.0 in (
      came.0,
      ap (λ (x : NodeState). x.state) now ∙ (ap (λ (x : HistoryEvent). (after m nodes s x).state) handled.did
          ∙ ap (λ (e : Effect). e.state) at_n),
      ap (λ (x : NodeState). sent_at m nodes x what) was ∙ (ap (λ (x : HistoryEvent). sent_at m nodes s x) handled.did
          ∙ ap (λ (e : Effect). e.sent) at_n),
    )
done_step slots nodes n p q w r a (Changes net) event answer s of may all named at up is =
    (let both : None ≡ Some (n, event) = sym (came_there nodes w a (Changes net) of) ∙ sym (event_is r w.net.sent a all) ∙ named in
    absurd cc (both))
done_step slots nodes n p q w r a (Denies m why) event answer s of may all named at up is = absurd cc

pub done_has_its_effect : DoneHasItsEffect
done_has_its_effect nodes slots acts r h k m answer first many n event s within at is named shown up =
    let f = front_of nodes slots acts r h k m at in
    let before : Report = report_within nodes k acts h.steps in
    let all : all_sent before ≡ f.before.net.sent = ap all_sent (front_report nodes k acts h.steps)
    ∙ run_all_sent slots nodes (take k acts) (take k h.steps) (start nodes) (first_report nodes)
    (acts_front k nodes slots acts h.steps (start nodes) (run_in nodes slots acts r h)) refl
    ∙ ap (λ (w : World). w.net.sent) (sym f.is_world) in
    let last = within_last slots nodes n k acts h.steps (run_in nodes slots acts r h) within in
    let here : slice_get f.before.states n ≡ Some last.now = ap (λ (w : World). slice_get w.states n) f.is_world ∙ last.at in
    let same : last.now.state ≡ s = cc (last.shown, shown) in
    let was : node_in (world_at nodes (start nodes) (take k h.steps)).states n ≡ last.now = node_there _ n last.now last.at in
    let is_act : m.act ≡ f.act = ap (λ (x : Moment). x.act) f.is in
    let done = done_step slots nodes n first many f.before before f.act f.step event answer last.now f.of_act f.lawful all
    (ap (event_in before) (sym is_act) ∙ named) here
    (subst (λ (x : State). is_down x.phase ≡ false) (sym same) up) (ap (λ (x : Moment). x.outcome) (sym f.is) ∙ is) in
    let effect : effect_of nodes n last.now.durable.pending event (unwrap_or answer 0) last.now.state
    ≡ effect_of nodes n (node_in (world_at nodes (start nodes) (take k h.steps)).states n).durable.pending event (unwrap_or answer 0) s =
    ap (λ (x : NodeState). effect_of nodes n x.durable.pending event (unwrap_or answer 0) last.now.state) (sym was)
    ∙ ap (λ (x : State). effect_of nodes n (node_in (world_at nodes (start nodes) (take k h.steps)).states n).durable.pending event
    (unwrap_or answer 0) x) same in (
      ap (λ (x : Moment). x.node) f.is ∙ done.0,
      ap (λ (x : Moment). x.state) f.is ∙ (done.1 ∙ ap (λ (e : Effect). e.state) effect),
      ap (λ (x : Moment). x.sent) f.is ∙ (done.2 ∙ ap (λ (e : Effect). e.sent) effect),
    )

-- ---- a compaction at a node that is down

compaction_down : (n nodes first m : ℕ) (s : NodeState) (what : HistoryEvent) → IsCompaction s what → IsPossible n nodes s what
    → is_down s.state.phase ≡ true
    → what_outcome n nodes first s what (act.Compact m) ≡ outcome.Refused (OfNode (Core Down))
compaction_down n nodes first m s (NoOp Nothing) is may down = absurd is
compaction_down n nodes first m s (NoOp Compacted) is may down = absurd (let both : true ≡ false = sym down ∙ may in cc)
compaction_down n nodes first m s (NoOp CompactDown) is may down = refl
compaction_down n nodes first m s (NoOp CompactAreaExhausted) is may down = absurd (let both : true ≡ false = sym down ∙ may in cc)
compaction_down n nodes first m s Crashed is may down = absurd (let both : true ≡ false = sym down ∙ is in cc)
compaction_down n nodes first m s _ is may down = absurd is

down_step : (slots nodes n : ℕ) (w : World) (step : Step) (s : NodeState) (known : Bool) → known ≡ true
    → At known n 0 (IsCompaction (node_in w.states n)) step → IsLawful slots nodes w step
    → slice_get w.states n ≡ Some s → is_down s.state.phase ≡ true
    → act_outcome nodes w (act.Compact n) step ≡ outcome.Refused (OfNode (Core Down))
down_step slots nodes n w step s true is h may at down =
    let lawful : IsLawful slots nodes w (Takes n 0 h.0) = subst (IsLawful slots nodes w) h.1 may in
    let same : lawful.0 ≡ s = cc (lawful.1, at) in
    let here : node_in w.states n ≡ s = node_there w.states n s at in
    let possible : IsPossible n nodes s h.0 = subst (λ (x : NodeState). IsPossible n nodes x h.0) same lawful.2 in
    let of : IsCompaction s h.0 = subst (λ (x : NodeState). IsCompaction x h.0) here h.2 in
    ap (act_outcome nodes w (act.Compact n)) h.1 ∙ ap (λ (x : NodeState). what_outcome n nodes (length w.net.sent) x h.0 (act.Compact n))
    here
    ∙ compaction_down n nodes (length w.net.sent) n s h.0 of possible down
down_step slots nodes n w step s false is h may at down = absurd cc

pub down_refuses_compaction : DownRefusesCompaction
down_refuses_compaction nodes slots acts r h k m n s within at is_compact shown down =
    let f = front_of nodes slots acts r h k m at in
    let last = within_last slots nodes n k acts h.steps (run_in nodes slots acts r h) within in
    let here : slice_get f.before.states n ≡ Some last.now = ap (λ (w : World). slice_get w.states n) f.is_world ∙ last.at in
    let same : last.now.state ≡ s = cc (last.shown, shown) in
    let of : f.act ≡ act.Compact n = ap (λ (x : Moment). x.act) (sym f.is) ∙ is_compact in
    let known : nat_lt n nodes ≡ true = grind (arith, nat_tests, within) in
    ap (λ (x : Moment). x.outcome) f.is ∙ ap (λ (x : Act). act_outcome nodes f.before x f.step) of
    ∙ down_step slots nodes n f.before f.step last.now (nat_lt n nodes) known (subst (λ (x : Act). IsStepOf nodes f.before x f.step) of
    f.of_act) f.lawful here
    (ap (λ (x : State). is_down x.phase) same ∙ down)
