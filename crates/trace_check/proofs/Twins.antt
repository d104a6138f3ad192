-- What a node model's invariant says after an event.
use Rattle.std.proofs.Common.{◌≡◌, ℕ, Bool, true, false, List, [], ◌++◌, length, Option, None, inl, inr, refl, sym, ap, ◌∙◌, subst, arith}
use Rattle.std.proofs.lemmas.Bool.{cases_Bool}
use Rattle.std.proofs.lemmas.List.{append-nil, length-append, nil_from_length}
use Rattle.std.specs.Prelude.{◌↔◌, IsTrue, if◌then◌else◌}
use Rattle.job_model.specs.declared.node_command.NodeCommand.{NodeCommand as Command}
use Rattle.job_model.specs.Durable.{Durable}
use Rattle.job_model.specs.declared.job.Job.{Job}
use Rattle.job_model.specs.Answer.{answer_to}
use Rattle.job_model.specs.Fold.{after_wanted}
use Rattle.wire_msg.specs.Envelope.{Envelope}
use Rattle.node_core.specs.declared.event.Event.{Event}
use Rattle.node_core.specs.declared.event.Event.TheVariants.{Timer}
use Rattle.node_core.specs.declared.in_hand.InHand.{InHand}
use Rattle.node_core.specs.declared.phase.Phase.TheVariants.{Normal}
use Rattle.node_core.specs.declared.plan.Plan.{Plan}
use Rattle.node_core.specs.declared.timer.Timer.TheVariants.{Dispatch}
use Rattle.node_core.specs.Core.{Core, IsPlanFor}
use Rattle.node_core.specs.Effect.{Effect, quietly}
use Rattle.node_core.specs.Effects.{effect_of}
use Rattle.node_core.specs.NodeStep.{IsSpent}
use Rattle.node_core.specs.Planned.{plan_wants}
use Rattle.node_core.specs.Refusals.{refusal_of}
use Rattle.node_core.specs.Start.{down}
use Rattle.node_core.specs.State.{State, in_phase, is_down}
use Rattle.node_core.specs.Timers.{timed}
use Rattle.node_core.specs.Wants.{wants_of}
use Rattle.histories.specs.NodeState.{NodeState, wants_at, effect_at}
use Rattle.histories.specs.Possible.{IsForNode, Takes}
use Rattle.histories.specs.declared.history_event.HistoryEvent.{HistoryEvent}
use Rattle.histories.specs.declared.history_event.HistoryEvent.TheVariants.{Did}
use Rattle.histories.proofs.PublicLaws.{at_down, stays_up}
use Rattle.trace_check.specs.Twins.{Twin, twin, IsTwin, Judged, RestsAt}

clash : (b : Bool) → b ≡ true → b ≡ false → ⊥
clash true t f = absurd cc
clash false t f = absurd cc

-- nothing in doubt isn't spent
sure_not_spent : (d : Durable) (doubt : Option Command) → doubt ≡ None → IsSpent d doubt → ⊥
sure_not_spent d doubt none spent = subst (λ (o : Option Command). IsSpent d o) none spent

pub twin_up : (t : Twin) → is_down t.node.state.phase ≡ false → t.node.doubt ≡ None → IsTwin t
twin_up t up none = record {
  fallen = λ fallen. absurd (clash (is_down t.node.state.phase) fallen up);
  sure = λ _. none;
  not_spent = sure_not_spent t.node.durable t.node.doubt none;
}

pub twin_down : (t : Twin) → t.node.state ≡ down t.id → (IsSpent t.node.durable t.node.doubt → ⊥) → IsTwin t
twin_down t is not_spent = record {
  fallen = λ _. is;
  sure = λ up. absurd (clash (is_down t.node.state.phase) (ap (λ (s : State). is_down s.phase) is) up);
  not_spent = not_spent;
}

-- after an event that was handled
twin_handled : (t new : Twin) (event : Event) → IsTwin t → IsForNode t.node.state event → refusal_of t.nodes t.id event t.node.state ≡ None
    → new.id ≡ t.id
    → new.node.doubt ≡ t.node.doubt → new.node.state ≡ (effect_at t.id t.nodes t.node event).state
    → new.node.durable ≡ after_wanted t.node.durable (wants_at t.id t.nodes t.node event) → IsTwin new
twin_handled t new event is for_node taken id doubt state durable = elim (cases_Bool (is_down t.node.state.phase)) [
  | inl fallen ↦ (
      let stays = at_down t.id t.nodes t.node event (is.fallen fallen) for_node taken in
      let kept : new.node.durable ≡ t.node.durable = durable ∙ ap (λ (o : Option Command). after_wanted t.node.durable o) stays.wants in
      twin_down new (state ∙ stays.state ∙ ap (λ (n : ℕ). down n) (sym id))
      (λ spent. is.not_spent (subst (λ (o : Option Command). IsSpent t.node.durable o) doubt
      (subst (λ (d : Durable). IsSpent d new.node.doubt) kept spent)))
      )
  | inr up ↦ twin_up new (ap (λ (s : State). is_down s.phase) state ∙ stays_up t.nodes t.id t.node.durable.pending event _ t.node.state up)
      (doubt ∙ is.sure up)
]

-- the plan of an event, carried out: what it wants, and what it makes
record IsCarriedOut (t : Twin) (event : Event) (wants : Option Command) (effect : Effect) : Type 0 where
  wanted : wants ≡ wants_at t.id t.nodes t.node event
  made : effect ≡ effect_at t.id t.nodes t.node event

carried_out : (t : Twin) (event : Event) (core : Core) (pending : List Job) (plan : Plan) (wants : Option Command) (answer : ℕ)
    (effect : Effect)
    → core.id ≡ t.id → core.nodes ≡ t.nodes → core.state ≡ t.node.state → pending ≡ t.node.durable.pending
    → IsPlanFor core pending event plan → wants ≡ plan_wants plan → answer ≡ answer_to t.node.durable wants
    → ((p : List Job) (e : Event) → IsPlanFor core p e plan → effect_of core.nodes core.id p e answer core.state ≡ effect)
    → IsCarriedOut t event wants effect
carried_out t event core pending plan wants answer effect id nodes state jobs is wanted answered step =
    let same : wants ≡ wants_at t.id t.nodes t.node event =
    wanted ∙ is.wants_is ∙ ap (λ (n : ℕ). wants_of n pending event core.state) id
    ∙ ap (λ (p : List Job). wants_of t.id p event core.state) jobs
    ∙ ap (λ (s : State). wants_of t.id t.node.durable.pending event s) state in
    record {
      wanted = same;
      made =
          sym (step pending event is) ∙ ap (λ (n : ℕ). effect_of n core.id pending event answer core.state) nodes
          ∙ ap (λ (n : ℕ). effect_of t.nodes n pending event answer core.state) id
          ∙ ap (λ (p : List Job). effect_of t.nodes t.id p event answer core.state) jobs
          ∙ ap (λ (s : State). effect_of t.nodes t.id t.node.durable.pending event answer s) state
          ∙ ap (λ (n : ℕ). effect_of t.nodes t.id t.node.durable.pending event n t.node.state)
          (answered ∙ ap (λ (o : Option Command). answer_to t.node.durable o) same);
    }

-- the node model that an event leaves that was handled, and what was sent
pub record IsHandled (t new : Twin) (event : Event) (sent : List Envelope) : Type 0 where
  pub twin : IsTwin new
  pub judged : Judged t new (Did event) sent true

pub handled : (t : Twin) (event : Event) (core left : Core) (pending : List Job) (plan : Plan) (wants doubt : Option Command) (answer : ℕ)
    (durable : Durable) (sent : List Envelope)
    → core.id ≡ t.id → core.nodes ≡ t.nodes → core.state ≡ t.node.state → pending ≡ t.node.durable.pending
    → IsPlanFor core pending event plan → wants ≡ plan_wants plan → answer ≡ answer_to t.node.durable wants
    → ((p : List Job) (e : Event) → IsPlanFor core p e plan → effect_of core.nodes core.id p e answer core.state
    ≡ record { state = left.state; sent = sent })
    → IsTwin t → Takes t.id t.nodes t.node event → refusal_of t.nodes t.id event t.node.state ≡ None → left.id ≡ t.id
    → durable ≡ after_wanted t.node.durable wants → doubt ≡ t.node.doubt → IsHandled t (twin left durable doubt) event sent
handled t event core left pending plan wants doubt answer durable sent id nodes state jobs is wanted answered step fits takes taken same put
    sure =
    let done = carried_out t event core pending plan wants answer _ id nodes state jobs is wanted answered step in
    let state_is : left.state ≡ (effect_at t.id t.nodes t.node event).state = ap (λ (e : Effect). e.state) done.made in
    let durable_is : durable ≡ after_wanted t.node.durable (wants_at t.id t.nodes t.node event) = put
    ∙ ap (λ (o : Option Command). after_wanted t.node.durable o) done.wanted in
    record {
      twin = twin_handled t (twin left durable doubt) event fits takes.0 taken same sure state_is durable_is;
      judged = ((takes, ap (λ (e : Effect). e.sent) done.made), λ i. record { state = state_is i; durable = durable_is i; doubt = sure i });
    }

-- so where another list is said to be sent
pub judged_same : (t new : Twin) (what : HistoryEvent) (made sent : List Envelope) (b : Bool) → Judged t new what made true
    → (IsTrue b ↔ (made ≡ sent)) → Judged t new what sent b
judged_same t new what made sent true is same = ((is.0.0, sym (same.0 refl) ∙ is.0.1), is.1)
judged_same t new what made sent false is same = λ comes. let yes : false ≡ true = same.1 (is.0.1 ∙ sym comes.1) in cc

-- a hand that grew by jobs, and is as long as it was, is as it was
none_taken : (s : State) (jobs : List InHand) → length (s.hand ++ jobs) ≡ length s.hand → record s { hand = s.hand ++ jobs } ≡ s
none_taken s jobs same =
    let none : jobs ≡ [] = nil_from_length jobs (omega (arith, length-append s.hand jobs, same)) in
    ap (λ (hand : List InHand). record s { hand = hand }) (ap (λ (more : List InHand). s.hand ++ more) none ∙ append-nil s.hand)

-- by whether the node is Normal
none_taken_by : (b : Bool) (s : State) (jobs : List InHand) (sent : List Envelope)
    → length (if b then record { state = record s { hand = s.hand ++ jobs }; sent = sent } else quietly s).state.hand ≡ length s.hand
    → (if b then record { state = record s { hand = s.hand ++ jobs }; sent = sent } else quietly s).state ≡ s
none_taken_by true s jobs sent same = none_taken s jobs same
none_taken_by false s jobs sent same = refl

-- a dispatch after which the hand is as long as it was leaves the state as it was
dispatch_rests : (nodes self : ℕ) (pending : List Job) (answer : ℕ) (s : State)
    → length (timed nodes self pending Dispatch answer s).state.hand ≡ length s.hand
    → (timed nodes self pending Dispatch answer s).state ≡ s
unfolding timed
dispatch_rests nodes self pending answer s same = none_taken_by (in_phase Normal s.phase) s _ _ same

-- so the next one has nothing to do, where that one sent nothing
pub rests : (t new : Twin) (event : Event) (sent : List Envelope) → event ≡ Timer Dispatch → Judged t new (Did event) sent true
    → new.id ≡ t.id → new.nodes ≡ t.nodes → length sent ≡ 0 → length new.node.state.hand ≡ length t.node.state.hand → RestsAt new
rests t new event sent dispatch judged id nodes none long =
    let is : Judged t new (Did (Timer Dispatch)) sent true = subst (λ (e : Event). Judged t new (Did e) sent true) dispatch judged in
    let state : (effect_at t.id t.nodes t.node (Timer Dispatch)).state ≡ t.node.state =
    dispatch_rests t.nodes t.id t.node.durable.pending _ t.node.state (ap (λ (n : NodeState). length n.state.hand) (sym is.1) ∙ long) in
    let same : new.node ≡ t.node = is.1 ∙ ap (λ (s : State). record { state = s; durable = t.node.durable; doubt = t.node.doubt }) state in
    let all : new ≡ t = λ i. record { id = id i; nodes = nodes i; node = same i } in
    subst RestsAt (sym all) (record { comes = (is.0.0, sym (nil_from_length sent none) ∙ is.0.1); stays = sym same ∙ is.1 })
