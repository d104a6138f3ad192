-- The counts of the groups that a node leads rise.
use Rattle.std.proofs.Common.{◌≡◌, ◌≢◌, ◌⊎◌, ℕ, zero, suc, ◌<◌, ◌≤◌, List, [], ◌∷◌, slice_get, refl, sym, ◌∙◌, ap, subst}
use Rattle.std.proofs.Common.{inl, inr, arith, Option, Some}
use Rattle.group_task.specs.Group.{Group}
use Rattle.group_task.specs.Assignment.{Assignment}
use Rattle.job_model.specs.declared.node_command.NodeCommand.{NodeCommand as Command}
use Rattle.job_model.specs.declared.node_command.NodeCommand.TheVariants.{Raise}
use Rattle.job_model.specs.Durable.{Durable}
use Rattle.job_model.specs.Fold.{after_wanted}
use Rattle.wire_msg.specs.Envelope.{Envelope}
use Rattle.node_core.specs.declared.phase.Phase.{Phase}
use Rattle.node_core.specs.declared.phase.Phase.TheVariants.{Down, Election, Reorganization, Normal}
use Rattle.node_core.specs.State.{State}
use Rattle.node_core.specs.Words.{own_group}
use Rattle.histories.specs.NodeState.{NodeState, opening, wants_at}
use Rattle.histories.specs.declared.history_event.HistoryEvent.{HistoryEvent}
use Rattle.histories.specs.declared.history_event.HistoryEvent.TheVariants.{Did, Faulted, Crashed, Recovered}
use Rattle.histories.specs.declared.history_event.HistoryEvent.TheVariants.{RaiseFailed}
use Rattle.histories.specs.After.{after, raised}
use Rattle.histories.specs.Possible.{IsPossible}
use Rattle.histories.proofs.PublicLaws.{AnyGroup, AnyWork, GroupMove, assigns, calls, completes, entry_does, falls, joins}
use Rattle.histories.proofs.PublicLaws.{starts_alone, settled_grows, stays, takes, wanted_grows}
use Rattle.schedule.specs.declared.act.Act.{Act}
use Rattle.runs.specs.World.{World, start, node_in}
use Rattle.runs.specs.Step.{Step, world_after}
use Rattle.runs.specs.Acts.{IsLawful, IsRunOf}
use Rattle.runs.specs.Reporting.{Moment, Report, moment_of}
use Rattle.runs.specs.Uses.{Leads, LeaderCountsRise}
use Rattle.runs.proofs.ExactRuns.{run_in}
use Rattle.runs.proofs.Keeping.{GoesOn, node_goes_on, opens_with, AllStates, lawful_keeps}
use Rattle.runs.proofs.Reports.{moments_from, moments_are}
use Rattle.runs.proofs.Runs.{node_there, starts_opened}

-- who leads a group gave it the count of its disk
abbrev GivesLast : ℕ → State → ℕ → Type 0
GivesLast self s counter = s.phase ≢ Down → s.coordinator ≡ self → s.group ≡ own_group self counter

abbrev LeadsLast : ℕ → NodeState → Type 0
LeadsLast self s = GivesLast self s.state s.durable.counter

up_by : (p q : Phase) → p ≡ q → q ≢ Down → p ≢ Down
up_by p q is up down = up (sym is ∙ down)

moved : (self before now : ℕ) (old new : State) (came : List Envelope) (given : List ℕ) (made : List Assignment)
    → GroupMove self old came given made new → (given ≡ [] → now ≡ before)
    → ((k : ℕ) → given ≡ k ∷ [] → now ≡ k) → GivesLast self old before → GivesLast self new now
moved self before now old new came given made (stays ph co gr ta gi ma) same raised h up leads =
    gr ∙ h (up_by old.phase new.phase (sym ph) up) (sym co ∙ leads) ∙ ap (own_group self) (sym (same gi))
moved self before now old new came given made (falls ph gi ma) same raised h up leads = absurd (up ph)
moved self before now old new came given made (starts_alone k gi is ma) same raised h up leads = ap (λ (s : State). s.group) is
    ∙ ap (own_group self) (sym (raised k gi))
moved self before now old new came given made (calls k gi ph co gr ma) same raised h up leads = gr ∙ ap (own_group self) (sym (raised k gi))
moved self before now old new came given made (joins group ne ph co gr gi ma) same raised h up leads = absurd (ne (sym co ∙ leads))
moved self before now old new came given made (assigns members ph has ta co gr either gi ma) same raised h up leads =
    gr ∙ h (λ down. (let both : Election ≡ Down = sym ph ∙ down in absurd cc)) (sym co ∙ leads) ∙ ap (own_group self) (sym (same gi))
moved self before now old new came given made (takes m task ph is body from of has ta co gr normal gi ma) same raised h up leads =
    gr ∙ h (λ down. (let both : Reorganization ≡ Down = sym ph ∙ down in absurd cc)) (sym co ∙ leads) ∙ ap (own_group self) (sym (same gi))
moved self before now old new came given made (completes ph own ta co gr normal gi ma) same raised h up leads =
    gr ∙ h (λ down. (let both : Reorganization ≡ Down = sym ph ∙ down in absurd cc)) own ∙ ap (own_group self) (sym (same gi))

none_raised : (d : Durable) (wants : Option Command) → raised d wants ≡ [] → (after_wanted d wants).counter ≡ d.counter
none_raised d (Some Raise) is = absurd cc
none_raised d _ is = refl

one_raised : (d : Durable) (wants : Option Command) (k : ℕ) → raised d wants ≡ k ∷ [] → (after_wanted d wants).counter ≡ k
one_raised d (Some Raise) k is = cc is
one_raised d _ k is = absurd cc

leads_after : (self nodes : ℕ) (s : NodeState) (what : HistoryEvent) → IsPossible self nodes s what → LeadsLast self s
    → LeadsLast self (after self nodes s what)
leads_after self nodes s (Did event) may h =
    let row = entry_does AnyGroup AnyWork AnyWork self nodes s (Did event) may in
    moved self s.durable.counter (after self nodes s (Did event)).durable.counter s.state _ _ _ row.made row.moves
    (none_raised s.durable (wants_at self nodes s event)) (one_raised s.durable (wants_at self nodes s event)) h
leads_after self nodes s (Faulted event) may h = λ up leads. absurd (up refl)
leads_after self nodes s Crashed may h = λ up leads. absurd (up refl)
leads_after self nodes s (Recovered kept) may h = λ up leads. refl
leads_after self nodes s (RaiseFailed kept) may h = λ up leads. absurd (up refl)
leads_after self nodes s _ may h = h

-- ---- the counter

counter_more : (self nodes : ℕ) (s : NodeState) (what : HistoryEvent) → s.durable.counter ≤ (after self nodes s what).durable.counter
counter_more self nodes s (Did event) = wanted_grows s.durable (wants_at self nodes s event)
counter_more self nodes s (Recovered kept) = omega (arith, settled_grows kept s)
counter_more self nodes s (RaiseFailed kept) = settled_grows kept s
counter_more self nodes s _ = omega arith

-- ---- a step

step_leads : (slots nodes : ℕ) (w : World) (step : Step) → IsLawful slots nodes w step → AllStates LeadsLast w
    → AllStates LeadsLast (world_after nodes w step)
step_leads slots nodes = lawful_keeps LeadsLast LeadsLast nodes slots (λ n s h. h) (λ n s what may fits h. leads_after n nodes s what may h)

never_less : (nodes : ℕ) (w : World) (step : Step) (n : ℕ) (s : NodeState) (on : GoesOn nodes w step n s)
    → s.durable.counter ≤ on.now.durable.counter
never_less nodes w step n s on = elim on.how [
  | inl same ↦ omega (arith, ap (λ (x : NodeState). x.durable.counter) same)
  | inr it ↦ rw it.3 (counter_more n nodes s it.1)
]

is_up : (s : State) → ((s.phase ≡ Normal) ⊎ (s.phase ≡ Reorganization)) → s.phase ≢ Down
is_up s either down = elim either [
  | inl e ↦ (let both : Normal ≡ Down = sym e ∙ down in absurd cc)
  | inr e ↦ (let both : Reorganization ≡ Down = sym e ∙ down in absurd cc)
]

-- the moment of a step at which a node leads shows the count that its disk has then
shown_count : (nodes n : ℕ) (w : World) (a : Act) (step : Step) (now : NodeState) → AllStates LeadsLast (world_after nodes w step)
    → slice_get (world_after nodes w step).states n ≡ Some now
    → (moment_of nodes w a step).node ≡ n → Leads n (moment_of nodes w a step).state
    → (moment_of nodes w a step).state.group.count ≡ now.durable.counter
shown_count nodes n w a step now all at named leads =
    let is : (moment_of nodes w a step).state ≡ now.state =
    ap (λ (j : ℕ). (node_in (world_after nodes w step).states j).state) named
    ∙ ap (λ (x : NodeState). x.state) (node_there (world_after nodes w step).states n now at) in
    let lead : Leads n now.state = subst (λ (x : State). Leads n x) is leads in
    ap (λ (x : State). x.group.count) is ∙ ap (λ (g : Group). g.count) (all n now at (is_up now.state lead.0) lead.1)

-- what a moment shows that n leads has no smaller count than its disk before
later_count : (k slots nodes n : ℕ) (acts : List Act) (steps : List Step) (w : World) (s : NodeState) (l : Moment)
    → IsRunOf nodes slots w acts steps → AllStates LeadsLast w → slice_get w.states n ≡ Some s
    → slice_get (moments_from nodes w acts steps) k ≡ Some l → l.node ≡ n → Leads n l.state → s.durable.counter ≤ l.state.group.count
later_count k slots nodes n [] steps w s l run all at is named leads = absurd cc
later_count k slots nodes n (a ∷ acts) [] w s l run all at is named leads = absurd run
later_count zero slots nodes n (a ∷ acts) (step ∷ steps) w s l run all at is named leads =
    let on = node_goes_on nodes w step n s at in
    let it : moment_of nodes w a step ≡ l = cc is in
    let count = shown_count nodes n w a step on.now (step_leads slots nodes w step run.1 all) on.at (ap (λ (x : Moment). x.node) it ∙ named)
    (subst (λ (x : Moment). Leads n x.state) (sym it) leads) in
    omega (arith, never_less nodes w step n s on, count, ap (λ (x : Moment). x.state.group.count) it)
later_count (suc k) slots nodes n (a ∷ acts) (step ∷ steps) w s l run all at is named leads =
    let on = node_goes_on nodes w step n s at in
    omega (
      arith,
      never_less nodes w step n s on,
      later_count k slots nodes n acts steps (world_after nodes w step) on.now l run.2
          (step_leads slots nodes w step run.1 all) on.at is named leads,
    )

counts_rise : (j k slots nodes n : ℕ) (acts : List Act) (steps : List Step) (w : World) (s : NodeState) (m l : Moment)
    → IsRunOf nodes slots w acts steps → AllStates LeadsLast w → slice_get w.states n ≡ Some s → j < k
    → slice_get (moments_from nodes w acts steps) j ≡ Some m → slice_get (moments_from nodes w acts steps) k ≡ Some l → m.node ≡ n
    → l.node ≡ n → Leads n m.state → Leads n l.state
    → m.state.group.count ≤ l.state.group.count
counts_rise j zero slots nodes n acts steps w s m l run all at lt at_m at_l named_m named_l leads_m leads_l =
    absurd (let bad : j < 0 = lt in omega (arith, bad))
counts_rise j (suc k) slots nodes n [] steps w s m l run all at lt at_m at_l named_m named_l leads_m leads_l = absurd cc
counts_rise j (suc k) slots nodes n (a ∷ acts) [] w s m l run all at lt at_m at_l named_m named_l leads_m leads_l = absurd run
counts_rise zero (suc k) slots nodes n (a ∷ acts) (step ∷ steps) w s m l run all at lt at_m at_l named_m named_l leads_m leads_l =
    let on = node_goes_on nodes w step n s at in
    let it : moment_of nodes w a step ≡ m = cc at_m in
    let next = step_leads slots nodes w step run.1 all in
    let count = shown_count nodes n w a step on.now next on.at (ap (λ (x : Moment). x.node) it ∙ named_m)
    (subst (λ (x : Moment). Leads n x.state) (sym it) leads_m) in
    omega (
      arith,
      count,
      ap (λ (x : Moment). x.state.group.count) it,
      later_count k slots nodes n acts steps (world_after nodes w step) on.now l run.2 next on.at at_l named_l leads_l,
    )
counts_rise (suc j) (suc k) slots nodes n (a ∷ acts) (step ∷ steps) w s m l run all at lt at_m at_l named_m named_l leads_m leads_l =
    let on = node_goes_on nodes w step n s at in
    counts_rise j k slots nodes n acts steps (world_after nodes w step) on.now m l run.2 (step_leads slots nodes w step run.1 all) on.at
    (omega (arith, lt)) at_m at_l named_m named_l leads_m leads_l

opens_last : (nodes : ℕ) → AllStates LeadsLast (start nodes)
opens_last nodes = opens_with LeadsLast nodes (λ n up leads. refl)

pub leader_counts_rise : LeaderCountsRise
leader_counts_rise nodes slots acts r h n j k m l within lt at_m at_l named_m named_l leads_m leads_l =
    let moments : r.moments ≡ moments_from nodes (start nodes) acts h.steps = ap (λ (x : Report). x.moments) h.reported
    ∙ moments_are nodes acts h.steps in
    counts_rise j k slots nodes n acts h.steps (start nodes) (opening n) m l (run_in nodes slots acts r h) (opens_last nodes)
    (starts_opened nodes n within) lt
    (subst (λ (ms : List Moment). slice_get ms j ≡ Some m) moments at_m)
    (subst (λ (ms : List Moment). slice_get ms k ≡ Some l) moments at_l) named_m named_l leads_m leads_l
