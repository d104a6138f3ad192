-- No run of acts is long enough to use up a counter or the ids.
use Rattle.std.proofs.Common.{◌≡◌, ◌≢◌, ℕ, ◌+◌, ◌^◌, ◌<◌, ◌≤◌, Bool, true, false, List, [], ◌∷◌, length, refl, sym, ◌∙◌, ap}
use Rattle.std.proofs.Common.{subst, inl, inr, arith, Option, Some, None}
use Rattle.job_model.specs.declared.node_command.NodeCommand.{NodeCommand as Command}
use Rattle.job_model.specs.declared.node_command.NodeCommand.TheVariants.{Raise, Put, Done}
use Rattle.job_model.specs.Durable.{Durable}
use Rattle.job_model.specs.Fold.{after_command, after_wanted}
use Rattle.node_core.specs.NodeStep.{IsSpent}
use Rattle.node_core.specs.declared.event.Event.{Event}
use Rattle.node_core.specs.declared.fault.Refusal.TheVariants.{Core, Exhausted}
use Rattle.histories.specs.Lists.{IsAmong}
use Rattle.histories.specs.NodeState.{NodeState, wants_at, settled}
use Rattle.histories.specs.declared.history_event.HistoryEvent.{HistoryEvent}
use Rattle.histories.specs.declared.history_event.HistoryEvent.TheVariants.{Did, Refused, Faulted, NoOp, Crashed, Recovered}
use Rattle.histories.specs.declared.history_event.HistoryEvent.TheVariants.{RaiseFailed, RaiseRefused}
use Rattle.histories.specs.declared.history_event.NoOpKind.TheVariants.{Nothing}
use Rattle.histories.specs.After.{after}
use Rattle.histories.specs.Possible.{IsPossible}
use Rattle.histories.specs.Counts.{IsShort}
use Rattle.histories.specs.Marks.{IsNone}
use Rattle.histories.specs.HistoryEvent.{IsOf}
use Rattle.histories.proofs.PublicLaws.{DoubtIsDown, at_down, doubt_after}
use Rattle.schedule.specs.declared.act.Act.{Act}
use Rattle.schedule.specs.declared.act.Act.TheVariants as act
use Rattle.runs.specs.declared.outcome.Outcome.TheVariants as outcome
use Rattle.runs.specs.declared.outcome.ActRefusal.TheVariants.{Node}
use Rattle.runs.specs.World.{World, node_in, start}
use Rattle.runs.specs.Step.{Step, Takes, Changes, Denies, world_after}
use Rattle.runs.specs.Acts.{IsCompaction, IsStepOf, IsLawful, IsRunOf, act_outcome, what_outcome}
use Rattle.runs.proofs.Acting.{no_fault}
use Rattle.runs.specs.Reporting.{Moment, report_of}
use Rattle.runs.proofs.Keeping.{opens_with, AllStates, lawful_keeps}
use Rattle.runs.proofs.Reports.{moments_from, moments_are}
use Rattle.runs.proofs.Runs.{node_there}

-- so many counts and ids were given at most
pub record IsBelow (limit : ℕ) (d : Durable) : Type 0 where
  pub counts : d.counter ≤ limit
  pub ids : d.next ≤ limit

-- by how much a doubt may make more of them
abbrev pub doubts : Option Command → ℕ
doubts None = 0
doubts (Some c) = 1

command_below : (limit : ℕ) (d : Durable) (c : Command) → IsBelow limit d → IsBelow (limit + 1) (after_command d c)
command_below limit d Raise h = record { counts = omega (arith, h.counts); ids = omega (arith, h.ids) }
command_below limit d (Put work) h = record { counts = omega (arith, h.counts); ids = omega (arith, h.ids) }
command_below limit d (Done id) h = record { counts = omega (arith, h.counts); ids = omega (arith, h.ids) }

below_more : (low high : ℕ) (d : Durable) → low ≤ high → IsBelow low d → IsBelow high d
below_more low high d le h = record { counts = omega (arith, h.counts, le); ids = omega (arith, h.ids, le) }

wanted_below : (limit : ℕ) (d : Durable) (wants : Option Command) → IsBelow limit d → IsBelow (limit + doubts wants) (after_wanted d wants)
wanted_below limit d None h = below_more limit (limit + 0) d (omega arith) h
wanted_below limit d (Some c) h = command_below limit d c h

pub settled_below : (limit : ℕ) (kept : Bool) (s : NodeState) → IsBelow limit s.durable → IsBelow (limit + doubts s.doubt) (settled kept s)
settled_below limit true s h = wanted_below limit s.durable s.doubt h
settled_below limit false s h = below_more limit (limit + doubts s.doubt) s.durable (omega arith) h

-- a doubt is one more step that was made
pub record FewGiven (limit self : ℕ) (s : NodeState) : Type 0 where
  pub low : ℕ
  pub sum : low + doubts s.doubt ≤ limit
  pub below : IsBelow low s.durable
  pub doubt : DoubtIsDown self s

no_doubts : (doubt : Option Command) → IsNone doubt → doubts doubt ≡ 0
no_doubts None none = refl
no_doubts (Some c) none = absurd none

low_doubts : (wants : Option Command) → doubts wants ≤ 1
low_doubts None = omega arith
low_doubts (Some c) = omega arith

few_stay : (limit self : ℕ) (s : NodeState) → FewGiven limit self s → FewGiven (limit + 1) self s
few_stay limit self s h = record { low = h.low; sum = omega (arith, h.sum); below = h.below; doubt = h.doubt }

few_more : (limit self nodes : ℕ) (s : NodeState) (what : HistoryEvent) → IsPossible self nodes s what → FewGiven limit self s
    → FewGiven (limit + 1) self (after self nodes s what)
few_more limit self nodes s (Did event) may h = record {
  low = h.low + doubts (wants_at self nodes s event);
  sum = elim h.doubt [
    | inl none ↦ omega (arith, h.sum, low_doubts (wants_at self nodes s event), no_doubts s.doubt none)
    | inr is ↦ omega (arith, h.sum, ap doubts (at_down self nodes s event is may.0 may.1.by_core).wants)
  ];
  below = wanted_below h.low s.durable (wants_at self nodes s event) h.below;
  doubt = doubt_after self nodes s (Did event) may h.doubt;
}
few_more limit self nodes s (Faulted event) may h = record {
  low = h.low;
  sum = omega (arith, h.sum, low_doubts (wants_at self nodes s event));
  below = h.below;
  doubt = doubt_after self nodes s (Faulted event) may h.doubt;
}
few_more limit self nodes s (Recovered kept) may h = record {
  low = h.low + doubts s.doubt + 1;
  sum = omega (arith, h.sum);
  below = command_below (h.low + doubts s.doubt) (settled kept s) Raise (settled_below h.low kept s h.below);
  doubt = doubt_after self nodes s (Recovered kept) may h.doubt;
}
few_more limit self nodes s (RaiseFailed kept) may h = record {
  low = h.low + doubts s.doubt;
  sum = omega (arith, h.sum);
  below = settled_below h.low kept s h.below;
  doubt = doubt_after self nodes s (RaiseFailed kept) may h.doubt;
}
few_more limit self nodes s Crashed may h =
    record { low = h.low; sum = omega (arith, h.sum); below = h.below; doubt = doubt_after self nodes s Crashed may h.doubt }
few_more limit self nodes s _ may h = few_stay limit self s h

-- ---- all nodes

pub step_few : (slots nodes limit : ℕ) (w : World) (step : Step) → IsLawful slots nodes w step → AllStates (FewGiven limit) w
    → AllStates (FewGiven (limit + 1)) (world_after nodes w step)
step_few slots nodes limit = lawful_keeps (FewGiven limit) (FewGiven (limit + 1)) nodes slots (few_stay limit)
    (λ n s what may fits h. few_more limit n nodes s what may h)

-- ---- what is refused

pub spent_high : (limit : ℕ) (d : Durable) (wants : Option Command) → IsBelow limit d → limit + 1 < 2 ^ 64 → IsSpent d wants → ⊥
spent_high limit d None h short spent = spent
spent_high limit d (Some Raise) h short spent = omega (arith, h.counts, short, spent)
spent_high limit d (Some (Put work)) h short spent = omega (arith, h.ids, short, spent)
spent_high limit d (Some (Done id)) h short spent = spent

what_unspent : (limit self nodes first : ℕ) (s : NodeState) (what : HistoryEvent) (a : Act) → IsPossible self nodes s what
    → FewGiven limit self s → limit + 1 < 2 ^ 64 → what_outcome self nodes first s what a ≢ outcome.Refused (Node Exhausted)
what_unspent limit self nodes first s (Refused event (Core fault)) a may h short is = absurd cc
what_unspent limit self nodes first s (Refused event Exhausted) a may h short is =
    spent_high h.low s.durable (wants_at self nodes s event) h.below (omega (arith, h.sum, short)) may.1.1
what_unspent limit self nodes first s (NoOp Nothing) a may h short is = absurd cc
what_unspent limit self nodes first s Crashed (act.Compact m) may h short is = absurd cc
what_unspent limit self nodes first s (RaiseRefused kept) a may h short is =
    omega (arith, may.2, (settled_below h.low kept s h.below).counts, h.sum, short)
what_unspent limit self nodes first s _ a may h short is = absurd cc

pub step_unspent : (slots nodes limit : ℕ) (w : World) (a : Act) (step : Step) → IsStepOf nodes w a step → IsLawful slots nodes w step
    → AllStates (FewGiven limit) w → limit + 1 < 2 ^ 64 → act_outcome nodes w a step ≢ outcome.Refused (Node Exhausted)
step_unspent slots nodes limit w a (Takes n number what) of may h short is =
    what_unspent limit n nodes (length w.net.sent) may.0 what a may.2 (h n may.0 may.1) short
    (subst (λ (x : NodeState). what_outcome n nodes (length w.net.sent) x what a
    ≡ outcome.Refused (Node Exhausted)) (node_there w.states n may.0 may.1) is)
step_unspent slots nodes limit w a (Changes net) of may h short is = absurd cc
step_unspent slots nodes limit w a (Denies named why) of may h short is =
    no_fault (λ (n : ℕ) (event : Event). IsOf event) (λ (n : ℕ). IsCompaction (node_in w.states n)) nodes w a named why of
    Exhausted (cc is)

all_unspent : (slots nodes limit : ℕ) (acts : List Act) (steps : List Step) (w : World) → IsRunOf nodes slots w acts steps
    → AllStates (FewGiven limit) w → limit + length acts < 2 ^ 64
    → (m : Moment) → IsAmong m (moments_from nodes w acts steps) → m.outcome ≢ outcome.Refused (Node Exhausted)
all_unspent slots nodes limit [] steps w run h short m i is = absurd i
all_unspent slots nodes limit (a ∷ acts) [] w run h short m i is = absurd i
all_unspent slots nodes limit (a ∷ acts) (step ∷ steps) w run h short m i is = elim i [
  | inl e ↦ step_unspent slots nodes limit w a step run.0 run.1 h (omega (arith, short)) (ap (λ (x : Moment). x.outcome) (sym e) ∙ is)
  | inr later ↦ all_unspent slots nodes (limit + 1) acts steps (world_after nodes w step) run.2 (step_few slots nodes limit w step run.1 h)
      (omega (arith, short)) m later is
]

pub opens_few : (nodes : ℕ) → AllStates (FewGiven 1) (start nodes)
opens_few nodes = opens_with (FewGiven 1) nodes
    (λ n. record { low = 1; sum = omega arith; below = record { counts = omega arith; ids = omega arith }; doubt = inl tt })

pub none_spent : (nodes slots : ℕ) (acts : List Act) (steps : List Step) → IsShort acts → IsRunOf nodes slots (start nodes) acts steps
    → (m : Moment) → IsAmong m (report_of nodes acts steps).moments → m.outcome ≢ outcome.Refused (Node Exhausted)
none_spent nodes slots acts steps short run m i is =
    all_unspent slots nodes 1 acts steps (start nodes) run (opens_few nodes)
    (omega (arith, short)) m (subst (λ (ms : List Moment). IsAmong m ms) (moments_are nodes acts steps) i) is
