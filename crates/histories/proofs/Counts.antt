-- The counts that a node gives rise, since its durable counter never falls.
use Rattle.std.proofs.Common.{ℕ, ◌+◌, ◌≤◌, length, Bool, true, false, List, [], ◌∷◌, ◌++◌, arith, Option, Some, None}
use Rattle.job_model.specs.declared.node_command.NodeCommand.{NodeCommand as Command}
use Rattle.job_model.specs.declared.node_command.NodeCommand.TheVariants.{Raise, Put, Done}
use Rattle.job_model.specs.Durable.{Durable}
use Rattle.job_model.specs.Fold.{after_wanted}
use Rattle.histories.specs.NodeState.{NodeState, opening, wants_at, settled}
use Rattle.histories.specs.declared.history_event.HistoryEvent.{HistoryEvent}
use Rattle.histories.specs.declared.history_event.HistoryEvent.TheVariants.{Did, Refused, Faulted, NoOp, Crashed, Recovered, MountFailed}
use Rattle.histories.specs.declared.history_event.HistoryEvent.TheVariants.{RaiseFailed, RaiseRefused}
use Rattle.histories.specs.HistoryEvent.{Entry}
use Rattle.histories.specs.After.{after, given_at, raised}
use Rattle.histories.specs.History.{counts_given, replay}
use Rattle.histories.specs.Rising.{Rises, EachBundleRises}
use Rattle.histories.specs.Counts.{FewCounts}

wanted_rises : (d : Durable) (wants : Option Command) (last : ℕ) (rest : List ℕ) → last ≤ d.counter
    → Rises (after_wanted d wants).counter rest
    → ((low high : ℕ) → low ≤ high → Rises high rest → Rises low rest) → Rises last (raised d wants ++ rest)
wanted_rises d None last rest le h lower = lower last d.counter le h
wanted_rises d (Some Raise) last rest le h lower = (omega arith, h)
wanted_rises d (Some (Put work)) last rest le h lower = lower last d.counter le h
wanted_rises d (Some (Done id)) last rest le h lower = lower last d.counter le h

rises_lower : (rest : List ℕ) (low high : ℕ) → low ≤ high → Rises high rest → Rises low rest
rises_lower [] low high le h = tt
rises_lower (k ∷ ks) low high le h = (omega (arith, h.0), h.1)

pub wanted_grows : (d : Durable) (wants : Option Command) → d.counter ≤ (after_wanted d wants).counter
wanted_grows d None = omega arith
wanted_grows d (Some Raise) = omega arith
wanted_grows d (Some (Put work)) = omega arith
wanted_grows d (Some (Done id)) = omega arith

pub settled_grows : (kept : Bool) (s : NodeState) → s.durable.counter ≤ (settled kept s).counter
settled_grows true s = wanted_grows s.durable s.doubt
settled_grows false s = omega arith

step_rises : (self nodes : ℕ) (s : NodeState) (what : HistoryEvent) (last : ℕ) (rest : List ℕ) → last ≤ s.durable.counter
    → Rises (after self nodes s what).durable.counter rest
    → Rises last (given_at self nodes s what ++ rest)
step_rises self nodes s (Did event) last rest le h = wanted_rises s.durable (wants_at self nodes s event) last rest le h (rises_lower rest)
step_rises self nodes s (Refused event fault) last rest le h = rises_lower rest last s.durable.counter le h
step_rises self nodes s (NoOp why) last rest le h = rises_lower rest last s.durable.counter le h
step_rises self nodes s (Faulted event) last rest le h = rises_lower rest last s.durable.counter le h
step_rises self nodes s Crashed last rest le h = rises_lower rest last s.durable.counter le h
step_rises self nodes s (Recovered kept) last rest le h = (omega (arith, settled_grows kept s), h)
step_rises self nodes s MountFailed last rest le h = rises_lower rest last s.durable.counter le h
step_rises self nodes s (RaiseFailed kept) last rest le h =
    rises_lower rest last (settled kept s).counter (omega (arith, settled_grows kept s)) h
step_rises self nodes s (RaiseRefused kept) last rest le h = rises_lower rest last s.durable.counter le h

pub counts_rise : (self nodes : ℕ) (s : NodeState) (es : List Entry) (last : ℕ) → last ≤ s.durable.counter
    → Rises last (counts_given self nodes s es)
counts_rise self nodes s [] last le = tt
counts_rise self nodes s (e ∷ es) last le =
    step_rises self nodes s e.what last (counts_given self nodes (after self nodes s e.what) es) le
    (counts_rise self nodes (after self nodes s e.what) es (after self nodes s e.what).durable.counter (omega arith))

pub each_bundle_rises : EachBundleRises
each_bundle_rises hs bundle n h at = counts_rise n _ (opening n) h 1 (omega arith)

-- ---- a history brings the counter up by one for each entry at most

-- whether a raise is in doubt
abbrev raises : Option Command → ℕ
raises None = 0
raises (Some Raise) = 1
raises (Some (Put work)) = 0
raises (Some (Done id)) = 0

-- the greatest counter that a mounting may give
abbrev pub highest : NodeState → ℕ
highest s = s.durable.counter + raises s.doubt

wanted_highest : (d : Durable) (wants : Option Command) → (after_wanted d wants).counter ≤ d.counter + raises wants
wanted_highest d None = omega arith
wanted_highest d (Some Raise) = omega arith
wanted_highest d (Some (Put work)) = omega arith
wanted_highest d (Some (Done id)) = omega arith

raises_once : (wants : Option Command) → raises wants ≤ 1
raises_once None = omega arith
raises_once (Some Raise) = omega arith
raises_once (Some (Put work)) = omega arith
raises_once (Some (Done id)) = omega arith

pub settled_highest : (kept : Bool) (s : NodeState) → (settled kept s).counter ≤ highest s
settled_highest true s = wanted_highest s.durable s.doubt
settled_highest false s = omega arith

pub highest_after : (self nodes : ℕ) (s : NodeState) (what : HistoryEvent) → highest (after self nodes s what) ≤ highest s + 1
highest_after self nodes s (Did event) = omega (
  arith,
  wanted_highest s.durable (wants_at self nodes s event),
  raises_once (wants_at self nodes s event),
)
highest_after self nodes s (Refused event fault) = omega arith
highest_after self nodes s (Faulted event) = omega (arith, raises_once (wants_at self nodes s event))
highest_after self nodes s (NoOp why) = omega arith
highest_after self nodes s Crashed = omega arith
highest_after self nodes s (Recovered kept) = omega (arith, settled_highest kept s)
highest_after self nodes s MountFailed = omega arith
highest_after self nodes s (RaiseFailed kept) = omega (arith, settled_highest kept s)
highest_after self nodes s (RaiseRefused kept) = omega arith

highest_of : (self nodes : ℕ) (s : NodeState) (es : List Entry) → highest (replay self nodes s es) ≤ highest s + length es
highest_of self nodes s [] = omega arith
highest_of self nodes s (e ∷ es) = omega (arith, highest_of self nodes (after self nodes s e.what) es, highest_after self nodes s e.what)

pub few_counts : FewCounts
few_counts self nodes h kept = omega (
  arith,
  highest_of self nodes (opening self) h,
  settled_highest kept (replay self nodes (opening self) h),
)
