-- A cluster that a run leaves, with its report, and how they grow by one act.
use Rattle.std.specs.Prelude.{ℕ, ◌≡◌, ◌≢◌, ◌+◌, ◌^◌, ◌<◌, List, [], length, map}
use Rattle.node_core.specs.declared.fault.Refusal.TheVariants.{AreaExhausted}
use Rattle.runs.specs.declared.outcome.Outcome.TheVariants.{Refused}
use Rattle.runs.specs.declared.outcome.ActRefusal.TheVariants.{Node as OfNode}
use Rattle.schedule.specs.declared.act.Act.{Act}
use Rattle.runs.specs.World.{World, node_in, start}
use Rattle.runs.specs.Step.{Step, Takes, world_after}
use Rattle.runs.specs.Run.{IsAllowed, world_at}
use Rattle.runs.specs.ExactRuns.{IsExactStep, IsExactRun}
use Rattle.runs.specs.Acts.{IsStepOf, act_outcome}
use Rattle.histories.specs.Possible.{IsOfSlots}
use Rattle.runs.specs.Reporting.{Moment, Report, grown, report_of}
use Rattle.runs.specs.Headline.{IsPromised}
use Rattle.histories.specs.Counts.{IsShort}

-- the acts so far
abbrev pub acts_in : Report → List Act
acts_in r = map (λ (m : Moment). m.act) r.moments

-- some run of the acts so far, in which nothing is used up, leaves this cluster, and this is its report
pub record IsLeft (nodes slots : ℕ) (w : World) (r : Report) : Type 0 where
  pub short : IsShort (acts_in r)
  pub steps : List Step
  pub is_run : IsExactRun nodes slots (start nodes) (acts_in r) steps
  pub world : w ≡ world_at nodes (start nodes) steps
  pub reported : r ≡ report_of nodes (acts_in r) steps

-- the step's outcome is that of disks of so many slots
abbrev pub StepOfSlots : ℕ → ℕ → World → Step → Type 0
StepOfSlots slots nodes w (Takes n number what) = IsOfSlots slots n nodes (node_in w.states n) what
StepOfSlots slots nodes w step = Unit {0}

-- an act has this step
pub record IsNext (nodes slots : ℕ) (w : World) (a : Act) (step : Step) : Type 0 where
  pub of_act : IsStepOf nodes w a step
  pub allowed : IsAllowed nodes w step
  pub of_slots : StepOfSlots slots nodes w step

-- a cluster opens with the empty run
abbrev pub RunsOpen : Type 0
RunsOpen = (nodes slots : ℕ) → IsLeft nodes slots (start nodes) (report_of nodes [] [])

-- a cluster that a run left is left by a run after one more act, unless it is refused because the areas of a disk are used up
abbrev pub RunsGrow : Type 0
RunsGrow = (nodes slots : ℕ) (w : World) (r : Report) (a : Act) (step : Step) → IsLeft nodes slots w r → IsNext nodes slots w a step →
    length r.moments + 2 < 2 ^ 64 → act_outcome nodes w a step ≢ Refused (OfNode AreaExhausted) →
    IsExactStep nodes slots w a step × IsLeft nodes slots (world_after nodes w step) (grown nodes w a step r)

-- and what is promised of every schedule holds of its report
abbrev pub LeftKeeps : Type 0
LeftKeeps = (nodes slots : ℕ) (w : World) (r : Report) → IsLeft nodes slots w r → IsPromised nodes slots (acts_in r) r
