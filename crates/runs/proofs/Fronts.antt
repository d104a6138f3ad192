-- A moment of a run, with the world before it and the step that it shows.
use Rattle.std.proofs.Common.{◌≡◌, ℕ, zero, suc, List, [], ◌∷◌, take, slice_get, refl, sym, ◌∙◌, ap, subst, Some}
use Rattle.schedule.specs.declared.act.Act.{Act}
use Rattle.runs.specs.World.{World, start}
use Rattle.runs.specs.Step.{Step, world_after}
use Rattle.runs.specs.Run.{world_at}
use Rattle.runs.specs.Acts.{IsStepOf, IsLawful, IsRunOf}
use Rattle.runs.specs.Reporting.{Moment, Report, moment_of, grown, first_report, report_from}
use Rattle.runs.specs.Reported.{IsReported}
use Rattle.runs.proofs.ExactRuns.{run_in}
use Rattle.runs.proofs.Reports.{moments_from, moments_are}

-- of a run from w on, where r was reported before it
pub record Front (nodes slots : ℕ) (w : World) (r : Report) (acts : List Act) (steps : List Step) (k : ℕ) (m : Moment) : Type 0 where
  pub before : World
  pub act : Act
  pub step : Step
  pub is_world : before ≡ world_at nodes w (take k steps)
  pub of_act : IsStepOf nodes before act step
  pub lawful : IsLawful slots nodes before step
  pub is : m ≡ moment_of nodes before act step
  pub grows : report_from nodes w r (take (suc k) acts) steps ≡ grown nodes before act step (report_from nodes w r (take k acts) steps)

pub front : (k nodes slots : ℕ) (acts : List Act) (steps : List Step) (w : World) (r : Report) (m : Moment)
    → IsRunOf nodes slots w acts steps
    → slice_get (moments_from nodes w acts steps) k ≡ Some m → Front nodes slots w r acts steps k m
front k nodes slots [] steps w r m run at = absurd cc
front k nodes slots (a ∷ acts) [] w r m run at = absurd run
front zero nodes slots (a ∷ acts) (step ∷ steps) w r m run at =
    let it : moment_of nodes w a step ≡ m = cc at in record {
      before = w;
      act = a;
      step = step;
      is_world = refl;
      of_act = run.0;
      lawful = run.1;
      is = sym it;
      grows = refl;
    }
front (suc k) nodes slots (a ∷ acts) (step ∷ steps) w r m run at =
    let it = front k nodes slots acts steps (world_after nodes w step) (grown nodes w a step r) m run.2 at in record {
      before = it.before;
      act = it.act;
      step = it.step;
      is_world = it.is_world;
      of_act = it.of_act;
      lawful = it.lawful;
      is = it.is;
      grows = it.grows;
    }

-- the same of the report of a run
pub front_of : (nodes slots : ℕ) (acts : List Act) (r : Report) (h : IsReported nodes slots acts r) (k : ℕ) (m : Moment)
    → slice_get r.moments k ≡ Some m
    → Front nodes slots (start nodes) (first_report nodes) acts h.steps k m
front_of nodes slots acts r h k m at =
    front k nodes slots acts h.steps (start nodes) (first_report nodes) m (run_in nodes slots acts r h)
    (subst (λ (ms : List Moment). slice_get ms k ≡ Some m) (ap (λ (x : Report). x.moments) h.reported ∙ moments_are nodes acts h.steps) at)
