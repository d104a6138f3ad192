-- The report of a run of a schedule's acts.
use Rattle.std.specs.Prelude.{ℕ, ◌≡◌, ◌+◌, ◌^◌, ◌<◌, List, length}
use Rattle.schedule.specs.declared.act.Act.{Act}
use Rattle.runs.specs.World.{start}
use Rattle.runs.specs.Step.{Step}
use Rattle.runs.specs.ExactRuns.{IsExactRun}
use Rattle.runs.specs.Reporting.{Report, report_of}

-- it is that of a run of these acts, so few that no counter is used up
pub record IsReported (nodes slots : ℕ) (acts : List Act) (r : Report) : Type 0 where
  pub short : length acts + 1 < 2 ^ 64
  pub steps : List Step
  pub is_run : IsExactRun nodes slots (start nodes) acts steps
  pub reported : r ≡ report_of nodes acts steps
