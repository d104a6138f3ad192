-- What is promised of a report.
use Rattle.std.proofs.Common.{◌≡◌, ℕ, List, [], ◌∷◌, ◌++◌, length, sym, ◌∙◌, ap, false, Result, Ok, Err, IfOk, is_err}
use Rattle.std.proofs.lemmas.List.{map-append}
use Rattle.schedule.specs.declared.act.Act.{Act}
use Rattle.runs.specs.declared.outcome.Outcome.{Outcome}
use Rattle.runs.specs.World.{World}
use Rattle.runs.specs.Reporting.{Moment, moment_of}
use Rattle.runs.specs.Growth.{acts_in}
use Rattle.runs.specs.Headline.{IsPromised}
use Rattle.cluster_sim.specs.Cluster.{ClusterView, Reports, GoesOn, HasRun}
use Rattle.runs.proofs.PublicLaws.{left_keeps, step_length}

pub promised : (c : ClusterView) (w : World) → Reports c w → IsPromised (length c.world.nodes) c.world.slots (acts_in c.report) c.report
promised c w reports = left_keeps (length c.world.nodes) c.world.slots w c.report reports.left

-- ---- one act after another

pub one_done : (old new : ClusterView) (nodes : ℕ) (acts : List Act) (a : Act) (o : Outcome) (h : HasRun nodes acts old)
    → GoesOn h.last a o old new → HasRun nodes (acts ++ a ∷ []) new
one_done old new nodes acts a o h on = record {
  last = _;
  reports = on.reports;
  as_many = on.reports.stands.count ∙ step_length (length h.last.states) h.last on.step ∙ sym h.reports.stands.count ∙ h.as_many;
  of_acts = ap acts_in on.grows ∙ map-append (λ (m : Moment). m.act) old.report.moments
      (moment_of (length h.last.states) h.last a on.step ∷ []) ∙ (λ i. h.of_acts i ++ a ∷ []);
}

pub ok_here : {A E : Type 0} (P : A → Type 0) (r : Result A E) → is_err r ≡ false → IfOk r P → (a : A) × P a
ok_here P (Ok a) good holds = (a, holds)
ok_here P (Err e) good holds = absurd (let bad = good in cc)
