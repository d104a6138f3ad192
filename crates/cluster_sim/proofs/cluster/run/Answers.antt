use Rattle.std.proofs.Common.{◌≡◌, ◌++◌, subst, sym, ◌∙◌, ap}
use Rattle.std.proofs.lemmas.Simd.{map-map}
use Rattle.runs.specs.World.{start}
use Rattle.runs.specs.Growth.{acts_in}
use Rattle.runs.specs.Reporting.{Moment, Report}
use Rattle.cluster_sim.specs.Cluster.{HasRun, moment_in, report_in}
use Rattle.runs.proofs.PublicLaws.{length_openings}
use Rattle.cluster_sim.proofs.Promised.{promised}
use Rattle.cluster_sim.proofs.cluster.run.Goals as goal

-- the run of the acts
ran : (c : goal.After-into_parts) → HasRun c.args.nodes c.args.acts.items c.step_all.new.self
ran c =
    let opens = c.in_ok-cluster.ensures in
    subst (λ (r : Report). HasRun c.args.nodes (acts_in r ++ c.args.acts.items) c.step_all.new.self) opens.report
    (c.in_ok-step_all.ensures.run c.args.nodes (start c.args.nodes) (length_openings 0 c.args.nodes) opens.opens)

-- its report, by the network's messages
is : (c : goal.After-into_parts) → report_in c.into_parts.result.0 c.into_parts.result.1.network.sent ≡ c.step_all.new.self.report
is c = (λ i. report_in c.into_parts.result.0 (c.into_parts.ensures.net i).sent) ∙ c.into_parts.ensures.report

pub returns-clause-keeps : goal.returns-clause-keeps
returns-clause-keeps c =
    let h = ran c in
    rw (is c, ← h.of_acts, ← h.as_many, ← c.step_all.ensures.slots ∙ c.in_ok-cluster.ensures.slots)
    (promised c.step_all.new.self h.last h.reports)

pub returns-clause-acts : goal.returns-clause-acts
returns-clause-acts c = sym (map-map (λ (m : Moment). m.act) (moment_in c.into_parts.result.1.network.sent)
    c.into_parts.result.0.moments.items) ∙ ap acts_in (is c) ∙ (ran c).of_acts
