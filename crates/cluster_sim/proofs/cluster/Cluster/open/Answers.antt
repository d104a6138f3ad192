use Rattle.std.proofs.Common.{◌+◌, ◌∙◌, ap, length, subst, sym}
use Rattle.runs.specs.Reporting.{Report}
use Rattle.cluster_sim.specs.Cluster.{cluster_with}
use Rattle.cluster_sim.specs.World.{AreasWithin}
use Rattle.runs.proofs.PublicLaws.{length_openings}
use Rattle.cluster_sim.proofs.Opening.{opened_counts, opened_reports}
use Rattle.cluster_sim.proofs.cluster.Cluster.open.Goals as goal

pub invariant_of-result : goal.invariant_of-result
invariant_of-result c =
    let stands = c.in_ok-world.ensures.starts in
    let whole = cluster_with c.in_ok-world.world c.in_ok-report.report in
    let reported = c.in_ok-report.ensures c.args.nodes stands c.in_ok-world.world.net.sent in
    record {
      last = _;
      reports = opened_reports whole c.args.nodes stands reported;
      counted = rw (stands.count ∙ length_openings 0 c.args.nodes, c.in_ok-counts.ensures, ap (λ (x : Report). x.commands) reported)
          (opened_counts c.args.nodes);
      areas = subst (λ (x : Report). AreasWithin (length x.moments + 2) c.in_ok-world.world.nodes)
          (sym reported) c.in_ok-world.ensures.areas;
    }

pub returns-clause-nodes : goal.returns-clause-nodes
returns-clause-nodes c = c.in_ok-world.ensures.starts.count ∙ length_openings 0 c.args.nodes

pub returns-clause-opens : goal.returns-clause-opens
returns-clause-opens c =
    let stands = c.in_ok-world.ensures.starts in
    opened_reports (cluster_with c.in_ok-world.world c.in_ok-report.report) c.args.nodes stands
    (c.in_ok-report.ensures c.args.nodes stands c.in_ok-world.world.net.sent)

pub returns-clause-report : goal.returns-clause-report
returns-clause-report c = c.in_ok-report.ensures c.args.nodes c.in_ok-world.ensures.starts c.in_ok-world.world.net.sent
