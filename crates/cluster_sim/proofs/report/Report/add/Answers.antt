use Rattle.std.proofs.Common.{◌≡◌, ◌++◌, ◌∷◌, [], Bool, Option, Some, None, option_map, map, refl, sym, ◌∙◌, ap}
use Rattle.std.proofs.lemmas.List.{map-append}
use Rattle.cluster_sim.specs.declared.report.Mounted.{Mounted}
use Rattle.cluster_sim.specs.Cluster.{listed, moment_in, mounted_now, mounted_of, mounting_at, report_in, tried_as, tried_at, work_in}
use Rattle.cluster_sim.proofs.report.Report.add.Goals.{then-action, else-action}
use Rattle.cluster_sim.proofs.report.Report.add.Goals as goal

map_listed : (m : Option Mounted) → map mounted_of (listed m) ≡ listed (option_map mounted_of m)
map_listed None = refl
map_listed (Some m) = refl

pub returns : goal.returns
returns c = λ sent.
    let old = c.args.self.now in
    let mounted : option_map mounted_of c.if-action.mounted ≡ mounting_at c.args.id c.args.before
    (mounted_now c.args.action.mounted c.args.node.now.mounted) =
    elim c.if-action.branch [
      | then-action w ↦ ap (option_map mounted_of) w.mounted-is ∙ w.mounted_by-mounted.ensures
          ∙ sym (ap (λ (b : Bool). mounting_at c.args.id c.args.before (mounted_now b c.args.node.now.mounted)) w.if-action.true)
      | else-action w ↦ ap (option_map mounted_of) w.mounted-is
          ∙ sym (ap (λ (b : Bool). mounting_at c.args.id c.args.before (mounted_now b c.args.node.now.mounted)) w.if-action.false)
    ] in
    let moments = ap (map (moment_in sent)) c.push_reserved.ensures.items
    ∙ map-append (moment_in sent) old.moments.items (c.moment_of-moment.result ∷ [])
    ∙ (λ i. map (moment_in sent) old.moments.items ++ c.moment_of-moment.ensures sent i ∷ []) in
    let groups = c.push_some.ensures ∙ ap (λ gs. old.groups.items ++ gs) (c.given_by-group.ensures (work_in c.args.act)) in
    let tried = c.tried_at.ensures ∙ ap (tried_at c.args.id)
    (c.tried_by-tried.ensures ∙ (λ i. tried_as (c.command_in-command.ensures i) c.args.action.acked)) in
    let commands = c.push_some-2.ensures ∙ ap (λ t. old.commands.items ++ listed t) tried in
    let mountings = ap (map mounted_of) c.push_some-3.ensures ∙ map-append mounted_of old.mounted.items (listed c.if-action.mounted)
    ∙ ap (λ ms. map mounted_of old.mounted.items ++ ms) (map_listed c.if-action.mounted ∙ ap listed mounted) in
    λ i. record {
      opening = (report_in old sent).opening;
      moments = moments i;
      groups = groups i;
      commands = commands i;
      mounted = mountings i;
    }
