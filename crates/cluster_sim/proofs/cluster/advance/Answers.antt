use Rattle.std.proofs.Common.{◌≡◌, ◌≢◌, inl, inr, ◌+◌, ◌<◌, ◌^◌, length, slice_get, sym, ◌∙◌, ap, arith, refl, Some, slice_set}
use Rattle.std.proofs.Common.{vec_capacity, Option}
use Rattle.std.proofs.lemmas.List.{length-map}
use Rattle.std.proofs.lemmas.Option.{slice_get_read}
use Rattle.histories.specs.declared.command_kind.CommandKind.{CommandKind}
use Rattle.node_core.specs.declared.fault.Refusal.TheVariants.{AreaExhausted}
use Rattle.runs.specs.declared.outcome.Outcome.TheVariants.{Refused}
use Rattle.runs.specs.declared.outcome.ActRefusal.TheVariants.{Node as OfNode}
use Rattle.runs.specs.Reporting.{own_commands}
use Rattle.runs.proofs.PublicLaws.{own_few}
use Rattle.cluster_sim.specs.Names.{node_named}
use Rattle.cluster_sim.specs.Cluster.{command_in, cluster_with, moment_in, report_in, with_action}
use Rattle.cluster_sim.proofs.Advancing.{hand_fits, jobs_fit, step_reported, goes_on, cluster_on, cluster_still, named_in}
use Rattle.cluster_sim.proofs.cluster.advance.Goals.{then-is_some, else-is_some}
use Rattle.cluster_sim.proofs.cluster.advance.Goals as goal

pub add-requires-clause-hand : goal.add-requires-clause-hand
add-requires-clause-hand c =
    let inv = c.requires.cluster in
    hand_fits c.args.world.now c.step.new.self inv.last c.args.act c.in_ok-action.action c.node_named-id.result c.node.result.now
    c.node-2.result.now inv.reports.stands (c.in_ok-action.ensures.acted inv.last inv.reports.stands)
    (named_in c.args.world.now inv.last c.args.act c.node_named-id.result c.count.result c.net.result.now.network inv.reports.stands
    c.count.ensures.value c.net.ensures c.node_named-id.ensures.named) c.node.ensures c.node-2.ensures
    _ c.in_ok-room.room.vector.hand.room inv.reports
    (rw (← c.slots.ensures.value) c.in_ok-room.ensures.hand)

pub add-requires-clause-jobs : goal.add-requires-clause-jobs
add-requires-clause-jobs c mounted =
    let inv = c.requires.cluster in
    jobs_fit c.args.world.now c.step.new.self inv.last c.args.act c.in_ok-action.action c.node_named-id.result c.node.result.now
    c.node-2.result.now inv.reports.stands (c.in_ok-action.ensures.acted inv.last inv.reports.stands)
    (named_in c.args.world.now inv.last c.args.act c.node_named-id.result c.count.result c.net.result.now.network inv.reports.stands
    c.count.ensures.value c.net.ensures c.node_named-id.ensures.named) c.node.ensures c.node-2.ensures
    _ (vec_capacity c.in_ok-room.room.pending) mounted inv.reports (λ down. rw (← c.slots.ensures.value) (c.in_ok-room.ensures.jobs down))

pub add-requires-clause-count : goal.add-requires-clause-count
add-requires-clause-count c = λ count raise.
    let inv = c.requires.cluster in
    (step_reported c.args.world.now c.step.new.self inv.last c.args.act c.in_ok-action.action c.node_named-id.result c.node.result.now
    c.node-2.result.now inv.reports.stands (c.in_ok-action.ensures.acted inv.last inv.reports.stands)
    (named_in c.args.world.now inv.last c.args.act c.node_named-id.result c.count.result c.net.result.now.network inv.reports.stands
    c.count.ensures.value c.net.ensures c.node_named-id.ensures.named) c.node.ensures c.node-2.ensures
    (cluster_with c.args.world.now c.args.report.now).report).parts.raises count
    (ap (λ (t : Option CommandKind). command_in c.args.act t) raise)

pub overflow_add-before : goal.overflow_add-before
overflow_add-before c =
    let inv = c.requires.cluster in
    let id = c.from-place.ensures ∙ c.number.ensures.value in
    let within : c.from-place.result < length c.args.counts.now.items =
    (let many = inv.counted.as_many in let within = c.node_named-id.ensures.within in let value = c.count.ensures.value in
    omega (arith, id, within, many, value)) in
    let at = slice_get_read c.args.counts.now.items _ c.from-place.result c.index-before.result.now refl within c.index-before.ensures in
    let commands = (cluster_with c.args.world.now c.args.report.now).report.commands in
    let count : c.index-before.result.now ≡ length (own_commands c.from-place.result commands) =
    inv.counted.each c.from-place.result c.index-before.result.now at in
    let kept = c.args.report.now.commands in
    omega (arith, count, own_few c.from-place.result commands, kept.ok.0, kept.ok.1, kept.small)

added : (c : goal.After-result-1) → report_in c.add.new.self c.step.new.self.net.sent
    ≡ with_action c.step.new.self.net.sent c.node_named-id.result c.index-before.result.now c.args.act c.in_ok-action.action
    c.node-2.result.now (report_in c.args.report.now c.step.new.self.net.sent)
added c =
    let sent = c.step.new.self.net.sent in
    c.add.ensures sent ∙ ap (with_action sent c.node_named-id.result c.index-before.result.now c.args.act c.in_ok-action.action
    c.node-2.result.now) (c.in_ok-room.ensures.same sent)

-- no more acts are reported than memory holds
few_acts : (c : goal.After-result-1) → length (cluster_with c.args.world.now c.args.report.now).report.moments + 3 < 2 ^ 64
few_acts c =
    let ms = c.args.report.now.moments in
    omega (arith, length-map ms.items (moment_in c.args.world.now.net.sent), ms.ok.0, ms.ok.1, ms.small)

-- and each raises the number of an area by one at most
never_area_exhausted : (c : goal.After-result-1) → c.in_ok-action.action.outcome ≢ Refused (OfNode AreaExhausted)
never_area_exhausted c =
    let inv = c.requires.cluster in
    (c.in_ok-action.ensures.areas inv.last inv.reports.stands _ inv.areas).1 (omega (arith, few_acts c))

-- so many commands were counted at the node before
counted_before : (c : goal.After-result-1) → slice_get c.args.counts.now.items c.node_named-id.result ≡ Some c.index-before.result.now
counted_before c =
    let at_id = c.from-place.ensures ∙ c.number.ensures.value in
    let within : c.from-place.result < length c.args.counts.now.items =
    (let many = c.requires.cluster.counted.as_many in let within = c.node_named-id.ensures.within in let value = c.count.ensures.value in
    omega (arith, at_id, within, many, value)) in
    rw (← at_id) (slice_get_read c.args.counts.now.items _ c.from-place.result c.index-before.result.now refl within c.index-before.ensures)

pub returns-clause-goes_on : goal.returns-clause-goes_on
returns-clause-goes_on c w reports =
    let inv = c.requires.cluster in
    let id = c.node_named-id.result in
    goes_on c.args.world.now c.step.new.self w c.args.act c.in_ok-action.action id c.node.result.now c.node-2.result.now reports.stands
    (c.in_ok-action.ensures.acted w reports.stands)
    (named_in c.args.world.now w c.args.act id c.count.result c.net.result.now.network reports.stands c.count.ensures.value c.net.ensures
    c.node_named-id.ensures.named) c.node.ensures c.node-2.ensures
    c.args.report.now c.add.new.self c.index-before.result.now reports c.in_ok-action.ensures.slots
    (inv.counted.each id c.index-before.result.now (counted_before c))
    (added c) (few_acts c) (never_area_exhausted c)

pub returns-clause-cluster : goal.returns-clause-cluster
returns-clause-cluster c =
    let inv = c.requires.cluster in
    let at_id = c.from-place.ensures ∙ c.number.ensures.value in
    let id = c.node_named-id.result in
    let at = counted_before c in
    cluster_on c.args.world.now c.step.new.self inv.last c.args.act c.in_ok-action.action id c.node.result.now c.node-2.result.now
    inv.reports.stands (c.in_ok-action.ensures.acted inv.last inv.reports.stands)
    (named_in c.args.world.now inv.last c.args.act id c.count.result c.net.result.now.network inv.reports.stands c.count.ensures.value
    c.net.ensures c.node_named-id.ensures.named) c.node.ensures c.node-2.ensures
    c.args.report.now c.add.new.self c.index-before.result.now inv.reports c.in_ok-action.ensures.slots
    (inv.counted.each id c.index-before.result.now at)
    (added c) c.args.counts.now.items c.if-is_some.counts.items inv.counted at
    (elim c.if-is_some.branch [
      | then-is_some b ↦ inl (
        sym b.if-is_some.ensures,
        (λ i. (b.counts-is i).items)
            ∙ (λ i. slice_set c.args.counts.now.items (at_id i) (c.index-before.result.now + 1)),
      )
      | else-is_some b ↦ inr (sym b.if-is_some.ensures, (λ i. (b.counts-is i).items))
    ])
    (c.in_ok-action.ensures.areas inv.last inv.reports.stands) inv.areas (few_acts c)

pub returns-clause-answers : goal.returns-clause-answers
returns-clause-answers c = c.in_ok-action.ensures.answers c.requires.cluster.last c.requires.cluster.reports.stands

pub returns-clause-never_area_exhausted : goal.returns-clause-never_area_exhausted
returns-clause-never_area_exhausted c = never_area_exhausted c

pub returns-in_err-action-clause-cluster : goal.returns-in_err-action-clause-cluster
returns-in_err-action-clause-cluster c =
    cluster_still c.args.world.now c.step.new.self c.args.report.now c.reserve.new.self
    (node_named (length c.args.world.now.nodes) c.args.world.now.net.sent c.args.act) c.args.counts.now.items c.requires.cluster
    c.reserve.ensures.same c.step.ensures.slots c.in_err-action.ensures.memory c.in_err-action.ensures.untouched
