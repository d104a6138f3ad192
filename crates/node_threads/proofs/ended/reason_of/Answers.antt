use Rattle.std.proofs.Common.{◌≡◌, ◌<◌, ℕ, Some, length, slice_get, refl, subst, rules}
use Rattle.std.proofs.lemmas.Option.{slice_get_read}
use Rattle.node_lock.specs.declared.held.TheConstants.{MOST_ENTRIES}
use Rattle.node_lock.specs.Planned.{plan_len}
use Rattle.node_threads.specs.Reasons.{planned, FirstFit}
use Rattle.node_threads.proofs.ended.reason_of.Goals as goal

pub returns-then-is_full : goal.returns-then-is_full
returns-then-is_full g c =
    let plans = c.args.plans.now in
    let plan = c.index-plans-node.result in
    let node : c.from-node.result ≡ c.args.stopped.node = search rules in
    let facts : (MOST_ENTRIES < planned plan) × (0 < plan_len plan c.args.stopped.worker) = search rules in
    let below : c.from-node.result < length plans = search rules in
    let at : slice_get plans c.from-node.result ≡ Some plan =
    slice_get_read plans (length plans) c.from-node.result plan refl below c.index-plans-node.is in
    let before : FirstFit c.from-node.result plans = c.if-not-have_ended.ensures refl in
    record {
      plan = plan;
      at = subst (λ (k : ℕ). slice_get plans k ≡ Some plan) node at;
      many = facts.0;
      some = facts.1;
      before = subst (λ (k : ℕ). FirstFit k plans) node before;
    }
