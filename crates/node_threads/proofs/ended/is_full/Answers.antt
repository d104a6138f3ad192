use Rattle.std.proofs.Common.{◌≡◌, ◌≤◌, length, arith, sym, ◌∙◌, rules}
use Rattle.node_lock.specs.declared.held.TheConstants.{MOST_ENTRIES}
use Rattle.node_lock.specs.Planned.{plan_len, turns_of}
use Rattle.node_threads.proofs.Facts.{is_more}
use Rattle.node_threads.proofs.ended.is_full.Goals as goal

pub returns : goal.returns
returns c = λ yes.
    let held = c.into_held-held.result in
    let given = c.into_parts-parts.ensures in
    let same : c.into_parts-parts.result.plans ≡ c.args.plan.now = c.same_plans.ensures.0 yes in
    let full : MOST_ENTRIES ≤ length c.into_parts-parts.result.history.turns = search rules in
    let left : plan_len held.plans c.args.worker ≤ turns_of held.turns c.args.worker → ⊥ = search rules in
    rw (sym given.parts.1 ∙ same) at (is_more held c.args.worker given.kept (rw given.parts.2 at full) (omega (arith, left)))
