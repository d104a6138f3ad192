use Rattle.std.proofs.Common.{[], List, length, sym, ap, ◌∙◌}
use Rattle.std.proofs.lemmas.List.{length-replicate}
use Rattle.runs.proofs.PublicLaws.{length_openings}
use Rattle.trace_check.specs.Claims.{Claim}
use Rattle.cluster_sim.proofs.Judgings.{recorded_order}
use Rattle.cluster_sim.proofs.Tracings.{begins, recorded_so}
use Rattle.cluster_sim.proofs.tracing.record_of.Goals as goal

pub trace_acts-requires-clause-many : goal.trace_acts-requires-clause-many
trace_acts-requires-clause-many c =
    let nodes = c.args.schedule.now.size.nodes in
    ap (λ (hs : List (List Claim)). length hs) c.in_ok-histories.ensures ∙ length-replicate nodes []
    ∙ sym (c.in_ok-world.ensures.starts.count ∙ length_openings 0 nodes)

pub returns-clause-recorded : goal.returns-clause-recorded
returns-clause-recorded c =
    let size = c.args.schedule.now.size in
    let begun = begins size.nodes size.slots c.in_ok-world.world c.in_ok-histories.histories.items _ c.new.ensures.items
    c.new-2.ensures.items c.in_ok-world.ensures.slots c.in_ok-world.ensures.starts c.in_ok-world.ensures.unarmed
    c.in_ok-histories.ensures in
    rw c.new-3.ensures (rw c.deref.ensures.value at (recorded_so _ _ _ _ _ _
    (c.in_ok-trace_acts.ensures.traced size.nodes size.slots begun)))

pub returns-clause-ordered : goal.returns-clause-ordered
returns-clause-ordered c = recorded_order _ _ _ _ _ (returns-clause-recorded c)
