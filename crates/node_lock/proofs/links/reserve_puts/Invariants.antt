use Rattle.std.proofs.Common.{◌≤◌, ◌<◌, ℕ, slice_index_or}
use Rattle.std.specs.Prelude.{if◌then◌else◌}
use Rattle.link_ring.specs.Sides.{Side}
use Rattle.node_lock.specs.Sending.{SameSides, may_give_to}
use Rattle.node_lock.proofs.links.reserve_puts.Given as goal

abbrev pub invariant-loop-end : goal.invariant-loop-end
invariant-loop-end l =
    SameSides l.initial.end-items l.end-items
    × ((k : ℕ) (d : Side) → k < l.end-index → (if may_give_to l.node.state (slice_index_or l.end-items k d).receiver then l.members
    else l.others) ≤ (slice_index_or l.end-items k d).room)
