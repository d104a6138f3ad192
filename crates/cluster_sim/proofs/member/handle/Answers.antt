use Rattle.std.proofs.Common.{◌≡◌, ℕ, length, ◌∙◌, ap, refl}
use Rattle.sim_net.specs.Network.{after_all_sent}
use Rattle.sector_disk.specs.Memory.{state_of}
use Rattle.histories.specs.NodeState.{NodeState}
use Rattle.durable_node.specs.Node.{Stands}
use Rattle.cluster_sim.specs.Answering.{IsAnswered}
use Rattle.cluster_sim.specs.Outcomes.{came_outcome}
use Rattle.cluster_sim.proofs.Answering.{Shows, answered_so, areas_so, stuck_so}
use Rattle.cluster_sim.proofs.Coming.{some_of, same_by, Leaves, left_so, comes_by, came_counted}
use Rattle.cluster_sim.proofs.member.handle.Goals as goal

leaves_all : (c : goal.Joined-room) → Leaves c.lend_room.new.node c.forget_written.new.node c.args.event.now c.in-Ok.came
leaves_all c = left_so c.lend_room.new.node c.step.new.self c.forget_written.new.node c.args.event.now c.in-Ok.came c.forget_written.ensures
    c.step.ensures.id c.step.ensures.nodes c.in-Ok.ensures.counts c.in-Ok.ensures.step

pub returns-clause-same : goal.returns-clause-same
returns-clause-same c = rw (← c.lend_room.ensures) (leaves_all c).0

pub returns-in-Err-clause-same : goal.returns-in-Err-clause-same
returns-in-Err-clause-same c = rw (← c.lend_room.ensures)
    (same_by c.lend_room.new.node c.step.new.self _ c.step.ensures.id c.step.ensures.nodes c.step.ensures.counts)

pub returns-clause-came : goal.returns-clause-came
returns-clause-came c =
    let net = c.args.net.now.network in
    let came = c.in-Ok.came in
    let first : c.len-first.result ≡ length net.sent = c.len-first.ensures ∙ (λ i. length (c.sent.ensures i))
    ∙ (λ i. length (c.reserve.ensures.network i).sent) in
    rw (← c.lend_room.ensures) (comes_by c.args.event.now c.lend_room.new.node c.forget_written.new.node net c.send_all.new.net.network came
    _ c.step.ensures.counts.was_there (leaves_all c).1 refl refl refl (c.is_mounting.ensures c.args.event.now)
    (c.outcome_of.ensures ∙ ap (λ (n : ℕ). came_outcome came.event_outcome n came) first)
    (c.send_all.ensures ∙ (λ i. after_all_sent (c.reserve.ensures.network i) (c.deref.ensures.value i))))

pub returns-clause-counted : goal.returns-clause-counted
returns-clause-counted c = rw (c.outcome_of.ensures, ← c.lend_room.ensures)
    (came_counted c.lend_room.new.node.disk c.forget_written.new.node.disk c.in-Ok.came c.len-first.result c.in-Ok.came.event_outcome
    (leaves_all c).2)

-- what the node says of its disk
shows_all : (c : goal.Joined-room) → Shows c.lend_room.new.node
shows_all c = record {
  fallen = c.is_fallen.ensures;
  up = λ up. (let shown = c.shows_its_disk.ensures.up up in
      (some_of c.lend_room.new.node.kept shown.0, some_of c.lend_room.new.node.area shown.1));
  number = λ d area on at. c.shows_its_disk.ensures.number d area on at refl;
}

answered_all : (c : goal.Joined-room) (s : NodeState) → Stands state_of c.lend_room.new.node s
    → IsAnswered c.lend_room.new.node c.args.event.now (came_outcome c.in-Ok.came.event_outcome c.len-first.result c.in-Ok.came)
answered_all c s stands =
    answered_so c.lend_room.new.node c.forget_written.new.node c.args.event.now c.in-Ok.came c.len-first.result s
    (some_of c.lend_room.new.node.disk c.step.ensures.counts.was_there) (leaves_all c).1 c.in-Ok.ensures.answers
    c.shows_its_disk.ensures.down c.ids_fit.ensures stands

pub returns-clause-answers : goal.returns-clause-answers
returns-clause-answers c = rw (c.outcome_of.ensures, ← c.lend_room.ensures) (answered_all c)

pub returns-clause-areas : goal.returns-clause-areas
returns-clause-areas c = rw (c.outcome_of.ensures, ← c.lend_room.ensures) (λ s stands.
    let was = some_of c.lend_room.new.node.disk c.step.ensures.counts.was_there in
    areas_so c.lend_room.new.node c.forget_written.new.node c.args.event.now c.in-Ok.came c.len-first.result s was.0 was.1 (shows_all c)
    stands (leaves_all c).1 (leaves_all c).2 (answered_all c s stands))

pub returns-in-Err-clause-memory : goal.returns-in-Err-clause-memory
returns-in-Err-clause-memory c =
    let was = some_of c.lend_room.new.node.disk c.step.ensures.counts.was_there in
    rw (← c.lend_room.ensures) (stuck_so c.lend_room.new.node c.step.new.self c.args.event.now _ was.0 was.1 c.in-Err.ensures.stuck)
