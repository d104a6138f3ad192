use Rattle.std.proofs.Common.{◌≡◌, ℕ, ◌≤◌, length, slice_get, refl, sym, ◌∙◌, subst, arith, None, Some}
use Rattle.std.proofs.lemmas.Option.{slice_get_past, slice_get_read, slice_get_within}
use Rattle.sector_disk.specs.Memory.{state_of}
use Rattle.durable_node.specs.Node.{Stands}
use Rattle.histories.specs.NodeState.{NodeState}
use Rattle.runs.specs.World.{World}
use Rattle.runs.proofs.PublicLaws.{at_place}
use Rattle.cluster_sim.proofs.Answering.{answers_if, areas_if, idle_areas}
use Rattle.histories.specs.HistoryEvent.{AreAddressed, brought, IsOf}
use Rattle.cluster_sim.proofs.Members.{denied_at, still_cluster, takes, rests_if, untouched_if, faults_if}
use Rattle.cluster_sim.specs.World.{StandsFor, as_before}
use Rattle.cluster_sim.proofs.Doings.{brought_came}
use Rattle.cluster_sim.proofs.nodes.Nodes.take.Goals as goal

pub returns-then-place-len-clause-acted : goal.returns-then-place-len-clause-acted
returns-then-place-len-clause-acted c = λ w number a stands brings goes.
    let place = c.from-place.ensures ∙ c.number.ensures.value in
    let past : length c.self.inside.nodes.items ≤ c.args.id = grind (arith, place) in
    denied_at w c.args.id number a (IsOf c.args.event.now) c.args.self.now stands (rw (← c.self.view_is) past)

there : (c : goal.After-self-1) → slice_get c.self.inside.nodes.items c.from-place.result ≡ Some c.index_mut.result.now
there c = slice_get_read c.self.inside.nodes.items c.len.result c.from-place.result c.index_mut.result.now (grind (arith))
    (grind (arith)) c.index_mut.ensures.value

pub invariant_of-self : goal.invariant_of-self
invariant_of-self c = still_cluster c.self.inside.slots c.from-place.result c.self.inside.nodes.items c.index_mut.result.now
    c.handle.new.node c.self.invariant (there c) c.handle.ensures.same

pub returns-clause-acted : goal.returns-clause-acted
returns-clause-acted c = λ w number a stands brings goes.
    let was = c.self.inside in
    let id = c.from-place.ensures ∙ c.number.ensures.value in
    let p = c.from-place.result in
    rw (← id) (takes was.slots p number a (λ s. IsOf c.args.event.now) was.nodes.items c.index_mut.result.now c.handle.new.node
    was.net.network c.handle.new.net.network c.handle.result w c.self.invariant (there c)
    (rw c.self.view_is stands) (λ s. brought_came w p number c.args.event.now brings
    (subst (λ (k : ℕ). AreAddressed k (brought (Some c.args.event.now))) (sym id) goes))
    (λ s. c.handle.ensures.came was.slots s a c.self.invariant.most_slots
    (c.self.invariant.members p c.index_mut.result.now (there c)).size))

pub returns-clause-memory : goal.returns-clause-memory
returns-clause-memory c = λ w stands.
    let was = c.self.inside in
    rests_if was.slots c.from-place.result was.nodes.items c.index_mut.result.now c.handle.new.node was.net.network c.handle.new.net.network
    c.handle.result w (there c)
    (rw c.self.view_is stands) c.handle.ensures.memory c.handle.ensures.unsent

pub returns-clause-untouched : goal.returns-clause-untouched
returns-clause-untouched c = λ w stands.
    let was = c.self.inside in
    rw (← c.from-place.ensures ∙ c.number.ensures.value)
    (untouched_if was.slots c.from-place.result was.nodes.items c.index_mut.result.now c.handle.new.node was.net.network
    c.handle.new.net.network c.handle.result w c.args.self.now c.self.view_is (there c)
    (rw c.self.view_is stands) c.handle.ensures.memory c.handle.ensures.unsent)

pub returns-clause-faults : goal.returns-clause-faults
returns-clause-faults c =
    let was = c.self.inside in
    rw (← c.from-place.ensures ∙ c.number.ensures.value)
    (faults_if as_before was.slots c.from-place.result was.nodes.items c.index_mut.result.now c.handle.new.node was.net.network
    c.handle.new.net.network c.handle.result c.args.self.now c.self.view_is (there c) c.handle.ensures.counted)

-- the node stands for a state
node_state : (c : goal.After-self-1) (w : World) → StandsFor c.args.self.now w → (s : NodeState) × Stands state_of c.index_mut.result.now s
node_state c w stands =
    let was = c.self.inside in
    let stood : StandsFor (record { slots = was.slots; nodes = was.nodes.items; net = was.net.network }) w = rw c.self.view_is stands in
    let within = slice_get_within was.nodes.items c.from-place.result c.index_mut.result.now (there c) in
    let s = at_place w.states c.from-place.result (omega (arith, stood.count, within)) in
    (s.0, stood.each c.from-place.result c.index_mut.result.now s.0 (there c) s.1)

pub returns-clause-answers : goal.returns-clause-answers
returns-clause-answers c = λ w stands.
    let s = node_state c w stands in
    rw (← c.self.view_is, ← c.from-place.ensures ∙ c.number.ensures.value)
    (answers_if c.from-place.result c.self.inside.nodes.items c.args.event.now c.index_mut.result.now c.handle.result (there c)
    (c.handle.ensures.answers s.0 s.1))

pub returns-clause-areas : goal.returns-clause-areas
returns-clause-areas c = λ w stands.
    let was = c.self.inside in
    let s = node_state c w stands in
    areas_if was.slots c.from-place.result was.nodes.items c.index_mut.result.now c.handle.new.node was.net.network c.handle.new.net.network
    c.handle.result c.args.self.now c.self.view_is (there c)
    (c.handle.ensures.areas s.0 s.1)

pub returns-then-place-len-clause-areas : goal.returns-then-place-len-clause-areas
returns-then-place-len-clause-areas c = λ w stands. idle_areas c.args.self.now.nodes _ _ refl (λ bad. cc)

pub returns-then-place-len-clause-answers : goal.returns-then-place-len-clause-answers
returns-then-place-len-clause-answers c = λ w stands was at.
    let place = c.from-place.ensures ∙ c.number.ensures.value in
    let past : length c.self.inside.nodes.items ≤ c.args.id = grind (arith, place) in
    let beyond : length c.args.self.now.nodes ≤ c.args.id = rw (← c.self.view_is) past in
    absurd (let none : None ≡ Some was = sym (slice_get_past c.args.self.now.nodes c.args.id beyond) ∙ at in cc)
