use Rattle.std.proofs.Common.{◌≡◌, ℕ, ◌≤◌, length, nat_lt, refl, slice_get, ◌∙◌, arith, Ok, Some}
use Rattle.runs.specs.World.{node_in}
use Rattle.cluster_sim.proofs.Answering.{areas_if, idle_areas}
use Rattle.std.proofs.lemmas.Option.{slice_get_read}
use Rattle.runs.specs.Acts.{At}
use Rattle.runs.proofs.PublicLaws.{get_set_same}
use Rattle.cluster_sim.specs.World.{armed_by, bare, disk_of}
use Rattle.cluster_sim.specs.Names.{node_named}
use Rattle.cluster_sim.proofs.Arming.{still_counted}
use Rattle.runs.specs.declared.outcome.ActRefusal.TheVariants as refusal
use Rattle.cluster_sim.specs.Operated.{OperatedAs}
use Rattle.cluster_sim.proofs.Members.{denied_at, still_cluster, takes, faults_if}
use Rattle.cluster_sim.proofs.Doings.{operates, quietly, performed}
use Rattle.cluster_sim.proofs.nodes.Nodes.operate.Goals as goal

pub returns-then-place-len-clause-acted : goal.returns-then-place-len-clause-acted
returns-then-place-len-clause-acted c = λ w stands.
    let place = c.from-place.ensures ∙ c.number.ensures.value in
    let past : length c.self.inside.nodes.items ≤ c.args.id = grind (arith, place) in
    let beyond : length c.args.self.now.nodes ≤ c.args.id = rw (← c.self.view_is) past in
    performed {E = ℕ} _ w c.args.act.now (Ok _) c.args.self.now ((operates c.args.act.now c.args.id c.requires).is_step (length w.states) w)
    (denied_at w c.args.id 0 c.args.act.now (OperatedAs c.args.act.now (node_in w.states c.args.id)) c.args.self.now stands beyond)

there : (c : goal.After-self-1) → slice_get c.self.inside.nodes.items c.from-place.result ≡ Some c.index_mut.result.now
there c = slice_get_read c.self.inside.nodes.items c.len.result c.from-place.result c.index_mut.result.now (grind (arith))
    (grind (arith)) c.index_mut.ensures.value

pub invariant_of-self : goal.invariant_of-self
invariant_of-self c = still_cluster c.self.inside.slots c.from-place.result c.self.inside.nodes.items c.index_mut.result.now
    c.operate.new.node c.self.invariant (there c) c.operate.ensures.same

pub returns-clause-acted : goal.returns-clause-acted
returns-clause-acted c = λ w stands.
    let was = c.self.inside in
    let a = c.args.act.now in
    let is = operates a c.args.id c.requires in
    performed {E = ℕ} (λ step. At (nat_lt c.args.id (length w.states)) c.args.id 0 (OperatedAs a (node_in w.states c.args.id)) step) w a
    (Ok (bare c.operate.result)) _ (is.is_step (length w.states) w) (rw (← c.from-place.ensures ∙ c.number.ensures.value)
    (takes {E = ℕ} was.slots c.from-place.result 0 a (OperatedAs a) was.nodes.items c.index_mut.result.now c.operate.new.node
    was.net.network was.net.network (Ok (bare c.operate.result)) w c.self.invariant (there c)
    (rw c.self.view_is stands) (λ s what of. quietly w c.from-place.result _ (is.brings s what of))
    (λ s. c.operate.ensures.came was.slots s)))

pub returns-clause-faults : goal.returns-clause-faults
returns-clause-faults c =
    let was = c.self.inside in
    rw (
      (operates c.args.act.now c.args.id c.requires).named (length c.args.self.now.nodes) c.args.self.now.net.sent,
      ← c.from-place.ensures ∙ c.number.ensures.value,
    )
    (faults_if {E = ℕ} (armed_by c.args.act.now) was.slots c.from-place.result was.nodes.items c.index_mut.result.now c.operate.new.node
    was.net.network was.net.network (Ok (bare c.operate.result)) c.args.self.now c.self.view_is (there c) c.operate.ensures.counted)

pub returns-then-place-len-clause-faults : goal.returns-then-place-len-clause-faults
returns-then-place-len-clause-faults c =
    record {
      here = still_counted c.args.act.now (disk_of (slice_get c.args.self.now.nodes
          (node_named (length c.args.self.now.nodes) c.args.self.now.net.sent c.args.act.now))) refusal.Stranger;
      elsewhere = λ k other. refl;
    }

pub returns-then-place-len-clause-disk : goal.returns-then-place-len-clause-disk
returns-then-place-len-clause-disk c =
    let place = c.from-place.ensures ∙ c.number.ensures.value in
    let past : length c.self.inside.nodes.items ≤ c.args.id = grind (arith, place) in
    (operates c.args.act.now c.args.id c.requires).nowhere c.args.self.now _ (rw (← c.self.view_is) past)

pub returns-clause-disk : goal.returns-clause-disk
returns-clause-disk c =
    let id = c.from-place.ensures ∙ c.number.ensures.value in
    (operates c.args.act.now c.args.id c.requires).there c.args.self.now _ c.index_mut.result.now c.operate.new.node c.operate.result
    (rw (← c.self.view_is, ← id) (there c))
    (rw (← id) (get_set_same c.self.inside.nodes.items c.from-place.result c.index_mut.result.now c.operate.new.node (there c)))
    c.operate.ensures.disk

pub returns-then-place-len-clause-areas : goal.returns-then-place-len-clause-areas
returns-then-place-len-clause-areas c = idle_areas c.args.self.now.nodes _ _ refl (λ bad. cc)

pub returns-clause-areas : goal.returns-clause-areas
returns-clause-areas c =
    let was = c.self.inside in
    areas_if {E = ℕ} was.slots c.from-place.result was.nodes.items c.index_mut.result.now c.operate.new.node was.net.network was.net.network
    (Ok (bare c.operate.result)) c.args.self.now c.self.view_is (there c) c.operate.ensures.areas
