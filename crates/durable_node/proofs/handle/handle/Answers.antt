use Rattle.std.proofs.Common.{ap, refl, inr}
use Rattle.node_core.specs.Core.{Core}
use Rattle.durable_node.proofs.Mounts.{unwritten}
use Rattle.durable_node.proofs.Turned.{carried_as, turned_away, wanted_so}
use Rattle.durable_node.proofs.handle.handle.Goals as goal

pub returns-in-Err-clause-disk : goal.returns-in-Err-clause-disk
returns-in-Err-clause-disk g c = unwritten g.D.SectorDisk.state c.args.store.now _ _ (g.met.D.SectorDisk.laws c.args.store.now.disk)
    (λ ok. (let failed = rw c.silent.ensures.event_outcome at ok in absurd cc))

pub returns-in-Err-NoMemory-clause-disk : goal.returns-in-Err-NoMemory-clause-disk
returns-in-Err-NoMemory-clause-disk g c = unwritten g.D.SectorDisk.state c.args.store.now _ _
    (g.met.D.SectorDisk.laws c.args.store.now.disk) (λ ok. absurd cc)

pub returns-in_default-clause-what : goal.returns-in_default-clause-what
returns-in_default-clause-what g c =
    let a = c.args in
    let of = c.requires.over.of in
    let wants = wanted_so _ _ a.core.now c.planned.new.core a.setting.id a.event.now c.table.result.now a.store.now.journal.table
    c.wanted-wants.ensures c.in-Ok.ensures.plan.wants_is c.planned.ensures.kept of.id c.table.ensures in
    let carried = c.in-Err-carry.ensures.refused c.in_default.not-Faulted in
    rw c.silent-in_default.ensures.event_outcome (turned_away a.setting.nodes a.setting.id a.event.now c.silent-in_default.result
    c.in-Err-carry.event_outcome
    (rw (of.nodes, of.id) at c.in-Ok.ensures.done) (rw wants at carried.1) c.silent-in_default.ensures.silent (record {
      same_state = ap (λ (k : Core). k.state) c.planned.ensures.kept;
      same_store = carried.0;
      same_doubt = refl;
    }))

pub returns-in_default-clause-answers : goal.returns-in_default-clause-answers
returns-in_default-clause-answers g c =
    let wants = wanted_so _ _ c.args.core.now c.planned.new.core c.args.setting.id c.args.event.now c.table.result.now
    c.args.store.now.journal.table c.wanted-wants.ensures c.in-Ok.ensures.plan.wants_is c.planned.ensures.kept c.requires.over.of.id
    c.table.ensures in
    rw (
      c.silent-in_default.ensures.event_outcome,
      rw (c.requires.over.of.nodes, c.requires.over.of.id) at c.in-Ok.ensures.done,
      ← wants,
    ) (inr (carried_as _ _ _ c.in-Err-carry.event_outcome c.in-Err-carry.ensures.answers))

pub returns-in-Faulted-clause-answers : goal.returns-in-Faulted-clause-answers
returns-in-Faulted-clause-answers g c =
    let wants = wanted_so _ _ c.args.core.now c.planned.new.core c.args.setting.id c.args.event.now c.table.result.now
    c.args.store.now.journal.table c.wanted-wants.ensures c.in-Ok.ensures.plan.wants_is c.planned.ensures.kept c.requires.over.of.id
    c.table.ensures in
    rw (
      c.silent-in-Faulted.ensures.event_outcome,
      rw (c.requires.over.of.nodes, c.requires.over.of.id) at c.in-Ok.ensures.done,
      ← wants,
    ) (inr (carried_as _ _ _ c.in-Err-carry.event_outcome c.in-Err-carry.ensures.answers))
