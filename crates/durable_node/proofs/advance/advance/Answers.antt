use Rattle.std.proofs.Common.{◌≡◌, true, Ok, sym, ◌∙◌, refl, rules, arith}
use Rattle.durable_node.specs.declared.node_disk.NodeDisk.TheVariants.{Mounted}
use Rattle.node_core.specs.State.{is_down}
use Rattle.durable_node.specs.Faults.{answered}
use Rattle.durable_node.specs.Node.{disk_in, store_in}
use Rattle.durable_node.proofs.AreaLaws.{area_goes_on, area_hidden}
use Rattle.durable_node.proofs.Ignores.{few_ignored, ignores, no_device}
use Rattle.durable_node.proofs.Nodes.{counts_of, counts_still, node_over, over, served, served_stuck}
use Rattle.durable_node.proofs.Serves.{serves}
use Rattle.durable_node.proofs.advance.advance.Goals as goal

pub handle-requires-clause-over : goal.handle-requires-clause-over
handle-requires-clause-over g c = over g.D.SectorDisk.state c.args.setting.id c.args.setting.nodes c.args.core.now c.in-Mounted.store
    (rw c.in-Mounted.is at c.requires.node) (sym c.is_down.ensures ∙ c.if-not-is_down.true)

pub returns-in-Recover-clause-call : goal.returns-in-Recover-clause-call
returns-in-Recover-clause-call g c =
    let same : c.in_default.disk ≡ c.args.disk.now = search rules in
    rw c.in-Recover.is (rw same at c.remount.ensures.call)

pub ignore-requires-clause-fallen : goal.ignore-requires-clause-fallen
ignore-requires-clause-fallen g c =
    let down : is_down c.args.core.now.state.phase ≡ true = search rules in
    rw c.requires.node.core_id (c.requires.node.fallen down)

pub returns : goal.returns
returns g c =
    let e = c.ignore.ensures in
    let node = c.requires.node in
    let same : c.in_default.disk ≡ c.args.disk.now = search rules in
    let down : is_down c.args.core.now.state.phase ≡ true = search rules in
    rw same (record {
      node = rw e.kept (assumption node);
      call = record {
        step = ignores g.D.SectorDisk.state c.args.setting.id c.args.setting.nodes c.args.core.now c.ignore.new.core c.args.disk.now
            c.args.doubt.now c.args.mounted.now c.args.event.now
            (node.fallen down) (rw e.kept) c.in_default-event.not-Recover (Ok c.ignore.result)
            (rw (node.core_nodes, node.core_id) at e.what) e.tried;
        stuck = tt;
        answers = λ d area kept at. absurd (area_hidden (is_down c.args.core.now.state.phase) (store_in c.args.disk.now) area down at);
        counts = counts_still g.D.SectorDisk.state (disk_in c.args.disk.now)
            (answered (Ok c.ignore.result)) node.there (no_device _ c.ignore.result e.what);
        area = λ d area kept at. absurd (area_hidden (is_down c.args.core.now.state.phase) (store_in c.args.disk.now) area down at);
        mounting = λ _ is. absurd (c.in_default-event.not-Recover is);
        mounted = λ _ is. absurd (c.in_default-event.not-Recover is);
        few = few_ignored _ _ c.ignore.result e.what;
      };
    })

pub returns-in-Mounted : goal.returns-in-Mounted
returns-in-Mounted g c =
    let e = c.handle.ensures in
    let store = c.in-Mounted.store in
    let up = sym c.is_down.ensures ∙ c.if-not-is_down.true in
    let node = rw c.in-Mounted.is at c.requires.node in
    record {
      node = node_over g.D.SectorDisk.state c.args.setting.id c.args.setting.nodes c.args.core.now c.handle.new.core (Mounted store) node
          e.core store c.handle.new.store _ (node.slots store refl) e.store
          (served c.args.setting.id c.args.setting.nodes c.args.core.now c.handle.new.core store c.handle.new.store c.args.doubt.now
          c.handle.new.doubt c.args.event.now c.handle.result up (node.up up) e.what e.stuck.as_before);
      call = record {
        step = rw c.in-Mounted.is (serves g.D.SectorDisk.state c.args.setting.id c.args.setting.nodes c.args.core.now c.handle.new.core
            store c.handle.new.store c.args.doubt.now c.handle.new.doubt c.args.event.now
            up (node.slots store refl) _ e.store c.args.mounted.now c.handle.result e.what e.report.tried e.disk);
        stuck = rw c.in-Mounted.is (served_stuck c.args.setting.id c.args.setting.nodes c.args.core.now c.handle.new.core store
            c.handle.new.store c.args.doubt.now c.handle.new.doubt g.D.SectorDisk.state c.args.mounted.now
            c.args.event.now c.handle.result e.stuck.as_before up e.stuck.memory);
        answers = grind arith;
        counts = rw c.in-Mounted.is (counts_of g.D.SectorDisk.state store.disk c.handle.new.store.disk (answered c.handle.result)
            e.store.counts (e.store.rises (node.up up)));
        area = rw c.in-Mounted.is (area_goes_on c.args.setting.id c.args.setting.nodes c.args.core.now c.handle.new.core store
            c.handle.new.store c.args.doubt.now c.handle.new.doubt c.args.mounted.now c.args.event.now up
            g.D.SectorDisk.state c.handle.result e.what e.stuck.as_before e.area e.disk);
        mounting = grind arith;
        mounted = grind arith;
        few = grind arith;
      };
    }
