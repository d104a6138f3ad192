use Rattle.std.proofs.Common.{Some, Ok, ℕ, ◌+◌, ◌<◌, ◌≤◌, arith, lt_of_not-le, sym, ◌∙◌, ap, rules}
use Rattle.node_store.specs.Store.{slots_for, durable_of}
use Rattle.durable_node.specs.declared.node_disk.NodeDisk.TheVariants.{Mounted}
use Rattle.durable_node.specs.Reading.{IsRead}
use Rattle.node_core.specs.State.{is_down}
use Rattle.durable_node.specs.Node.{node_with, store_in}
use Rattle.durable_node.specs.Faults.{answered}
use Rattle.durable_node.proofs.AnyDisk.{unmounted_at, remounted_at}
use Rattle.durable_node.proofs.AreaLaws.{area_hidden}
use Rattle.durable_node.proofs.Mounts.{quiet_rises, rises_behind}
use Rattle.durable_node.proofs.Nodes.{counts_of, node_bare, node_over, risen}
use Rattle.durable_node.proofs.Parts.{at_both}
use Rattle.durable_node.proofs.Readings.{read_at, unread_at}
use Rattle.durable_node.proofs.Remounts.{mount_fails, rises, shows, stuck}
use Rattle.durable_node.proofs.remount.remount.Goals as goal

not_below : (a b : ℕ) → (b < a → ⊥) → a ≤ b
not_below a b none = omega (arith, lt_of_not-le {n = b + 1} {m = a} (λ h. none (omega (arith, h))))

pub returns-in-Err-clause-node : goal.returns-in-Err-clause-node
returns-in-Err-clause-node g c =
    let node = c.requires.node in
    let e = c.in-Err.ensures in
    node_bare g.D.SectorDisk.state c.args.setting.id c.args.setting.nodes c.args.core.now c.args.core.now c.args.disk.now node
    (record { id = node.core_id; nodes = node.core_nodes }) c.in-Err.refused.disk
    (node.fallen c.requires.down) (rw e.counts.sectors (e.sound (node.sound c.take.result c.take.ensures.disk)))

pub returns-in-Err-clause-call : goal.returns-in-Err-clause-call
returns-in-Err-clause-call g c =
    let state = g.D.SectorDisk.state in
    let a = c.args in
    let disk = c.in-Err.refused.disk in
    let fallen = c.requires.node.fallen c.requires.down in
    let e = c.in-Err.ensures in
    let m = c.unmounted.ensures in
    record {
      step = mount_fails state a.setting.id a.setting.nodes a.core.now a.disk.now c.take.result disk a.doubt.now a.mounted.now
          c.take.ensures.disk fallen _ _ e.counts e.run c.unmounted.result m.what m.quiet m.tried;
      stuck = stuck state a.setting.id a.setting.nodes a.core.now a.disk.now c.take.result disk a.doubt.now a.mounted.now
          c.take.ensures.disk
          fallen c.in-Err.refused.fault e.mounts e.untouched c.unmounted.result m.stuck;
      answers = λ d area kept at. absurd (area_hidden (is_down a.core.now.state.phase) (store_in a.disk.now) area c.requires.down at);
      counts = rw c.take.ensures.disk (counts_of state c.take.result disk (answered c.unmounted.result) (search rules)
          (quiet_rises (state c.take.result) (state disk) e.run));
      area = λ d area kept at. absurd (area_hidden (is_down a.core.now.state.phase) (store_in a.disk.now) area c.requires.down at);
      mounting = λ _ _. rw m.answered (unmounted_at a.setting.id a.setting.nodes a.core.now a.disk.now disk
          a.doubt.now a.mounted.now c.in-Err.refused.fault);
      mounted = λ _ _. (
        grind arith,
        rw (c.take.ensures.disk, m.answered)
            (at_both (λ was now. IsRead state was now _ _) c.take.result disk
            (unread_at state c.take.result disk c.in-Err.refused.fault e.too_small e.untouched e.answers_for e.run)),
      );
      few = grind arith;
    }

pub rise-came-requires : goal.rise-came-requires
rise-came-requires g c =
    let node = c.requires.node in
    let mount = c.in-Ok.ensures in
    record {
      over = record {
        of = record { id = node.core_id; nodes = node.core_nodes };
        within = node.within;
        most = node.most;
        ready = record { whole = mount.whole.0; sound = rw mount.whole.1 (mount.sound (node.sound c.take.result c.take.ensures.disk)) };
      };
    }

pub returns : goal.returns
returns g c =
    let state = g.D.SectorDisk.state in
    let a = c.args in
    let mount = c.in-Ok.ensures in
    let mid = c.in-Ok.store in
    let end = c.rise-came.new.store in
    let core = c.rise-came.new.core in
    let doubt = c.rise-came.new.doubt in
    let came = c.rise-came.result in
    let e = c.rise-came.ensures in
    let fallen = c.requires.node.fallen c.requires.down in
    let kept = c.is_in-kept.result in
    let shown = shows a.setting.id kept a.core.now core mid end a.doubt.now doubt came came.event_outcome e.what in
    let remounted = remounted_at a.setting.id a.setting.nodes a.core.now core a.disk.now mid end a.doubt.now doubt a.mounted.now kept came
    came.event_outcome e.what in
    let was = node_with a.setting.id a.setting.nodes a.core.now a.disk.now a.doubt.now a.mounted.now in
    let now = node_with a.setting.id a.setting.nodes core (Mounted end) doubt (Some (durable_of mid).counter) in
    rw c.counter.ensures (record {
      node = node_over state a.setting.id a.setting.nodes a.core.now core a.disk.now c.requires.node e.core mid end _ (mount.whole.1
          ∙ ap (λ (n : ℕ). slots_for n) (sym mount.counts.sectors)) e.store
          (risen a.setting.id a.setting.nodes a.core.now core mid end a.doubt.now doubt kept came came.event_outcome fallen e.what);
      call = record {
        step = rises state a.setting.id a.setting.nodes a.core.now core mid end a.doubt.now doubt fallen _ e.store came a.disk.now
            c.take.result a.mounted.now c.take.ensures.disk mount.whole.1 _ _ mount.counts mount.run
            (λ honest. (mount.remains honest).stands) kept c.is_in-kept.ensures.kept e.what e.tried e.disk;
        stuck = tt;
        answers = λ d area kept at. absurd (area_hidden (is_down a.core.now.state.phase) (store_in a.disk.now) area c.requires.down at);
        counts = rw c.take.ensures.disk (counts_of state c.take.result end.disk (answered (Ok came)) (search rules)
            (rises_behind (state c.take.result) (state mid.disk) (state end.disk) mount.counts.honest mount.run
            (e.store.rises mount.whole.0)));
        area = λ d area kept at. absurd (area_hidden (is_down a.core.now.state.phase) (store_in a.disk.now) area c.requires.down at);
        mounting = λ _ _. rw shown.0 remounted;
        mounted = λ _ _. (
          rw shown.0 (shown.2 c.is_in-kept.ensures.kept),
          rw (c.take.ensures.disk, shown.0) (at_both (λ was now. IsRead state was now _ _) c.take.result end.disk
              (read_at state c.take.result end.disk was now (durable_of mid) (answered (Ok came)) remounted
              (not_below 24 (state c.take.result).sectors mount.too_small.1) mount.answers_for)),
        );
        few = rw shown.1 (omega arith);
      };
    })
