use Rattle.std.proofs.Common.{◌≡◌, true, sym, ◌∙◌, refl, rules}
use Rattle.node_core.specs.State.{is_down}
use Rattle.durable_node.specs.Node.{disk_in}
use Rattle.durable_node.proofs.AreaLaws.{moved_into}
use Rattle.durable_node.proofs.Nodes.{counts_of, counts_still, over}
use Rattle.durable_node.proofs.Compactions.{compact_down, compacts}
use Rattle.durable_node.proofs.compacting.compact.Goals as goal

pub returns-in_default-clause-step : goal.returns-in_default-clause-step
returns-in_default-clause-step g c =
    let down : is_down c.args.core.now.state.phase ≡ true = search rules in
    let same : c.in_default.disk ≡ c.args.disk.now = search rules in
    rw same (compact_down g.D.SectorDisk.state c.args.setting.id c.args.setting.nodes c.args.core.now c.args.disk.now c.args.doubt.now
    c.args.mounted.now _ down refl)

pub rewrite-requires : goal.rewrite-requires
rewrite-requires g c =
    record {
      over = over g.D.SectorDisk.state c.args.setting.id c.args.setting.nodes c.args.core.now c.in-Mounted.store
          (rw c.in-Mounted.is at c.requires.node) (sym c.is_down.ensures ∙ c.if-not-is_down.true);
    }

pub returns-in-Mounted-clause-step : goal.returns-in-Mounted-clause-step
returns-in-Mounted-clause-step g c =
    let e = c.rewrite.ensures in
    let node = rw c.in-Mounted.is at c.requires.node in
    rw c.in-Mounted.is (compacts g.D.SectorDisk.state c.args.setting.id c.args.setting.nodes c.args.core.now c.rewrite.new.core
    c.in-Mounted.store c.rewrite.new.store c.args.doubt.now c.args.mounted.now
    (sym c.is_down.ensures ∙ c.if-not-is_down.true) c.rewrite.result (node.slots c.in-Mounted.store refl) e.core e.answers e.kept _ e.store
    e.images)

pub returns-in_default-clause-counts : goal.returns-in_default-clause-counts
returns-in_default-clause-counts g c =
    let same : c.in_default.disk ≡ c.args.disk.now = search rules in
    rw same (counts_still g.D.SectorDisk.state (disk_in c.args.disk.now) _ c.requires.node.there (λ e. cc))

pub returns-in-Mounted-clause-counts : goal.returns-in-Mounted-clause-counts
returns-in-Mounted-clause-counts g c =
    let e = c.rewrite.ensures.store in
    let node = rw c.in-Mounted.is at c.requires.node in
    rw c.in-Mounted.is (counts_of g.D.SectorDisk.state c.in-Mounted.store.disk c.rewrite.new.store.disk c.rewrite.result e.counts
    (e.rises (node.up (sym c.is_down.ensures ∙ c.if-not-is_down.true))))

pub returns-in-Mounted-clause-spelled : goal.returns-in-Mounted-clause-spelled
returns-in-Mounted-clause-spelled g c =
    let e = c.rewrite.ensures in
    rw c.in-Mounted.is (moved_into c.args.setting.id c.args.setting.nodes c.args.core.now c.rewrite.new.core c.in-Mounted.store
    c.rewrite.new.store c.args.doubt.now c.args.mounted.now
    (sym c.is_down.ensures ∙ c.if-not-is_down.true) g.D.SectorDisk.state c.rewrite.result (λ ok. (e.done ok).1) e.spelled)
