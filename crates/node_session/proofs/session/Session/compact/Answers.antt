use Rattle.node_session.proofs.Happens.{compaction_so}
use Rattle.node_session.proofs.session.Session.compact.Goals as goal

pub returns-clause-turn : goal.returns-clause-turn
returns-clause-turn g c =
    let e = c.compact-done.ensures in
    compaction_so g.D.SectorDisk.state c.args.self.now _ c.compact-done.new.self c.compact-done.result c.compaction_end.result
    c.in_ok-seen.seen c.in_ok-changes.changes _ c.forget.new.self
    c.push_changes.new.text.items c.self.view_is e.id e.nodes
    (record {
      answers = e.answers;
      step = e.step;
      moved = e.moved;
      spelled = e.spelled;
      fallen = e.fallen;
      refused = e.refused;
      images =
          e.images;
      counts = e.counts;
    })
    c.in_ok-seen.ensures c.in_ok-changes.ensures c.compaction_end.ensures c.vector.ensures c.in_ok-forget.ensures
    c.in_ok-push_changes.ensures
