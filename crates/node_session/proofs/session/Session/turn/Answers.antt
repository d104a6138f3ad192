use Rattle.node_session.proofs.Happens.{turn_so}
use Rattle.node_session.proofs.session.Session.turn.Goals as goal

pub returns-clause-turn : goal.returns-clause-turn
returns-clause-turn g c =
    let e = c.step-reply.ensures in
    turn_so g.D.SectorDisk.state c.args.self.now _ c.step-reply.new.self c.args.event.now c.step-reply.result c.ended_by-ended.result
    c.is_finish.result c.in_ok-seen.seen c.in_ok-changes.changes _ c.sent_of-sent.result.now c.keep.new.self
    c.push_messages.new.text.items c.push_changes.new.text.items c.push_gone.new.text.items c.self.view_is e.id e.nodes
    e.step e.stuck (λ none. (let bad = c.ran_out.ensures.1 none in absurd cc)) e.mounting c.is_fallen.ensures e.counts
    (record {
      step = e.step;
      stuck = e.stuck;
      memory = λ none. (let bad = c.ran_out.ensures.1 none in absurd cc);
      answers =
          e.answers;
      counts = e.counts;
      area = e.area;
      mounting = e.mounting;
      mounted = e.mounted;
      few = e.few;
    })
    c.in_ok-seen.ensures c.in_ok-changes.ensures c.is_finish.ensures c.ended_by-ended.ensures c.sent_of-sent.ensures
    c.in_ok-push_messages.ensures.messages c.vector.ensures c.in_ok-keep.ensures c.in_ok-push_messages.ensures.text
    c.in_ok-push_changes.ensures c.in_ok-push_gone.ensures
