use Rattle.std.proofs.Common.{◌∙◌}
use Rattle.node_session.specs.Timing.{heard}
use Rattle.node_session.proofs.Servings.{event_line, on_ok, told_so}
use Rattle.node_session.proofs.session.Session.answer_event.Goals as goal

pub returns-clause-replies : goal.returns-clause-replies
returns-clause-replies g c =
    on_ok c.push_event_closing.result
    (λ said. event_line g.D.SectorDisk.state c.args.self.now _ c.make.new.self _ c.args.event.now c.in_ok-number.number
    c.in_ok-ends.ends.step c.in_ok-ends.ends.last c.of_event-ended.result c.push_keeps_news.new.text.items
    c.push_event_closing.new.text.items
    c.in_ok-number.ensures.number.0 (told_so c.args.self.now _ c.in_ok-number.number c.hear.new.self (heard c.args.event.now)
    (c.self.view_is ∙ c.in_ok-number.ensures.number.1) c.hear.ensures) c.make.ensures.timers c.in_ok-ends.ensures.calls
    (c.self-2.view_is ∙ c.stop_where_failed.ensures) c.of_event-ended.ensures c.in_ok-push_keeps_news.ensures said)
    c.push_event_closing.ensures
