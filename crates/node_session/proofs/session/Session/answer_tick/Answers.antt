use Rattle.std.proofs.Common.{◌∙◌}
use Rattle.node_session.specs.Timing.{told_time}
use Rattle.node_session.proofs.Servings.{tells, tells_next, tick_line, told_so, on_ok}
use Rattle.node_session.proofs.session.Session.answer_tick.Goals as goal

pub returns-clause-replies : goal.returns-clause-replies
returns-clause-replies g c =
    on_ok c.push_closing.result
    (λ said. tick_line g.D.SectorDisk.state c.args.self.now _ c.send_again.new.self c.fire_due.new.self _ c.args.now c.in_ok-number.number
    c.in_ok-ended.ended c.next_due-due.result c.push_next.new.text.items c.push_closing.new.text.items
    c.in_ok-number.ensures.number.0 (told_so c.args.self.now _ c.in_ok-number.number c.pass.new.self (told_time c.args.now) (c.self.view_is
    ∙ c.in_ok-number.ensures.number.1) c.pass.ensures)
    c.in_ok-send_again.ensures.again c.in_ok-send_again.ensures.messages c.in_ok-ended.ensures.calls (c.self-2.view_is
    ∙ c.stop_where_failed.ensures)
    (tells g.D.SectorDisk.state _ c.stop_where_failed.new.self c.args.now c.next_due-due.result c.self-2.view_is
    c.next_due-due.ensures.told)
    (tells_next g.D.SectorDisk.state _ c.stop_where_failed.new.self c.args.now c.next_due-due.result c.self-2.view_is
    c.next_due-due.ensures.next) c.in_ok-push_next.ensures said)
    c.push_closing.ensures
