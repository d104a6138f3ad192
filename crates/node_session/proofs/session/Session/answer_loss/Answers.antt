use Rattle.std.proofs.Common.{◌∙◌}
use Rattle.node_session.proofs.Servings.{loss_line, on_ok}
use Rattle.node_session.proofs.session.Session.answer_loss.Goals as goal

pub returns-clause-replies : goal.returns-clause-replies
returns-clause-replies g c =
    on_ok c.push_closing.result
    (λ said. loss_line g.D.SectorDisk.state c.args.self.now c.next_number.new.self c.give_up.new.self _ c.args.node c.in_ok-number.number
    c.in_ok-ended.ended c.push_closing.new.text.items
    c.in_ok-number.ensures.number.0 c.in_ok-number.ensures.number.1 c.in_ok-ended.ensures.calls (c.self.view_is
    ∙ c.stop_where_failed.ensures) said)
    c.push_closing.ensures
