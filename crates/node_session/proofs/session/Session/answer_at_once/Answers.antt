use Rattle.std.proofs.Common.{◌∙◌}
use Rattle.node_session.proofs.Servings.{all_ok, at_once}
use Rattle.node_session.proofs.session.Session.answer_at_once.Goals as goal

pub returns-clause-replies : goal.returns-clause-replies
returns-clause-replies g c =
    all_ok c.push_at_once.result c.push_at_once.ensures
    (λ said. at_once g.D.SectorDisk.state c.args.self.now _ c.args.asked.now c.in_ok-number.number c.push_at_once.new.text.items
    c.requires.runs c.requires.at_once c.in_ok-number.ensures.number.0
    (c.self.view_is ∙ c.in_ok-number.ensures.number.1) said)
