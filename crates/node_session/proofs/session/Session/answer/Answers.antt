use Rattle.std.proofs.Common.{sym, subst}
use Rattle.node_session.specs.declared.asked.Asked.{Asked}
use Rattle.node_session.specs.Serving.{Replies}
use Rattle.node_session.proofs.Servings.{nothing_line}
use Rattle.node_session.proofs.session.Session.answer.Goals as goal

pub returns-in-Nothing-clause-replies : goal.returns-in-Nothing-clause-replies
returns-in-Nothing-clause-replies g c =
    subst (λ (a : Asked). Replies g.D.SectorDisk.state c.args.self.now c.args.self.now a) (sym c.in-Nothing.is)
    (nothing_line g.D.SectorDisk.state c.args.self.now c.requires)
