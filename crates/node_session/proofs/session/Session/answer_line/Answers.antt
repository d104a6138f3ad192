use Rattle.std.proofs.Common.{sym, ap, ◌∙◌, length}
use Rattle.node_session.proofs.Servings.{sealed_line, sealed_ok, stopped_line}
use Rattle.node_session.proofs.session.Session.answer_line.Goals as goal

pub returns-then-self-clause-line : goal.returns-then-self-clause-line
returns-then-self-clause-line g c = stopped_line g.D.SectorDisk.state c.args.self.now c.args.line.now
    (sym (ap (λ p. p.stopped) c.self.view_is) ∙ c.if-self.true)

pub returns-clause-line : goal.returns-clause-line
returns-clause-line g c =
    sealed_ok g.D.SectorDisk.state (length c.text-start.result.now) c.answer.new.self c.seal_from.new.self c.seal_from.result
    c.seal_from.ensures.same c.seal_from.ensures.text c.seal_from.ensures.seal
    (λ sealing. sealed_line g.D.SectorDisk.state c.args.self.now c.read.new.self c.answer.new.self c.seal_from.new.self c.args.line.now
    c.in_ok-asked.asked (length c.text-start.result.now)
    (sym (ap (λ p. p.stopped) c.self.view_is) ∙ c.if-self.false) c.in_ok-asked.ensures.asked c.in_ok-asked.ensures.taken
    (ap length c.text-start.ensures) c.in_ok-answer.ensures.replies sealing)
