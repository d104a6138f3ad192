use Rattle.std.proofs.Common.{sym, ◌∙◌}
use Rattle.lease_session.specs.Feeding.{at}
use Rattle.lease_session.proofs.Bounds.{within_quiet}
use Rattle.lease_session.proofs.Feeding.{answer_so}
use Rattle.lease_session.proofs.session.LeaseSession.answer_line.Goals as goal

pub returns-clause-line : goal.returns-clause-line
returns-clause-line g c =
    let reserved = g.S.EpochStore.bound in
    answer_so c.args.line.now (at c.args.self.now.participant.process c.args.self.now.participant.told c.args.self.now.stopped
    (reserved c.args.self.now.participant.store))
    (at c.end_line.new.self c.answer.new.self.told c.in_ok-self.field-0 (reserved c.answer.new.self.store)) c.if-self.false
    (sym c.is_empty.ensures ∙ c.if-is_empty.false)
    (record {
      behind = c.answer.new.self.process;
      due = c.due-due.result;
      came = c.answer.ensures;
      ended =
          c.in_ok-self.ensures.ended;
      reserved = within_quiet (reserved c.answer.new.self.store) c.end_line.ensures.quiet
          c.answer.new.self.within;
    })
