use Rattle.std.proofs.Common.{List, ap, sym, ◌∙◌, subst}
use Rattle.wire_msg.specs.Envelope.{Envelope}
use Rattle.histories.specs.declared.event_outcome.EventOutcome.{EventOutcome}
use Rattle.trace_check.specs.Kept.{part}
use Rattle.node_lock.specs.declared.line.PackedHistoryEvent.TheVariants.{Handed}
use Rattle.node_lock.specs.Kept.{Log, IsHandledAt}
use Rattle.node_lock.proofs.Lines.{handled_at, line_read}
use Rattle.node_lock.proofs.turn_log.TurnLog.handled.Goals as goal

pub returns-clause-some : goal.returns-clause-some
returns-clause-some c =
    let was = c.self.inside in
    let place = c.args.place in
    let line = c.in_ok-line.line.now in
    let read = c.in_ok-line.ensures.lookup in
    let at = line_read c.deref.result.now was.lines.items place line c.deref.ensures.value read.3.0 read.1 in
    subst (λ (sent : List Envelope). IsHandledAt place c.read.new.event sent c.args.self.now.turns) (sym c.part.ensures)
    (subst (λ (log : Log). IsHandledAt place c.read.new.event (part line.start line.end was.sent.messages) log.turns) c.self.view_is
    (handled_at was.lines.items was.sent.messages was.events.events place line c.in-Handed.at c.read.new.event at (c.in-Handed.is
    ∙ ap (λ (f : EventOutcome). Handed f c.in-Handed.at) c.in-Done.is) c.read.ensures))
