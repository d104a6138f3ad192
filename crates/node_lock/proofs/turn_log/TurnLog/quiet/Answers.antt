use Rattle.std.proofs.Common.{sym, subst}
use Rattle.node_lock.specs.Kept.{Log, IsQuietAt}
use Rattle.node_lock.proofs.Lines.{line_read, quiet_at, event_at, sent_at}
use Rattle.node_lock.proofs.turn_log.TurnLog.quiet.Goals as goal

pub returns-in-Quiet-clause-some : goal.returns-in-Quiet-clause-some
returns-in-Quiet-clause-some c =
    let was = c.self.inside in
    let place = c.args.place in
    let line = c.in_ok-line.line.now in
    let read = c.in_ok-line.ensures.lookup in
    let at = line_read c.deref.result.now was.lines.items place line c.deref.ensures.value read.3.0 read.1 in
    subst (λ (log : Log). IsQuietAt place c.in-Quiet.quiet log.turns) c.self.view_is
    (quiet_at was.lines.items was.sent.messages was.events.events place line c.in-Quiet.quiet at c.in-Quiet.is c.if-line.true)

pub returns-in_default-clause-none : goal.returns-in_default-clause-none
returns-in_default-clause-none c = λ _ q h.
    let was = c.self.inside in
    let place = c.args.place in
    let line = c.in_ok-line.line.now in
    let read = c.in_ok-line.ensures.lookup in
    let at = line_read c.deref.result.now was.lines.items place line c.deref.ensures.value read.3.0 read.1 in
    sent_at was.lines.items was.sent.messages was.events.events place line q c.self.invariant.0 at c.if-line.false
    (subst (λ (log : Log). IsQuietAt place q log.turns) (sym c.self.view_is) h)

pub returns-in_default-2-clause-none : goal.returns-in_default-2-clause-none
returns-in_default-2-clause-none c = λ _ q h.
    let was = c.self.inside in
    let place = c.args.place in
    let line = c.in_ok-line.line.now in
    let read = c.in_ok-line.ensures.lookup in
    let at = line_read c.deref.result.now was.lines.items place line c.deref.ensures.value read.3.0 read.1 in
    event_at was.lines.items was.sent.messages was.events.events place line q c.in_default.field-1 c.in_default.field-0 c.self.invariant.0
    at c.in_default.is (subst (λ (log : Log). IsQuietAt place q log.turns) (sym c.self.view_is) h)
