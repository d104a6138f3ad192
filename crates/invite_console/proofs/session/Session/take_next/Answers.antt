use Rattle.std.proofs.Common.{◌≡◌, ◌++◌, ◌∙◌, ap, codes}
use Rattle.console_text.specs.Ends.{line}
use Rattle.invite_console.proofs.Sessions.{takes_taken, takes_refused}
use Rattle.invite_console.proofs.session.Session.take_next.Goals as goal

pub returns-in_ok-print : goal.returns-in_ok-print
returns-in_ok-print c =
    let off = c.if-not-taken.true in
    let stays : c.take.new.self ≡ c.args.self.now = c.in_ok-taken.ensures.stays (cc) in
    takes_refused c.args.self.now c.print.new.self c.args.message.now c.in_ok-taken.taken c.in_ok-taken.ensures.refused off
    (ap (λ p. p.text) c.in_ok-print.ensures ∙ ap (λ p. p.text ++ line (codes "refused Stranger")) stays)

pub returns-else-not-taken : goal.returns-else-not-taken
returns-else-not-taken c =
    let on = c.if-not-taken.false in
    takes_taken c.args.self.now c.take.new.self c.args.message.now c.in_ok-taken.taken c.in_ok-taken.ensures.refused on
    (c.in_ok-taken.ensures.goes (cc))
