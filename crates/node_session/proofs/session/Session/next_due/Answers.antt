use Rattle.std.proofs.Common.{ap, ◌∙◌}
use Rattle.node_session.proofs.Looks.{next_so}
use Rattle.node_session.proofs.session.Session.next_due.Goals as goal

pub returns-in_default-clause-next : goal.returns-in_default-clause-next
returns-in_default-clause-next g c = λ s stands.
    let e = c.next_due.ensures in
    next_so c.args.self.now.node.id c.args.now s c.snapshot-snapshot.result c.policy.result.now c.self.inside.waiting c.args.self.now.waits
    c.args.self.now.timers c.next_due.result (c.snapshot-snapshot.ensures.seen s stands)
    (record { quiet = e.quiet; silent = e.silent; fires = e.fires; at_once = e.at_once })
    (c.policy.ensures ∙ ap (λ p. p.timers.policy) c.self.view_is) (ap (λ p. p.waits) c.self.view_is)
