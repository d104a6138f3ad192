use Rattle.std.proofs.Common.{◌∙◌, ap, sym}
use Rattle.job_model.specs.Table.{durable_of}
use Rattle.node_session.proofs.session.Session.kept.Goals as goal

pub returns-clause-some : goal.returns-clause-some
returns-clause-some g c =
    let next = c.next.ensures.value in
    let pending = c.pending.ensures.value in
    (durable_of c.in_ok-count.count c.in_ok-count.table.now, sym (ap (λ p. p.node.kept) c.self.view_is) ∙ c.in_ok-count.ensures.some, cc)
