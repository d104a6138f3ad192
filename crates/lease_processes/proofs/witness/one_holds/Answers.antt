use Rattle.lease_processes.proofs.Holding.{somebody_holds}
use Rattle.lease_processes.proofs.witness.one_holds.Goals as goal

pub returns : goal.returns
returns c = λ holds. somebody_holds c.lines_are_steps.ensures _ _ _ c.in_ok-session.ensures.new c.in_ok-session.ensures.plain.3
    c.in_ok-feed.ensures (c.has_told_of_leases.ensures holds)
