use Rattle.lease_session.proofs.Calls.{gave_up_sent}
use Rattle.lease_session.proofs.Bounds.{bound_quiet, bound_then}
use Rattle.lease_session.proofs.process.LeaseProcess.release_again.Goals as goal

pub returns-clause-turn : goal.returns-clause-turn
returns-clause-turn c = λ now. gave_up_sent (c.stop_relying.ensures.done c.if-not-stop_relying.false now) (c.send.ensures.turn now)

pub returns-clause-bound : goal.returns-clause-bound
returns-clause-bound c = bound_then c.stop_relying.ensures.bound (bound_quiet c.send.ensures.quiet)
