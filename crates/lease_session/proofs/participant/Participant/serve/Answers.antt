use Rattle.lease_session.proofs.Turns.{then}
use Rattle.lease_session.proofs.participant.Participant.serve.Goals as goal

pub returns-in-Holding-2-clause-turn : goal.returns-in-Holding-2-clause-turn
returns-in-Holding-2-clause-turn g c = then c.stop.ensures.turn c.ask_or_tell.ensures.turn
