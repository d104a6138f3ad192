use Rattle.lease_session.proofs.Turns.{then}
use Rattle.lease_session.proofs.participant.Participant.stop.Goals as goal

pub returns-clause-turn : goal.returns-clause-turn
returns-clause-turn g c = then (c.give_held_up.ensures.turn c.args.now) (c.give_up.ensures.turn c.args.now)
