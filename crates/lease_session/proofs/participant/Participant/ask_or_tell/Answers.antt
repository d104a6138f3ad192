use Rattle.lease_session.proofs.Turns.{then}
use Rattle.lease_session.proofs.participant.Participant.ask_or_tell.Goals as goal

pub returns-then-not-ask-clause-turn : goal.returns-then-not-ask-clause-turn
returns-then-not-ask-clause-turn g c = then c.ask.ensures.turn (c.refuse_user.ensures.turn c.args.now)
