use Rattle.lease_session.proofs.Votes.{asked_voted, then_voted}
use Rattle.lease_session.proofs.participant.Participant.request.Goals as goal

pub returns-in-Some-clause-turn : goal.returns-in-Some-clause-turn
returns-in-Some-clause-turn g c = then_voted c.in-Some.ensures.some c.vote_self.ensures.turn

pub returns-in-Some-clause-asks : goal.returns-in-Some-clause-asks
returns-in-Some-clause-asks g c = λ yes. asked_voted c.in-Some.ensures.some c.vote_self.ensures.turn
