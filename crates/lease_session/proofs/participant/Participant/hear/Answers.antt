use Rattle.lease_session.proofs.participant.Participant.hear.Goals as goal

pub returns-in-Some-held-clause-turn : goal.returns-in-Some-held-clause-turn
returns-in-Some-held-clause-turn g c = c.hear.ensures.turn
