use Rattle.lease_session.proofs.participant.Participant.refuse_request.Goals as goal

pub returns-clause-replies : goal.returns-clause-replies
returns-clause-replies g c = c.answer.ensures.replies
