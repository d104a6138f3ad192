use Rattle.std.proofs.Common.{refl}
use Rattle.lease_session.proofs.Granting.{forbidden}
use Rattle.lease_session.proofs.Votes.{voted_behind, voted_nothing}
use Rattle.lease_session.proofs.participant.Participant.vote.Goals as goal

pub returns-in-Granted-clause-vote : goal.returns-in-Granted-clause-vote
returns-in-Granted-clause-vote g c = λ number. voted_behind c.in-Granted.is (c.reserve.ensures.turn c.args.now) (c.vote.ensures.vote number)

pub returns-in-Refused-clause-vote : goal.returns-in-Refused-clause-vote
returns-in-Refused-clause-vote g c = λ number. voted_nothing (c.reserve.ensures.turn c.args.now) (c.vote.ensures.vote number)

pub returns-in-Full-clause-vote : goal.returns-in-Full-clause-vote
returns-in-Full-clause-vote g c = λ number. voted_nothing (c.reserve.ensures.turn c.args.now) (c.vote.ensures.vote number)

pub returns-in-Granted-clause-right : goal.returns-in-Granted-clause-right
returns-in-Granted-clause-right g c = λ none. c.vote.ensures.granted c.in-Granted.is

pub returns-in-Refused-clause-right : goal.returns-in-Refused-clause-right
returns-in-Refused-clause-right g c = λ none. forbidden c.reason_of.result c.reason_of.ensures
    (c.vote.ensures.refused c.in-Refused.is (c.reserve.ensures.allows ((c.vote.ensures.vote 0).turn.goes_on none)))

pub returns-in-Full-clause-right : goal.returns-in-Full-clause-right
returns-in-Full-clause-right g c = λ none. record { full = λ is. c.vote.ensures.full c.in-Full.is; not_full = λ other. absurd (other refl) }
