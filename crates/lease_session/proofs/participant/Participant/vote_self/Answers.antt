use Rattle.std.proofs.Common.{ap, ◌∙◌}
use Rattle.lease_session.specs.declared.voting.Answer.{Answer}
use Rattle.lease_session.specs.Turns.{vote_of}
use Rattle.lease_session.proofs.Votes.{own_granted, own_refused}
use Rattle.lease_session.proofs.participant.Participant.vote_self.Goals as goal

pub returns-in-Granted-clause-turn : goal.returns-in-Granted-clause-turn
returns-in-Granted-clause-turn g c =
    own_granted c.machine-voter.result c.machine-voter.ensures (ap (λ (a : Answer). vote_of a) c.in-Granted.is)
    (c.vote.ensures.vote c.args.number) c.hear.ensures.turn

pub returns-in-Granted-clause-told : goal.returns-in-Granted-clause-told
returns-in-Granted-clause-told g c = c.hear.ensures.told ∙ c.vote.ensures.told

pub returns-in-Refused-clause-turn : goal.returns-in-Refused-clause-turn
returns-in-Refused-clause-turn g c = own_refused (c.vote.ensures.vote c.args.number) c.refused.ensures.turn
