use Rattle.std.proofs.Common.{◌∙◌}
use Rattle.lease_runs.specs.Code.{client_of}
use Rattle.lease_session.proofs.Turns.{from_same, stay, to_same}
use Rattle.lease_session.proofs.Votes.{as_brought, grant_said, said_is}
use Rattle.lease_session.proofs.participant.Participant.take_grant.Goals as goal

pub returns-then-relies_on-clause-turn : goal.returns-then-relies_on-clause-turn
returns-then-relies_on-clause-turn g c =
    let m = c.args.message.now in
    to_same c.keep.ensures.0 (from_same c.time_answer.ensures.0
    (said_is m (grant_said m c.args.number c.requires (client_of c.client_of-client.result) c.client_of-client.ensures)
    c.hear.ensures.turn))

pub returns-then-relies_on-clause-told : goal.returns-then-relies_on-clause-told
returns-then-relies_on-clause-told g c = c.keep.ensures.1 ∙ (c.hear.ensures.told ∙ c.time_answer.ensures.1)

pub returns-then-message-want-clause-turn : goal.returns-then-message-want-clause-turn
returns-then-message-want-clause-turn g c = from_same c.time_answer.ensures.0 (as_brought (c.release_again.ensures.turn c.args.now))

pub returns-else-message-want-clause-turn : goal.returns-else-message-want-clause-turn
returns-else-message-want-clause-turn g c = to_same c.time_answer.ensures.0 (stay c.args.self.now.process)

pub returns-in_default-clause-turn : goal.returns-in_default-clause-turn
returns-in_default-clause-turn g c = as_brought (c.release_again-in_default.ensures.turn c.args.now)
