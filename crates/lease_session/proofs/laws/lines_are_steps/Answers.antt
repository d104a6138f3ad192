use Rattle.lease_session.proofs.Lines.{lines}
use Rattle.lease_session.proofs.laws.lines_are_steps.Goals as goal

pub returns : goal.returns
returns c = lines c.votes_are_steps.ensures.later
