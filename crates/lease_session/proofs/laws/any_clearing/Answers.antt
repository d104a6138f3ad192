use Rattle.lease_session.proofs.Pieces.{clearing, fed_is_told}
use Rattle.lease_session.proofs.laws.any_clearing.Goals as goal

pub returns-clause-clearing : goal.returns-clause-clearing
returns-clause-clearing c = clearing

pub returns-clause-told : goal.returns-clause-told
returns-clause-told c = fed_is_told c.lines_are_steps.ensures
