use Rattle.lease_steps.proofs.Holding.{held_is_held}
use Rattle.lease_steps.proofs.shown_is_held.Goals as goal

pub returns : goal.returns
returns c = held_is_held
