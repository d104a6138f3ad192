use Rattle.lease_session.proofs.Steps.{held_holds, turn_goes_on, turns}
use Rattle.lease_session.proofs.laws.turns_are_steps.Goals as goal

pub returns : goal.returns
returns c = record { steps = turns; turn = turn_goes_on; held = held_holds }
