use Rattle.trace_check.proofs.Leftovers.{hold}
use Rattle.trace_check.proofs.laws.holdups_hold.Goals as goal

pub returns : goal.returns
returns c = hold
