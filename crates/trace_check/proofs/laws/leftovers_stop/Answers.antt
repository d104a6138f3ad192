use Rattle.trace_check.proofs.Contradictions.{stop}
use Rattle.trace_check.proofs.laws.leftovers_stop.Goals as goal

pub returns : goal.returns
returns c = stop
