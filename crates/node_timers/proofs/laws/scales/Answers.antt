use Rattle.node_timers.proofs.Units.{scaled}
use Rattle.node_timers.proofs.laws.scales.Goals as goal

pub returns : goal.returns
returns c = scaled
