use Rattle.trace_console.proofs.Silence.{judged_alone}
use Rattle.trace_console.proofs.judging.untold_is_judged_alone.Goals as goal

pub returns : goal.returns
returns c = judged_alone
