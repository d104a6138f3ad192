use Rattle.trace_console.proofs.Answered.{decide_told}
use Rattle.trace_console.proofs.answers.answers_decide.Goals as goal

pub returns : goal.returns
returns c = decide_told
