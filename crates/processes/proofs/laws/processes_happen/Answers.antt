use Rattle.processes.proofs.Happening.{processes_happen}
use Rattle.processes.proofs.laws.processes_happen.Goals as goal

pub returns : goal.returns
returns c = processes_happen
