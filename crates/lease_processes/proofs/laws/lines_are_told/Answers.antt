use Rattle.lease_processes.proofs.Alone.{premises_are_met}
use Rattle.lease_processes.proofs.Printed.{fed_is_told, files_give_floors}
use Rattle.lease_processes.proofs.laws.lines_are_told.Goals as goal

pub returns : goal.returns
returns c = record {
  told = fed_is_told c.lines_are_steps.ensures;
  floors = files_give_floors;
  met = premises_are_met c.lines_are_steps.ensures;
}
