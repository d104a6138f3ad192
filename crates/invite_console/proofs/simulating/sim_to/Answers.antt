use Rattle.std.proofs.Common.{rules}
use Rattle.invite_console.specs.Sim.{IsSimPrintout}
use Rattle.invite_console.proofs.Endings.{prints_explained}
use Rattle.invite_console.proofs.simulating.sim_to.Goals as goal

pub returns-in-Ok-bad_schedule-clause-prints : goal.returns-in-Ok-bad_schedule-clause-prints
returns-in-Ok-bad_schedule-clause-prints g c =
    let printout = c.in-Ok-bad_schedule.explained.printout in
    prints_explained (IsSimPrintout c.args.details) c.args.input.items printout.text.items printout.good
    (g.W.Write.contents c.args.output.now) (g.W.Write.contents c.print_explained.new.output) c.print_explained.result.ending
    (search rules) c.print_explained.ensures.prints
