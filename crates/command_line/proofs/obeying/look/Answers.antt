use Rattle.std.proofs.Common.{None}
use Rattle.store_console.specs.Printed.{IsShown}
use Rattle.command_line.proofs.Endings.{file_ends}
use Rattle.command_line.proofs.obeying.look.Goals as goal

pub returns : goal.returns
returns g c = file_ends (IsShown c.args.shown) None _ _ c.inspect-ending.result c.tell.result c.inspect-ending.ensures.prints
    c.tell.ensures
