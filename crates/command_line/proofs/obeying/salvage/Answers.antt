use Rattle.std.proofs.Common.{None}
use Rattle.store_console.specs.Salvaged.{IsSalvagePrintout}
use Rattle.command_line.proofs.Endings.{file_ends}
use Rattle.command_line.proofs.obeying.salvage.Goals as goal

pub returns : goal.returns
returns g c = file_ends IsSalvagePrintout None _ _ c.salvage-ended.result.ending c.tell.result c.salvage-ended.ensures.prints
    c.tell.ensures
