-- When a raise is refused.
use Rattle.std.specs.Prelude.{◌-◌, ◌^◌, ◌==◌, Option, Some, None, if◌then◌else◌}
use Rattle.safe_cell.specs.declared.fault.CellFault.{CellFault}
use Rattle.safe_cell.specs.declared.fault.CellFault.TheVariants.{Broken, Exhausted}
use Rattle.safe_cell.specs.Mounted.{CellState}

-- why a raise is refused before the device is called: of both reasons the first
abbrev pub raise_refusal : CellState → Option CellFault
raise_refusal cell = if cell.broken then Some Broken else (if cell.value == 2 ^ 64 - 1 then Some Exhausted else None)

-- why a raise to a greater value is refused before the device is called
abbrev pub broken_refusal : CellState → Option CellFault
broken_refusal cell = if cell.broken then Some Broken else None
