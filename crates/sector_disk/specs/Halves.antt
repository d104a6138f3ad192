-- The sectors of a disk in memory seen from their fields.
use Rattle.std.specs.Prelude.{◌≡◌, ◌+◌, ◌++◌, length}
use Rattle.sector_disk.specs.Disk.{Image}
use Rattle.sector_disk.specs.declared.sectors.Sectors.TheInside.{Inside}

-- the lower half, and the upper one after it
abbrev pub sectors_of : Inside → Image
sectors_of sectors = sectors.low ++ sectors.high

abbrev pub IsCounted : Inside → Type 0
IsCounted sectors = length sectors.low + length sectors.high ≡ sectors.count
