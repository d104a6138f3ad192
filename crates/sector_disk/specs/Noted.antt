-- The notes of a disk in memory as its contracts see them.
use Rattle.std.specs.Prelude.{List}
use Rattle.sector_disk.specs.declared.overwritten.Overwritten.{Overwritten}

pub record Noted : Type 0 where
  -- of the times that are over, the first of them first
  pub times : List (List Overwritten)
  -- of the time since then
  pub since : List Overwritten
