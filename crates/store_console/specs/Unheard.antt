-- A number that may have been given though the counter doesn't count it.
use Rattle.std.specs.Prelude.{◌≡◌, ◌||◌, Bool, is_some, IsTrue}
use Rattle.sector_disk.specs.Disk.{DiskState, Image}
use Rattle.store_console.specs.Findings.{unsealed_at, unsealed_finding}
use Rattle.store_console.specs.Held.{counter_of}

-- a slot of the counter that isn't sealed has the number that comes next: `inspect --verify` gives a hint of it
abbrev pub has_unsealed_number : Image → Bool
has_unsealed_number image =
    is_some (unsealed_finding (counter_of image) (unsealed_at image 0))
    || is_some (unsealed_finding (counter_of image) (unsealed_at image 2))

-- a disk that was read holds what it held
pub record IsRead (old new : DiskState) : Type 0 where
  pub sectors : new.sectors ≡ old.sectors
  pub honest : new.honest ≡ old.honest
  pub contents : IsTrue old.honest → new.contents ≡ old.contents
