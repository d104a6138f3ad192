-- Sectors of which the first ones are kept, seen from their fields.
use Rattle.std.specs.Prelude.{◌≡◌, ◌≤◌, ◌-◌, ◌++◌, length, replicate, vec_capacity}
use Rattle.sector_disk.specs.Disk.{Image}
use Rattle.sector_disk.specs.Shorts.{AreShort}
use Rattle.sector_disk.specs.declared.front.Front.TheInside.{Inside}

-- the sectors that are kept, and zeros after them
abbrev pub front_of : Inside → Image
front_of sectors = sectors.kept.items ++ replicate (sectors.count - length sectors.kept.items) (replicate 512 0)

-- no more are kept than there are, all of them find room without new memory, and those that are said to be short are
abbrev pub HasRoom : Inside → Type 0
HasRoom sectors = (length sectors.kept.items ≤ sectors.count) × (sectors.count ≤ vec_capacity sectors.kept)
    × (length sectors.short.items ≡ sectors.count) × AreShort sectors.kept.items sectors.short.items
