-- What a crash with a given fill leaves.
use Rattle.std.specs.Prelude.{◌≡◌, ℕ, ◌*◌, ◌<◌, List, ◌++◌, length, get_or, take, drop, count_by, Bool, false, if◌then◌else◌, IsTrue}
use Rattle.std.specs.Prelude.{IsFalse}
use Rattle.sector_disk.specs.Disk.{Image, sector_at}
use Rattle.sector_disk.specs.Memory.{Memory, is_unsynced}

-- a sector with the first 512 bytes of a fill, or all that there are, over its start
abbrev pub filled : List ℕ → List ℕ → List ℕ
filled fill sector = take 512 fill ++ drop (length (take 512 fill)) sector

-- the bytes of a fill that are left for a sector and those after it: each unsynced sector before it took 512
abbrev pub fill_at : List Bool → ℕ → List ℕ → List ℕ
fill_at unsynced at fill = drop (512 * count_by (λ u. u) (take at unsynced)) fill

-- an unsynced sector takes its bytes of the fill, and another one stays
abbrev pub torn_at : List Bool → List ℕ → ℕ → List ℕ → List ℕ
torn_at unsynced fill at sector = if get_or unsynced at false then filled (fill_at unsynced at fill) sector else sector

-- The unsynced sectors in rising order take the bytes of the fill, over what the last sync left; the others hold what they held.
pub record IsCrashed (m : Memory) (fill : List ℕ) (image : Image) : Type 0 where
  pub size : length image ≡ length m.contents
  pub unsynced : (at : ℕ) → at < length m.contents → IsTrue (is_unsynced m at)
      → sector_at image at ≡ filled (fill_at m.unsynced at fill) (sector_at m.synced at)
  pub synced : (at : ℕ) → IsFalse (is_unsynced m at) → sector_at image at ≡ sector_at m.contents at
