-- What a file of leases keeps, in two cells, and what a program that has mounted it knows.
use Rattle.std.specs.Prelude.{◌≡◌, ◌<◌, ◌≤◌, ℕ, Bool, false, IsTrue, IsFalse, Option, Some, None}
use Rattle.sector_disk.specs.Disk.{Image, DiskState, IsImage, AllSynced}
use Rattle.slot_gate.specs.Stored.{Knows}
use Rattle.safe_cell.specs.Cell.{cell_at}
use Rattle.safe_cell.specs.Mounted.{CellState, IsCellAt, AllStand}

-- how many blocks of epochs were taken, and the greatest time for which a process kept grants
pub record Kept : Type 0 where
  pub count : ℕ
  pub keeps : ℕ

abbrev pub kept : ℕ → ℕ → Kept
kept count keeps = record { count = count; keeps = keeps }

abbrev pub kept_by : Option ℕ → Option ℕ → Option Kept
kept_by None keeps = None
kept_by (Some count) None = None
kept_by (Some count) (Some keeps) = Some (kept count keeps)

-- what an image keeps: nothing, where a cell has no value
abbrev pub kept_in : Image → Option Kept
kept_in image = kept_by (cell_at image 0) (cell_at image 4)

-- nothing is unsynced, and each image that a crash now may leave keeps this
pub record Lasts (kept : Kept) (disk : DiskState) : Type 0 where
  pub synced : AllSynced disk
  pub has : (image : Image) → IsImage disk image → kept_in image ≡ Some kept

-- no slot of either cell is sealed, in any image
pub record HasNone (disk : DiskState) : Type 0 where
  pub first : Knows disk 0 false
  pub second : Knows disk 2 false
  pub third : Knows disk 4 false
  pub fourth : Knows disk 6 false

-- the sectors of the file
abbrev pub InFile : ℕ → Type 0
InFile at = at < 8

-- what a program that has mounted it knows
pub record FileState (Disk : Type 0) : Type 0 where
  pub disk : Disk
  pub count : CellState
  pub keeps : CellState
  -- the device failed in a call
  pub broken : Bool

abbrev pub kept_of : {Disk : Type 0} → FileState Disk → Kept
kept_of file = kept file.count.value file.keeps.value

-- what is true of every mounted file
pub record IsLeaseFile (disk : DiskState) (count keeps : CellState) (broken : Bool) : Type 0 where
  pub first : IsCellAt 0 count
  pub second : IsCellAt 4 keeps
  pub on_disk : 8 ≤ disk.sectors
  -- until the device fails
  pub whole : IsFalse broken → (IsFalse count.broken) × (IsFalse keeps.broken)
  pub counts : IsTrue disk.honest → IsFalse broken → AllStand count disk
  pub times : IsTrue disk.honest → IsFalse broken → AllStand keeps disk
  pub synced : IsTrue disk.honest → IsFalse broken → AllSynced disk
