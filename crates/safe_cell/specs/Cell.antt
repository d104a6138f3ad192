-- A cell is two slots, A at its first sector and B two sectors on. Its value is the greater of those that its sealed
-- slots have.
use Rattle.std.specs.Prelude.{◌≡◌, ◌⊎◌, ℕ, ◌+◌, max, List, Option, Some, None}
use Rattle.sector_disk.specs.Disk.{Image, DiskState, IsImage}
use Rattle.slot_gate.specs.Slot.{slot_at, InSlot}
use Rattle.safe_cell.specs.Body.{body_value}

-- the greater of two values, if both slots have one
abbrev pub greater : Option ℕ → Option ℕ → Option ℕ
greater (Some v) (Some w) = Some (max v w)
greater (Some v) None = None
greater None w = None

-- the value of a cell with these slots: none where neither is sealed, or a sealed body is none of a cell
abbrev pub cell_of : Option (List ℕ) → Option (List ℕ) → Option ℕ
cell_of (Some a) (Some b) = greater (body_value a) (body_value b)
cell_of (Some a) None = body_value a
cell_of None (Some b) = body_value b
cell_of None None = None

-- the value that an image has in the cell at a sector, if it stands for one
abbrev pub cell_at : Image → ℕ → Option ℕ
cell_at image at = cell_of (slot_at image at) (slot_at image (at + 2))

-- each image that a crash now may leave has this value
abbrev pub AllHave : ℕ → ℕ → DiskState → Type 0
AllHave at value disk = (c : Image) → IsImage disk c → cell_at c at ≡ Some value

-- the four sectors of a cell
abbrev pub InCell : ℕ → ℕ → Type 0
InCell at k = InSlot at k ⊎ InSlot (at + 2) k

-- a sealed slot whose body is none of a cell
abbrev pub IsDamaged : Option (List ℕ) → Type 0
IsDamaged slot = (body : List ℕ) × (slot ≡ Some body) × (body_value body ≡ None)
