-- A store that is begun on a disk without a counter.
use Rattle.std.specs.Prelude.{◌≡◌, ◌⊎◌, ℕ, false, Some, None}
use Rattle.sector_disk.specs.Disk.{Image, DiskState}
use Rattle.slot_gate.specs.Stored.{Knows}
use Rattle.job_model.specs.Durable.{Durable}
use Rattle.node_store.specs.Store.{stands_for}

-- in no image is a slot of the counter sealed
abbrev pub HasNoCounter : DiskState → Type 0
HasNoCounter disk = Knows disk 0 false × Knows disk 2 false

-- an image stands for nothing, or for this state
abbrev pub NothingOr : ℕ → Durable → Image → Type 0
NothingOr slots state image = (stands_for slots image ≡ None) ⊎ (stands_for slots image ≡ Some state)
