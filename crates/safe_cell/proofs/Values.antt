-- The value of a cell from those of its slots.
use Rattle.std.proofs.Common.{◌≡◌, ◌+◌, max, ◌⊎◌, inl, inr, ⊎_elim, ℕ, List, Bool, true, false, Option, Some, is_some, ◌∙◌, ap, arith, refl}
use Rattle.sector_disk.specs.Disk.{Image, DiskState, nothing}
use Rattle.sector_disk.specs.Run.{Run}
use Rattle.slot_gate.specs.Slot.{slot_at, InSlot}
use Rattle.slot_gate.proofs.PublicLaws.{slot_same, slot_synced}
use Rattle.safe_cell.specs.Body.{body_value}
use Rattle.safe_cell.specs.Cell.{cell_of, cell_at, AllHave, InCell}
use Rattle.safe_cell.specs.Mounted.{CellState, IsCellAt, IsSpare, Stands, AllStand}

-- the gate of the spare slot is known
pub spare_known : (sealed : Bool) (v : ℕ) (slot : Option (List ℕ)) → IsSpare sealed v slot → is_some slot ≡ sealed
spare_known true v slot h = ap is_some h.2
spare_known false v slot h = ap is_some h

-- a slot with the value v, and one that is unsealed or has at most v, in either order
one_way : (v : ℕ) (sealed : Bool) (present spare : Option (List ℕ)) (body : List ℕ) → present ≡ Some body → body_value body ≡ Some v
    → IsSpare sealed v spare
    → (cell_of present spare ≡ Some v) × (cell_of spare present ≡ Some v)
one_way v false present spare body is value none = (cc, cc)
one_way v true present spare body is value h =
    let left : max v h.1 ≡ v = omega (arith, h.4) in
    let right : max h.1 v ≡ v = omega (arith, h.4) in
    (cc, cc)

-- what an image stands for that has what the cell knows
pub stands_for : (at : ℕ) (cell : CellState) (c : Image) → IsCellAt at cell → Stands cell c → cell_at c at ≡ Some cell.value
stands_for at cell c way h =
    let both = one_way cell.value cell.spare_sealed (slot_at c cell.present) (slot_at c cell.spare) h.body h.present h.value h.spare in
    ⊎_elim (λ w. cc) (λ w. cc) way

pub all_have : (at : ℕ) (cell : CellState) (disk : DiskState) → IsCellAt at cell → AllStand cell disk → AllHave at cell.value disk
all_have at cell disk way all c image = stands_for at cell c way (all c image)

-- the same slots have the same value and gates
pub stands_same : (cell : CellState) (c d : Image) → slot_at d cell.present ≡ slot_at c cell.present
    → slot_at d cell.spare ≡ slot_at c cell.spare → Stands cell c → Stands cell d
stands_same cell c d present spare h = record { body = h.body; present = present ∙ h.present; value = h.value; spare = rw spare h.spare }

in_cell : (at : ℕ) (cell : CellState) → IsCellAt at cell → (k : ℕ) → InSlot cell.present k ⊎ InSlot cell.spare k → InCell at k
in_cell at cell way k slot = grind arith

-- once its sectors are synced, what holds of the disk as it reads holds of each image, also after reads
pub all_stand : (at : ℕ) (cell : CellState) (old new : DiskState) → IsCellAt at cell → ((k : ℕ) → InCell at k → old.synced k)
    → Run nothing old new
    → Stands cell old.contents → AllStand cell new
all_stand at cell old new way synced run h d image =
    let f = run.follows d (run.ends d image) in
    let as_it_reads : (slot : ℕ) → ((k : ℕ) → InSlot slot k → InSlot cell.present k ⊎ InSlot cell.spare k)
    → (slot_at d slot ≡ slot_at old.contents slot) =
    λ slot of. slot_same d f.0 slot (f.2.same (slot + 1) (λ no. no)) (f.2.same slot (λ no. no))
    ∙ slot_synced old slot f.0 (synced slot (in_cell at cell way slot (of slot (inl refl))))
    (synced (slot + 1) (in_cell at cell way (slot + 1) (of (slot + 1) (inr refl)))) f.1 in
    stands_same cell old.contents d (as_it_reads cell.present (λ k is. inl is)) (as_it_reads cell.spare (λ k is. inr is)) h
