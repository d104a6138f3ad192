-- What a raise leaves, in each image.
use Rattle.std.proofs.Common.{◌≡◌, ◌+◌, ◌<◌, ◌^◌, ◌⊎◌, inl, inr, ⊎_elim, ℕ, List, Bool, false, Some, ◌∙◌, ap, arith}
use Rattle.sector_disk.specs.Disk.{Image, DiskState, SameBut, AllSynced}
use Rattle.sector_disk.specs.Run.{Run, Each}
use Rattle.slot_gate.specs.Slot.{slot_at, InSlot}
use Rattle.slot_gate.specs.Stored.{IsStored, Follows, Knows}
use Rattle.slot_gate.proofs.PublicLaws.{slot_same, slot_synced}
use Rattle.safe_cell.specs.Body.{body_of}
use Rattle.safe_cell.specs.Cell.{cell_at, AllHave}
use Rattle.safe_cell.specs.Mounted.{CellState, IsCellAt, IsSpare, Stands, raised, raised_to, AllStand}
use Rattle.safe_cell.proofs.Bodies.{body_value-body_of}
use Rattle.safe_cell.proofs.Values.{spare_known, stands_for, all_have}

-- a raise leaves the cell where it is
pub raised_way : (at : ℕ) (cell : CellState) → IsCellAt at cell → IsCellAt at (raised cell)
raised_way at cell way = ⊎_elim (λ w. inr (w.1, w.0)) (λ w. inl (w.1, w.0)) way

pub raised_to_way : (at value : ℕ) (cell : CellState) → IsCellAt at cell → IsCellAt at (raised_to value cell)
raised_to_way at value cell way = ⊎_elim (λ w. inr (w.1, w.0)) (λ w. inl (w.1, w.0)) way

present_same : (at : ℕ) (cell : CellState) (d c : Image) → IsCellAt at cell → SameBut (InSlot cell.spare) d c
    → slot_at c cell.present ≡ slot_at d cell.present
present_same at cell d c way same = slot_same c d cell.present (same.same (cell.present + 1) (omega arith))
    (same.same cell.present (omega arith))

-- with a greater value sealed in the spare slot
stands_raised : (at value : ℕ) (cell : CellState) (d c : Image) → IsCellAt at cell → cell.value < value → value < 2 ^ 64 → Stands cell d
    → SameBut (InSlot cell.spare) d c → slot_at c cell.spare ≡ Some (body_of value) → Stands (raised_to value cell) c
stands_raised at value cell d c way above fits h same sealed = record {
  body = body_of value;
  present = sealed;
  value = body_value-body_of value fits;
  spare = (h.body, cell.value, present_same at cell d c way same ∙ h.present, h.value, omega arith);
}

-- in each image while a greater value is put into the spare slot, the value is as it was or that one
pub raise_images : (at value : ℕ) (cell : CellState) (old new : DiskState) (body : List ℕ) → body ≡ body_of value → cell.value < value
    → value < 2 ^ 64
    → IsCellAt at cell → AllStand cell old
    → (Knows old cell.spare cell.spare_sealed → Each old new (Follows (InSlot cell.spare) old cell.spare (IsStored body)))
    → Each old new (λ c. (cell_at c at ≡ Some cell.value) ⊎ (cell_at c at ≡ Some value))
raise_images at value cell old new body is above fits way all images c since =
    let f = images (λ d image. spare_known cell.spare_sealed cell.value (slot_at d cell.spare) (all d image).spare) c since in
    let h = all f.from f.image in
    let as_was : (s : Bool) → IsSpare s cell.value (slot_at c cell.spare) → (cell_at c at ≡ Some cell.value) =
    λ s spare. stands_for at (record cell { spare_sealed = s }) c way (record {
      body = h.body;
      present =
          present_same at cell f.from c way f.same ∙ h.present;
      value = h.value;
      spare = spare;
    }) in
    ⊎_elim
    (λ same. inl (as_was cell.spare_sealed (rw same h.spare)))
    (⊎_elim
    (λ none. inl (as_was false none))
    (λ some. inr (stands_for at (raised_to value cell) c (raised_to_way at value cell way)
    (stands_raised at value cell f.from c way above fits h f.same (some ∙ ap (λ b. Some b) is)))))
    f.step

-- once all of it is synced
pub raise_after : (at value : ℕ) (cell : CellState) (old new : DiskState) (body : List ℕ) → body ≡ body_of value → cell.value < value
    → value < 2 ^ 64
    → IsCellAt at cell → AllStand cell old → Run (InSlot cell.spare) old new → AllSynced new → slot_at new.contents cell.spare ≡ Some body
    → AllHave at value new × AllStand (raised_to value cell) new
raise_after at value cell old new body is above fits way all run synced sealed =
    let stands : AllStand (raised_to value cell) new = λ c image.
    let f = run.follows c (run.ends c image) in
    stands_raised at value cell f.0 c way above fits (all f.0 f.1) f.2
    (slot_synced new cell.spare c (synced cell.spare) (synced (cell.spare + 1)) image ∙ sealed ∙ ap (λ b. Some b) is) in
    (all_have at (raised_to value cell) new (raised_to_way at value cell way) stands, stands)
