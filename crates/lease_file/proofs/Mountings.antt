-- What a mounting reads of a disk, and what it leaves.
use Rattle.std.proofs.Common.{◌≡◌, ◌+◌, ◌≤◌, ◌⊎◌, inl, inr, ⊎_elim, ℕ, List, false, Option, Some, None, Err, IsErrOf, sym, ◌∙◌, ap, subst}
use Rattle.std.proofs.Common.{refl, arith, IsTrue, IsFalse}
use Rattle.sector_disk.specs.Disk.{Image, DiskState, AllSynced, nothing}
use Rattle.sector_disk.specs.Run.{Run}
use Rattle.slot_gate.specs.Slot.{slot_at}
use Rattle.slot_gate.proofs.PublicLaws.{slot_same, slot_kept}
use Rattle.safe_cell.specs.Answered.{OnlyReads}
use Rattle.safe_cell.specs.Cell.{cell_of, cell_at, IsDamaged}
use Rattle.safe_cell.specs.Mounted.{CellState, IsCellAt, AllStand}
use Rattle.safe_cell.proofs.PublicLaws.{reads_on, value_stands_same}
use Rattle.safe_cell.specs.declared.fault.CellFault.{CellFault}
use Rattle.safe_cell.specs.Mounting.{AnswersFor, IsMountFault}
use Rattle.lease_file.specs.declared.fault.LeaseFault.{LeaseFault}
use Rattle.lease_file.specs.Kept.{IsLeaseFile, kept_by}
use Rattle.lease_file.specs.Mounting.{IsCellFault, IsRefusedFor}

-- two calls that read, of which none failed
pub read_both : {old mid new : DiskState} {first last : Type 0} → (first → ⊥) → (last → ⊥) → OnlyReads old mid first
    → OnlyReads mid new last → OnlyReads old new ⊥
read_both {old = old} {mid = mid} {new = new} {first = first} {last = last} went done =
    reads_on old mid new first last ⊥ went done (λ no. absurd no)

-- a cell reads the same where nothing was written
pub cell_kept : (at : ℕ) {old new : DiskState} → Run nothing old new → cell_at new.contents at ≡ cell_at old.contents at
cell_kept at {old = old} {new = new} run = λ i. cell_of (slot_kept old new at run i) (slot_kept old new (at + 2) run i)

pub fault_kept : (at : ℕ) (fault : LeaseFault) {old new : DiskState} → Run nothing old new → IsCellFault new.contents at fault
    → IsCellFault old.contents at fault
fault_kept at LeaseFault.Device run is = is
fault_kept at LeaseFault.Broken run is = is
fault_kept at LeaseFault.Exhausted run is = is
fault_kept at LeaseFault.NotFormatted {old = old} {new = new} run is =
    (sym (slot_kept old new at run) ∙ is.0, sym (slot_kept old new (at + 2) run) ∙ is.1)
fault_kept at (LeaseFault.Damaged sector) {old = old} {new = new} run is =
    let first : slot_at new.contents at ≡ slot_at old.contents at = slot_kept old new at run in
    let second : slot_at new.contents (at + 2) ≡ slot_at old.contents (at + 2) = slot_kept old new (at + 2) run in
    ⊎_elim
    (λ a. inl (a.0, subst (λ s. IsDamaged s) first a.1))
    (λ b. inr (b.0, (λ no. b.1 (subst (λ s. IsDamaged s) (sym first) no)), subst (λ s. IsDamaged s) second b.2))
    is

-- where nothing was written a cell that all images have stays so
pub stands_on : {at : ℕ} {cell : CellState} {old new : DiskState} → IsCellAt at cell → Run nothing old new → AllStand cell old
    → AllStand cell new
stands_on {cell = cell} {old = old} {new = new} way run all c image =
    let f = run.follows c (run.ends c image) in
    value_stands_same cell f.0 c
    (slot_same c f.0 cell.present (f.2.same (cell.present + 1) (λ no. no)) (f.2.same cell.present (λ no. no)))
    (slot_same c f.0 cell.spare (f.2.same (cell.spare + 1) (λ no. no)) (f.2.same cell.spare (λ no. no)))
    (all f.0 f.1)

-- a cell that isn't read has no value
no_value : (image : Image) (at : ℕ) (fault : LeaseFault) → IsCellFault image at fault → cell_at image at ≡ None
no_value image at LeaseFault.Device is = absurd is
no_value image at LeaseFault.Broken is = absurd is
no_value image at LeaseFault.Exhausted is = absurd is
no_value image at LeaseFault.NotFormatted is = λ i. cell_of (is.0 i) (is.1 i)
no_value image at (LeaseFault.Damaged sector) is =
    ⊎_elim (λ a. first_damaged (slot_at image at) (slot_at image (at + 2)) a.1)
    (λ b. second_damaged (slot_at image at) (slot_at image (at + 2)) b.2) is
  where
    first_damaged : (first second : Option (List ℕ)) → IsDamaged first → cell_of first second ≡ None
    first_damaged None second bad = cc
    first_damaged (Some a) None bad = cc
    first_damaged (Some a) (Some b) bad = grind arith

    second_damaged : (first second : Option (List ℕ)) → IsDamaged second → cell_of first second ≡ None
    second_damaged first None bad = cc
    second_damaged None (Some b) bad = cc
    second_damaged (Some a) (Some b) bad = grind arith

pub refused_first : (image : Image) (fault : LeaseFault) → IsCellFault image 0 fault → IsRefusedFor image fault
refused_first image fault is = record { nothing = ap (λ v. kept_by v (cell_at image 4)) (no_value image 0 fault is); first = inl is }

pub refused_second : (image : Image) (fault : LeaseFault) (count : ℕ) → cell_at image 0 ≡ Some count → IsCellFault image 4 fault
    → IsRefusedFor image fault
refused_second image fault count has is = record {
  nothing = ap (λ v. kept_by v (cell_at image 4)) has ∙ ap (λ v. kept_by (Some count) v) (no_value image 4 fault is);
  first = inr (count, has, is);
}

not_device : (sector : ℕ) → IsErrOf {T = CellState} {E = CellFault} (Err (CellFault.Damaged sector)) CellFault.Device → ⊥
not_device sector is = cc

damaged_at : (at sector : ℕ) (image : Image) → (sector ≡ at) ⊎ (sector ≡ at + 2) → AnswersFor at image (Err (CellFault.Damaged sector))
    → IsCellFault image at (LeaseFault.Damaged sector)
damaged_at at sector image place answers = ⊎_elim
    (λ e. subst (λ s. AnswersFor at image (Err (CellFault.Damaged s))
    → IsCellFault image at (LeaseFault.Damaged s)) (sym e) (λ a. inl (refl, a.damaged_first.0 refl)) answers)
    (λ e. subst (λ s. AnswersFor at image (Err (CellFault.Damaged s))
    → IsCellFault image at (LeaseFault.Damaged s)) (sym e) (λ a. let is = a.damaged_second.0 refl in inr (refl, is.0, is.1)) answers)
    place

-- what a cell's mounting answers of a body that isn't allowed
pub cell_damaged : (at : ℕ) (image : Image) (fault : CellFault) (sector : ℕ) → fault ≡ CellFault.Damaged sector → IsMountFault at fault
    → ((IsErrOf {T = CellState} {E = CellFault} (Err fault) CellFault.Device → ⊥) → AnswersFor at image (Err fault))
    → IsCellFault image at (LeaseFault.Damaged sector)
cell_damaged at image fault sector is which answered =
    let answers = subst (λ (f : CellFault). (IsErrOf {T = CellState} {E = CellFault} (Err f) CellFault.Device → ⊥)
    → AnswersFor at image (Err f)) is answered in
    let place = subst (λ (f : CellFault). IsMountFault at f) is which in
    damaged_at at sector image place (answers (not_device sector))

-- and where no slot is sealed
pub cell_unformatted : (at : ℕ) (image : Image) (fault : CellFault) → fault ≡ CellFault.NotFormatted
    → ((IsErrOf {T = CellState} {E = CellFault} (Err fault) CellFault.Device → ⊥) → AnswersFor at image (Err fault))
    → IsCellFault image at LeaseFault.NotFormatted
cell_unformatted at image fault is answered =
    let answers = subst (λ (f : CellFault). (IsErrOf {T = CellState} {E = CellFault} (Err f) CellFault.Device → ⊥)
    → AnswersFor at image (Err f)) is answered in
    (answers (λ no. cc)).not_formatted.0 refl

-- what is true of a file that was just mounted
pub mounted : (old new : DiskState) (count keeps : CellState)
    → IsCellAt 0 count × IsFalse count.broken × IsCellAt 4 keeps × IsFalse keeps.broken → 8 ≤ old.sectors → new.sectors ≡ old.sectors
    → new.honest ≡ old.honest → (IsTrue old.honest → AllStand count new × AllStand keeps new × AllSynced new)
    → IsLeaseFile new count keeps false
mounted old new count keeps place on_disk sectors honest stand = record {
  first = place.0;
  second = place.2;
  on_disk = omega (arith, on_disk, sectors);
  whole = λ _. (place.1, place.3);
  counts = λ h _. (stand (subst (λ b. IsTrue b) honest h)).0;
  times = λ h _. (stand (subst (λ b. IsTrue b) honest h)).1;
  synced = λ h _. (stand (subst (λ b. IsTrue b) honest h)).2;
}
