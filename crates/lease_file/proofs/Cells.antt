-- The two cells of a file don't touch each other's sectors.
use Rattle.std.proofs.Common.{◌≡◌, ◌+◌, ◌≤◌, ◌⊎◌, inl, inr, ⊎_elim, ℕ, Some, Bool, sym, ◌∙◌, ap, subst, arith, IsTrue, IsFalse}
use Rattle.sector_disk.specs.Disk.{Image, DiskState, SameBut, Counts, AllSynced}
use Rattle.sector_disk.specs.Run.{Run, Each}
use Rattle.sector_disk.proofs.PublicLaws.{run_widen}
use Rattle.slot_gate.specs.Slot.{InSlot}
use Rattle.slot_gate.proofs.PublicLaws.{slot_same}
use Rattle.safe_cell.specs.Cell.{cell_at}
use Rattle.safe_cell.specs.Mounted.{CellState, IsCellAt, Stands, AllStand, raised_to}
use Rattle.safe_cell.proofs.PublicLaws.{raised_to_way, value_stands_for, value_stands_same}
use Rattle.lease_file.specs.Calls.{IsOneOf}
use Rattle.lease_file.specs.Kept.{InFile, IsLeaseFile, Lasts, kept, kept_by, kept_in}

-- what two values are together
pub both : (c : Image) (count keeps : ℕ) → cell_at c 0 ≡ Some count → cell_at c 4 ≡ Some keeps → kept_in c ≡ Some (kept count keeps)
both c count keeps first second = ap (λ v. kept_by v (cell_at c 4)) first ∙ ap (λ v. kept_by (Some count) v) second

pub both_stand : (count keeps : CellState) (c : Image) → IsCellAt 0 count → IsCellAt 4 keeps → Stands count c → Stands keeps c
    → kept_in c ≡ Some (kept count.value keeps.value)
both_stand count keeps c first second has time = both c count.value keeps.value (value_stands_for 0 count c first has)
    (value_stands_for 4 keeps c second time)

-- a cell that another one's spare slot is apart from
apart : (at other : ℕ) (cell moved : CellState) (d c : Image) → IsCellAt at cell → IsCellAt other moved
    → (at + 4 ≤ other) ⊎ (other + 4 ≤ at) → SameBut (InSlot moved.spare) d c → Stands cell d → Stands cell c
apart at other cell moved d c way there far same h =
    value_stands_same cell d c
    (slot_same c d cell.present (same.same (cell.present + 1) (omega arith)) (same.same cell.present (omega arith)))
    (slot_same c d cell.spare (same.same (cell.spare + 1) (omega arith)) (same.same cell.spare (omega arith)))
    h

-- it stands in each image while the other one is raised
stays : (at other : ℕ) (cell moved : CellState) (old new : DiskState) → IsCellAt at cell → IsCellAt other moved
    → (at + 4 ≤ other) ⊎ (other + 4 ≤ at)
    → AllStand cell old → Run (InSlot moved.spare) old new → Each old new (Stands cell)
stays at other cell moved old new way there far all run c since =
    let f = run.follows c since in
    apart at other cell moved f.0 c way there far f.2 (all f.0 f.1)

all_stay : (at other : ℕ) (cell moved : CellState) (old new : DiskState) → IsCellAt at cell → IsCellAt other moved
    → (at + 4 ≤ other) ⊎ (other + 4 ≤ at)
    → AllStand cell old → Run (InSlot moved.spare) old new → AllStand cell new
all_stay at other cell moved old new way there far all run c image =
    stays at other cell moved old new way there far all run c (run.ends c image)

-- while the count is raised
pub count_since : (count keeps : CellState) (value : ℕ) (old new : DiskState) → IsCellAt 0 count → IsCellAt 4 keeps → AllStand keeps old
    → Run (InSlot count.spare) old new
    → Each old new (λ c. (cell_at c 0 ≡ Some count.value) ⊎ (cell_at c 0 ≡ Some value))
    → IsOneOf (kept count.value keeps.value) (kept value keeps.value) old new
count_since count keeps value old new first second all run images c since =
    let time = value_stands_for 4 keeps c second (stays 4 0 keeps count old new second first (inr (omega arith)) all run c since) in
    ⊎_elim (λ was. inl (both c count.value keeps.value was time)) (λ now. inr (both c value keeps.value now time)) (images c since)

-- while the time is
pub time_since : (count keeps : CellState) (value : ℕ) (old new : DiskState) → IsCellAt 0 count → IsCellAt 4 keeps → AllStand count old
    → Run (InSlot keeps.spare) old new
    → Each old new (λ c. (cell_at c 4 ≡ Some keeps.value) ⊎ (cell_at c 4 ≡ Some value))
    → IsOneOf (kept count.value keeps.value) (kept count.value value) old new
time_since count keeps value old new first second all run images c since =
    let has = value_stands_for 0 count c first (stays 0 4 count keeps old new first second (inl (omega arith)) all run c since) in
    ⊎_elim (λ was. inl (both c count.value keeps.value has was)) (λ now. inr (both c count.value value has now)) (images c since)

-- the spare slot of a cell of the file
pub in_file : (at : ℕ) (cell : CellState) (old new : DiskState) → IsCellAt at cell → at ≤ 4 → Run (InSlot cell.spare) old new
    → Run InFile old new
in_file at cell old new way low run = run_widen (InSlot cell.spare) InFile old new (λ k touched. omega (arith, way, touched, low)) run

-- a raised cell lies where it lay
lies : (at value : ℕ) (was now : CellState) → IsCellAt at was → now ≡ raised_to value was → IsCellAt at now
lies at value was now way is = subst (λ (w : CellState). IsCellAt at w) (sym is) (raised_to_way at value was way)

-- the file after its count was raised
pub count_raised : {old new : DiskState} {was now keeps : CellState} {broken : Bool} {failed done : Type 0} (value : ℕ)
    → IsLeaseFile old was keeps broken → Counts old new failed done
    → now ≡ raised_to value was → (IsTrue old.honest → Run (InSlot was.spare) old new)
    → (IsTrue old.honest → AllStand was old → AllStand now new) → (IsTrue old.honest → AllSynced new)
    → IsLeaseFile new now keeps broken
count_raised {old = old} {new = new} {was = was} {now = now} {keeps = keeps} value is counts made run stands synced = record {
  first = lies 0 value was now is.first made;
  second = is.second;
  on_disk = omega (arith, is.on_disk, counts.sectors);
  whole = λ ok. (ap (λ (k : CellState). k.broken) made, (is.whole ok).1);
  counts = λ h ok. (let before = subst (λ b. IsTrue b) counts.honest h in stands before (is.counts before ok));
  times = λ h ok. (let before = subst (λ b. IsTrue b) counts.honest h in
      all_stay 4 0 keeps was old new is.second is.first (inr (omega arith)) (is.times before ok) (run before));
  synced = λ h ok. synced (subst (λ b. IsTrue b) counts.honest h);
}

-- the file after its time was
pub time_raised : {old new : DiskState} {count was now : CellState} {broken : Bool} {failed done : Type 0} (value : ℕ)
    → IsLeaseFile old count was broken → Counts old new failed done
    → now ≡ raised_to value was → (IsTrue old.honest → Run (InSlot was.spare) old new)
    → (IsTrue old.honest → AllStand was old → AllStand now new) → (IsTrue old.honest → AllSynced new)
    → IsLeaseFile new count now broken
time_raised {old = old} {new = new} {count = count} {was = was} {now = now} value is counts made run stands synced = record {
  first = is.first;
  second = lies 4 value was now is.second made;
  on_disk = omega (arith, is.on_disk, counts.sectors);
  whole = λ ok. ((is.whole ok).0, ap (λ (k : CellState). k.broken) made);
  counts = λ h ok. (let before = subst (λ b. IsTrue b) counts.honest h in
      all_stay 0 4 count was old new is.first is.second (inl (omega arith)) (is.counts before ok) (run before));
  times = λ h ok. (let before = subst (λ b. IsTrue b) counts.honest h in stands before (is.times before ok));
  synced = λ h ok. synced (subst (λ b. IsTrue b) counts.honest h);
}

-- what each image of a whole file keeps
pub lasts : {disk : DiskState} {count keeps : CellState} {broken : Bool} → IsLeaseFile disk count keeps broken → IsTrue disk.honest
    → IsFalse broken → Lasts (kept count.value keeps.value) disk
lasts {count = count} {keeps = keeps} is honest whole = record {
  synced = is.synced honest whole;
  has = λ image now. both_stand count keeps image is.first is.second (is.counts honest whole image now) (is.times honest whole image now);
}
