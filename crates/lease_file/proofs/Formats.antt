-- What the images of a disk keep on which a file is made.
use Rattle.std.proofs.Common.{◌≡◌, ◌+◌, ◌≤◌, ◌⊎◌, inl, inr, ⊎_elim, ℕ, List, Option, Some, None, false, is_some, ◌∙◌, ap, arith}
use Rattle.sector_disk.specs.Disk.{DiskState, AllSynced}
use Rattle.sector_disk.specs.Run.{Run, Each}
use Rattle.sector_disk.proofs.PublicLaws.{each_of_two, run_of_two, run_widen}
use Rattle.slot_gate.specs.Slot.{slot_at, InSlot}
use Rattle.slot_gate.specs.Stored.{Knows}
use Rattle.slot_gate.proofs.PublicLaws.{slot_same}
use Rattle.safe_cell.specs.Cell.{cell_at, cell_of, AllHave}
use Rattle.lease_file.specs.Kept.{HasNone, InFile, Lasts, kept, kept_by, kept_in}
use Rattle.lease_file.proofs.Cells.{both}

unsealed : (slot : Option (List ℕ)) → is_some slot ≡ false → slot ≡ None
unsealed None is = cc
unsealed (Some body) is = absurd cc

-- a slot that no image has sealed, while another one is written
none_since : (slot k : ℕ) (old new : DiskState) → Knows old slot false → Run (InSlot k) old new → (slot + 2 ≤ k) ⊎ (k + 2 ≤ slot)
    → Each old new (λ c. slot_at c slot ≡ None)
none_since slot k old new none run far c since =
    let f = run.follows c since in
    slot_same c f.0 slot (f.2.same (slot + 1) (omega arith)) (f.2.same slot (omega arith)) ∙ unsealed (slot_at f.0 slot) (none f.0 f.1)

pub still_none : (slot k : ℕ) (old new : DiskState) → Knows old slot false → Run (InSlot k) old new → (slot + 2 ≤ k) ⊎ (k + 2 ≤ slot)
    → Knows new slot false
still_none slot k old new none run far c image = ap is_some (none_since slot k old new none run far c (run.ends c image))

-- a cell of which all images have the value, while a slot of another one is written
cell_since : (at k value : ℕ) (old new : DiskState) → AllHave at value old → Run (InSlot k) old new → (at + 4 ≤ k) ⊎ (k + 2 ≤ at)
    → Each old new (λ c. cell_at c at ≡ Some value)
cell_since at k value old new has run far c since =
    let f = run.follows c since in
    let first : slot_at c at ≡ slot_at f.0 at = slot_same c f.0 at (f.2.same (at + 1) (omega arith)) (f.2.same at (omega arith)) in
    let second : slot_at c (at + 2) ≡ slot_at f.0 (at + 2) =
    slot_same c f.0 (at + 2) (f.2.same (at + 2 + 1) (omega arith)) (f.2.same (at + 2) (omega arith)) in
    (λ i. cell_of (first i) (second i)) ∙ has f.0 f.1

-- while the time is written
pub time_made : (first : ℕ) (old mid : DiskState) → HasNone old → Run (InSlot 4) old mid
    → Each old mid (λ c. (kept_in c ≡ None) ⊎ (kept_in c ≡ Some (kept first 0)))
time_made first old mid none run c since =
    let a : slot_at c 0 ≡ None = none_since 0 4 old mid none.first run (inl (omega arith)) c since in
    let b : slot_at c 2 ≡ None = none_since 2 4 old mid none.second run (inl (omega arith)) c since in
    inl (ap (λ v. kept_by v (cell_at c 4)) (λ i. cell_of (a i) (b i)))

-- and then the count
pub all_made : (first : ℕ) (old mid new : DiskState) → HasNone old → Run (InSlot 4) old mid → AllHave 4 0 mid → Run (InSlot 0) mid new
    → Each mid new (λ c. (cell_at c 0 ≡ None) ⊎ (cell_at c 0 ≡ Some first))
    → Each old new (λ c. (kept_in c ≡ None) ⊎ (kept_in c ≡ Some (kept first 0)))
all_made first old mid new none before has after images =
    each_of_two (InSlot 0) old mid new (λ c. (kept_in c ≡ None)
    ⊎ (kept_in c ≡ Some (kept first 0))) before.later after (time_made first old mid none before) (λ c since.
    let time = cell_since 4 0 0 mid new has after (inr (omega arith)) c since in
    ⊎_elim (λ no. inl (ap (λ v. kept_by v (cell_at c 4)) no)) (λ some. inr (both c first 0 some time)) (images c since))

pub made_lasts : (first : ℕ) (mid new : DiskState) → AllHave 4 0 mid → Run (InSlot 0) mid new → AllHave 0 first new → AllSynced new
    → Lasts (kept first 0) new
made_lasts first mid new has run value synced = record {
  synced = synced;
  has = λ image now. both image first 0 (value image now) (cell_since 4 0 0 mid new has run (inr (omega arith)) image (run.ends image now));
}

pub made_run : (old mid new : DiskState) → Run (InSlot 4) old mid → Run (InSlot 0) mid new → Run InFile old new
made_run old mid new before after = run_of_two InFile old mid new
    (run_widen (InSlot 4) InFile old mid (λ k touched. omega (arith, touched)) before)
    (run_widen (InSlot 0) InFile mid new (λ k touched. omega (arith, touched)) after)

pub time_run : (old mid : DiskState) → Run (InSlot 4) old mid → Run InFile old mid
time_run old mid before = run_widen (InSlot 4) InFile old mid (λ k touched. omega (arith, touched)) before
