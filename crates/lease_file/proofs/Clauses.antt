-- What the calls of a file leave, by what a raise of one of its cells does.
use Rattle.std.proofs.Common.{◌≡◌, ◌+◌, ◌<◌, ◌⊎◌, inl, inr, ⊎_elim, ℕ, max, Some, sym, ◌∙◌, ap, subst, arith, IsTrue, IsFalse}
use Rattle.std.proofs.Math.Nat.{max-eq_right}
use Rattle.sector_disk.specs.Disk.{DiskState, Counts, Laws}
use Rattle.sector_disk.specs.Run.{Run, Each}
use Rattle.sector_disk.proofs.PublicLaws.{each_of_two, run_of_two}
use Rattle.slot_gate.specs.Slot.{InSlot}
use Rattle.safe_cell.specs.Cell.{cell_at}
use Rattle.safe_cell.specs.Mounted.{IsCellAt, AllStand}
use Rattle.lease_file.specs.Calls.{IsOneOf, IsOneOfThree}
use Rattle.lease_file.specs.Kept.{FileState, InFile, IsLeaseFile, Kept, Lasts, kept, kept_in, kept_of}
use Rattle.lease_file.proofs.Cells.{count_since, time_since, in_file, lasts}

-- the disk that a call has left, each image of which keeps what was there or this
pub record Leaves {Disk : Type 0} (state : Disk → DiskState) (now : FileState Disk) (target : Kept) (new : DiskState) : Type 0 where
  pub honest : new.honest ≡ (state now.disk).honest
  pub run : IsTrue (state now.disk).honest → Run InFile (state now.disk) new
  pub images : IsTrue (state now.disk).honest → IsFalse now.broken → IsOneOf (kept_of now) target (state now.disk) new

pub honest_was : {Disk : Type 0} (state : Disk → DiskState) {was now : FileState Disk} → was ≡ now → IsTrue (state now.disk).honest
    → IsTrue (state was.disk).honest
honest_was {Disk} state view honest = subst (λ (s : FileState Disk). IsTrue (state s.disk).honest) (sym view) honest

pub whole_was : {Disk : Type 0} {was now : FileState Disk} → was ≡ now → IsFalse now.broken → IsFalse was.broken
whole_was {Disk} view whole = subst (λ (s : FileState Disk). IsFalse s.broken) (sym view) whole

pub count_is : {Disk : Type 0} {was now : FileState Disk} → was ≡ now → was.count.value ≡ now.count.value
count_is {Disk} view = ap (λ (s : FileState Disk). s.count.value) view

pub still_honest : {old new : DiskState} {failed done : Type 0} → Counts old new failed done → IsTrue old.honest → IsTrue new.honest
still_honest counts h = subst (λ b. IsTrue b) (sym counts.honest) h

pub take_leaves : {Disk : Type 0} (state : Disk → DiskState) (value : ℕ) {was now : FileState Disk} {new : DiskState} → was ≡ now
    → IsLeaseFile (state was.disk) was.count was.keeps was.broken
    → new.honest ≡ (state was.disk).honest → (IsTrue (state was.disk).honest → Run (InSlot was.count.spare) (state was.disk) new)
    → (IsTrue (state was.disk).honest → IsCellAt 0 was.count → AllStand was.count (state was.disk)
    → Each (state was.disk) new (λ c. (cell_at c 0 ≡ Some was.count.value) ⊎ (cell_at c 0 ≡ Some value)))
    → Leaves state now (kept value now.keeps.value) new
take_leaves {Disk} state value {was = was} {new = new} view is honest run images =
    subst (λ (s : FileState Disk). Leaves state s (kept value s.keeps.value) new) view (record {
      honest = honest;
      run = λ h. in_file 0 was.count (state was.disk) new is.first (omega arith) (run h);
      images = λ h whole. count_since was.count was.keeps value (state was.disk) new is.first is.second (is.times h whole) (run h)
          (images h is.first (is.counts h whole));
    })

pub keep_leaves : {Disk : Type 0} (state : Disk → DiskState) (value : ℕ) {was now : FileState Disk} {new : DiskState} → was ≡ now
    → IsLeaseFile (state was.disk) was.count was.keeps was.broken
    → was.keeps.value < value → new.honest ≡ (state was.disk).honest
    → (IsTrue (state was.disk).honest → Run (InSlot was.keeps.spare) (state was.disk) new)
    → (IsTrue (state was.disk).honest → IsCellAt 4 was.keeps → AllStand was.keeps (state was.disk)
    → Each (state was.disk) new (λ c. (cell_at c 4 ≡ Some was.keeps.value) ⊎ (cell_at c 4 ≡ Some value)))
    → Leaves state now (kept now.count.value (max now.keeps.value value)) new
keep_leaves {Disk} state value {was = was} {new = new} view is above honest run images =
    subst (λ (s : FileState Disk). Leaves state s (kept s.count.value (max s.keeps.value value)) new) view (record {
      honest = honest;
      run = λ h. in_file 4 was.keeps (state was.disk) new is.second (omega arith) (run h);
      images = λ h whole. subst (λ n. IsOneOf (kept_of was) (kept was.count.value n) (state was.disk) new)
          (sym (max-eq_right (omega (arith, above))))
          (time_since was.count was.keeps value (state was.disk) new is.first is.second (is.counts h whole) (run h)
          (images h is.second (is.times h whole)));
    })

-- what a whole file's disk has, as its view says
pub view_lasts : {Disk : Type 0} (state : Disk → DiskState) {was now : FileState Disk} → was ≡ now
    → IsLeaseFile (state was.disk) was.count was.keeps was.broken
    → IsTrue (state now.disk).honest → IsFalse now.broken → Lasts (kept_of now) (state now.disk)
view_lasts {Disk} state {was = was} view is =
    subst (λ (s : FileState Disk). IsTrue (state s.disk).honest → IsFalse s.broken
    → Lasts (kept_of s) (state s.disk)) view (λ honest whole. lasts is honest whole)

-- where nothing is done each image has what was there
pub still_has : {Disk : Type 0} (state : Disk → DiskState) {was now : FileState Disk}
    → ((disk : Disk) → IsTrue (state disk).honest → Laws (state disk)) → was ≡ now
    → IsLeaseFile (state was.disk) was.count was.keeps was.broken → IsTrue (state now.disk).honest → IsFalse now.broken
    → Each (state now.disk) (state now.disk) (λ c. kept_in c ≡ Some (kept_of now))
still_has {Disk} state {now = now} laws view is honest whole c since =
    (view_lasts state view is honest whole).has c ((laws now.disk honest).only_now c since)

-- a process began to begin, and was stopped when its time was written
pub kept_three : (before : Kept) (keeps : ℕ) (old new : DiskState) → IsOneOf before (kept before.count (max before.keeps keeps)) old new
    → IsOneOfThree before keeps old new
kept_three before keeps old new one c since = ⊎_elim (λ a. inl a) (λ b. inr (inl b)) (one c since)

-- its time was written, and then its count
pub begin_three : (before mid : Kept) (keeps count : ℕ) (old between new : DiskState) → mid ≡ kept before.count (max before.keeps keeps)
    → count ≡ before.count + 1
    → Run InFile old between → Run InFile between new → IsOneOf before (kept before.count (max before.keeps keeps)) old between
    → IsOneOf mid (kept count mid.keeps) between new
    → IsOneOfThree before keeps old new
begin_three before mid keeps count old between new same next first second one other =
    let after : IsOneOf (kept before.count (max before.keeps keeps)) (kept (before.count + 1) (max before.keeps keeps)) between new =
    subst (λ (m : Kept). IsOneOf m (kept (before.count + 1) m.keeps) between new) same
    (subst (λ (n : ℕ). IsOneOf mid (kept n mid.keeps) between new) next other) in
    each_of_two InFile old between new (λ c. (kept_in c ≡ Some before) ⊎ (kept_in c ≡ Some (kept before.count (max before.keeps keeps)))
    ⊎ (kept_in c ≡ Some (kept (before.count + 1) (max before.keeps keeps)))) first.later second
    (λ c since. ⊎_elim (λ a. inl a) (λ b. inr (inl b)) (one c since))
    (λ c since. ⊎_elim (λ a. inr (inl a)) (λ b. inr (inr b)) (after c since))

pub run_both : {old mid new : DiskState} → mid.honest ≡ old.honest → (IsTrue old.honest → Run InFile old mid)
    → (IsTrue mid.honest → Run InFile mid new) → IsTrue old.honest → Run InFile old new
run_both {old = old} {mid = mid} {new = new} same first second honest =
    run_of_two InFile old mid new (first honest) (second (same ∙ honest))
