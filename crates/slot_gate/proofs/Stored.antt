-- What each image has of a slot while its body is changed.
use Rattle.std.proofs.Common.{◌≡◌, ◌+◌, ◌⊎◌, inl, inr, ⊎_elim, ℕ, List, Some, None}
use Rattle.sector_disk.specs.Disk.{DiskState}
use Rattle.sector_disk.specs.Run.{Run, Each}
use Rattle.sector_disk.proofs.PublicLaws.{same_trans, same_widen, each_of_two, run_widen}
use Rattle.slot_gate.specs.Slot.{slot_at, InSlot}
use Rattle.slot_gate.specs.Stored.{IsStored, IsCleared, Follows}

-- the first step as a part of the whole
pub after_clear : (slot : ℕ) (content : List ℕ) (old clear : DiskState) → Each old clear (Follows (λ k. k ≡ slot + 1) old slot IsCleared)
    → Each old clear (Follows (InSlot slot) old slot (IsStored content))
after_clear slot content old clear first c since =
    let f = first c since in
    record {
      from = f.from;
      image = f.image;
      same = same_widen _ (InSlot slot) f.from c (λ k is. inr is) f.same;
      step =
          ⊎_elim (λ same. inl same) (λ none. inr (inl none)) f.step;
    }

-- one step more, which leaves the slot unsealed or sealed over the new body
pub one_more : (slot : ℕ) (content : List ℕ) (old mid new : DiskState) → Run (InSlot slot) old mid → Run (InSlot slot) mid new
    → Each mid new (λ c. (slot_at c slot ≡ None) ⊎ (slot_at c slot ≡ Some content))
    → Each old mid (Follows (InSlot slot) old slot (IsStored content)) → Each old new (Follows (InSlot slot) old slot (IsStored content))
one_more slot content old mid new run more step so_far =
    each_of_two (InSlot slot) old mid new (Follows (InSlot slot) old slot (IsStored content)) run.later more so_far
    (λ c since.
    let e = more.follows c since in
    let d = run.follows e.0 (run.ends e.0 e.1) in
    record { from = d.0; image = d.1; same = same_trans (InSlot slot) d.0 e.0 c d.2 e.2; step = inr (step c since) })

-- the slot is filled behind the opening of its gate
pub filled_images : (slot : ℕ) (content : List ℕ) {old mid new : DiskState} → Run (λ k. k ≡ slot + 1) old mid → Run (λ k. k ≡ slot) mid new
    → Each old mid (Follows (λ k. k ≡ slot + 1) old slot IsCleared) → Each mid new (λ c. slot_at c slot ≡ None)
    → Each old new (Follows (InSlot slot) old slot (IsStored content))
filled_images slot content {old = old} {mid = mid} {new = new} cleared filled first none =
    one_more slot content old mid new (run_widen _ (InSlot slot) old mid (λ k is. inr is) cleared)
    (run_widen _ (InSlot slot) mid new (λ k is. inl is) filled)
    (λ c since. inl (none c since)) (after_clear slot content old mid first)
