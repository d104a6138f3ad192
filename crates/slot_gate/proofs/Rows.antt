-- Unsealing slots one behind another.
use Rattle.std.proofs.Common.{◌≡◌, ◌+◌, ◌*◌, ◌<◌, inl, ℕ, None, sym, ◌∙◌, subst, refl, arith, IsTrue}
use borrow.Author.Count.{below_more}
use Rattle.sector_disk.specs.Disk.{DiskState, Laws, Counts, NoMorePass}
use Rattle.sector_disk.specs.Run.{Run}
use Rattle.sector_disk.proofs.PublicLaws.{no_more_still, no_more_then, same_image}
use Rattle.slot_gate.specs.Slot.{slot_at, InSlots}
use Rattle.slot_gate.proofs.Calls.{run_on}
use Rattle.slot_gate.proofs.Slots.{slot_same}

-- the disk after so many slots were unsealed
pub record Erased (first slots : ℕ) (old now : DiskState) (erased : ℕ) : Type 0 where
  pub sectors : now.sectors ≡ old.sectors
  pub honest : now.honest ≡ old.honest
  pub arms : NoMorePass old.armed now.armed
  pub failures : now.failures ≡ old.failures
  pub run : IsTrue old.honest → Run (InSlots first slots) old now
  pub unsealed : IsTrue old.honest → (k : ℕ) → k < erased → slot_at now.contents (first + 2 * k) ≡ None

pub erased_start : (first slots : ℕ) (disk : DiskState) → (IsTrue disk.honest → Laws disk) → Erased first slots disk disk 0
erased_start first slots disk laws = record {
  sectors = refl;
  honest = refl;
  arms = no_more_still disk.armed;
  failures = refl;
  run = λ honest. (let l = laws honest in record {
    later = omega arith;
    splits = λ t c le since. inl since;
    keeps = λ t c le was. was;
    earlier = l.earlier;
    ends = λ c now. l.counts_now disk.moment c (omega arith) now;
    follows = λ c since. (c, l.only_now c since, same_image (InSlots first slots) c);
    contents = same_image (InSlots first slots) disk.contents;
  });
  unsealed = λ honest k less. absurd (omega (arith, less));
}

pub erased_run : (first slots erased : ℕ) (old mid new : DiskState) → erased < slots → Erased first slots old mid erased
    → (IsTrue mid.honest → Run (λ k. k ≡ first + 2 * erased + 1) mid new) → IsTrue old.honest → Run (InSlots first slots) old new
erased_run first slots erased old mid new less so_far run =
    run_on (InSlots first slots) (λ k is. (omega (arith, is), omega (arith, is, less))) so_far.honest so_far.run run

others_kept : (first erased k : ℕ) (mid new : DiskState) → k < erased → Run (λ j. j ≡ first + 2 * erased + 1) mid new
    → slot_at new.contents (first + 2 * k) ≡ slot_at mid.contents (first + 2 * k)
others_kept first erased k mid new less run =
    slot_same new.contents mid.contents (first + 2 * k) (run.contents.same (first + 2 * k + 1) (λ is. omega (arith, is, less)))
    (run.contents.same (first + 2 * k) (λ is. omega (arith, is, less)))

pub erased_more : (first slots erased : ℕ) (old mid new : DiskState) (failed done : Type 0) → done → erased < slots
    → Erased first slots old mid erased → Counts mid new failed done
    → (IsTrue mid.honest → Run (λ k. k ≡ first + 2 * erased + 1) mid new)
    → (IsTrue mid.honest → slot_at new.contents (first + 2 * erased) ≡ None) → Erased first slots old new (erased + 1)
erased_more first slots erased old mid new failed done ok less so_far counts run none = record {
  sectors = counts.sectors ∙ so_far.sectors;
  honest = counts.honest ∙ so_far.honest;
  arms = no_more_then old.armed mid.armed new.armed so_far.arms counts.arms;
  failures = counts.unchanged ok ∙ so_far.failures;
  run = erased_run first slots erased old mid new less so_far run;
  unsealed = λ honest. (let still = subst (λ b. IsTrue b) (sym so_far.honest) honest in
      below_more (λ k. slot_at new.contents (first + 2 * k) ≡ None) erased (λ k before.
      others_kept first erased k mid new before (run still) ∙ so_far.unsealed honest k before) (none still));
}
