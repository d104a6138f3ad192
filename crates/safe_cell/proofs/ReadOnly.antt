-- Calls one after the other.
use Rattle.std.proofs.Common.{◌≡◌, ℕ, inl, inr, ⊎_elim, ◌∙◌, arith, IsTrue}
use Rattle.sector_disk.specs.Disk.{DiskState, nothing}
use Rattle.sector_disk.specs.Run.{Run}
use Rattle.sector_disk.proofs.PublicLaws.{no_more_then, run_of_two, run_widen}
use Rattle.safe_cell.specs.Answered.{OnlyReads}

-- together they touch what either does
pub run_on : (first last both : ℕ → Type 0) (old mid new : DiskState) → mid.honest ≡ old.honest → ((k : ℕ) → first k → both k)
    → ((k : ℕ) → last k → both k)
    → (IsTrue old.honest → Run first old mid) → (IsTrue mid.honest → Run last mid new) → IsTrue old.honest → Run both old new
run_on first last both old mid new same one other before after honest =
    run_of_two both old mid new (run_widen first both old mid one (before honest))
    (run_widen last both mid new other (after (same ∙ honest)))

-- the last call's failure is that of both
pub reads_on : (old mid new : DiskState) (first last failed : Type 0) → (first → ⊥) → (last → failed) → (failed → last)
    → OnlyReads old mid first → OnlyReads mid new last → OnlyReads old new failed
reads_on old mid new first last failed went known fails before after =
    let same = before.counts.unchanged went in
    record {
      counts = record {
        sectors = after.counts.sectors ∙ before.counts.sectors;
        honest = after.counts.honest ∙ before.counts.honest;
        arms = no_more_then old.armed mid.armed new.armed before.counts.arms after.counts.arms;
        later = omega (arith, after.counts.later, same);
        unchanged = λ done. after.counts.unchanged (λ l. done (known l)) ∙ same;
        cause = λ f. ⊎_elim (λ rose. inl (omega (arith, rose, same))) (λ top. inr top) (after.counts.cause (fails f));
      };
      run = run_on nothing nothing nothing old mid new before.counts.honest (λ k no. no) (λ k no. no) before.run after.run;
      synced = λ honest k is. after.synced (before.counts.honest ∙ honest) k (before.synced honest k is);
    }
