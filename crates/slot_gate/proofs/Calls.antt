-- Runs of calls of a device that may be honest.
use Rattle.std.proofs.Common.{◌≡◌, ◌<◌, ℕ, inl, inr, ⊎_elim, sym, ◌∙◌, subst, arith, IsTrue}
use Rattle.sector_disk.specs.Disk.{DiskState, Laws, Touches, nothing}
use Rattle.sector_disk.specs.Run.{Run}
use Rattle.sector_disk.proofs.PublicLaws.{no_more_then, quiet_run, run_of_two, run_widen, write_run}
use Rattle.slot_gate.specs.Writing.{WritesOnly}

-- a call that writes nothing
pub quiet_call : {D : Type 0} (state : D → DiskState) (laws : (disk : D) → IsTrue (state disk).honest → Laws (state disk)) (old new : D)
    → (state new).honest ≡ (state old).honest
    → (IsTrue (state old).honest → Touches nothing (state old) (state new)) → IsTrue (state old).honest
    → Run nothing (state old) (state new)
quiet_call state laws old new same call honest =
    quiet_run (state old) (state new) (laws old honest) (laws new (subst (λ b. IsTrue b) (sym same) honest)) (call honest)

-- a call that writes one sector
pub write_call : {D : Type 0} (state : D → DiskState) (laws : (disk : D) → IsTrue (state disk).honest → Laws (state disk)) (old new : D)
    (at : ℕ) → (state new).honest ≡ (state old).honest
    → at < (state old).sectors → (IsTrue (state old).honest → Touches (λ k. k ≡ at) (state old) (state new)) → IsTrue (state old).honest
    → Run (λ k. k ≡ at) (state old) (state new)
write_call state laws old new at same on call honest =
    write_run at (state old) (state new) (laws old honest) (laws new (subst (λ b. IsTrue b) (sym same) honest)) on (call honest)

-- a run that goes on
pub run_on : (more : ℕ → Type 0) {some : ℕ → Type 0} {old mid new : DiskState} → ((at : ℕ) → some at → more at) → mid.honest ≡ old.honest
    → (IsTrue old.honest → Run more old mid) → (IsTrue mid.honest → Run some mid new) → IsTrue old.honest → Run more old new
run_on more {some = some} {old = old} {mid = mid} {new = new} into same first second honest =
    run_of_two more old mid new (first honest) (run_widen some more mid new into (second (subst (λ b. IsTrue b) (sym same) honest)))

-- calls one after another: the answer is that of the last one
pub writes_on : (more : ℕ → Type 0) {some here : ℕ → Type 0} {old mid new : DiskState} {missed was_done failed done : Type 0}
    → ((at : ℕ) → some at → more at) → ((at : ℕ) → here at → more at)
    → was_done → WritesOnly some old mid missed was_done → WritesOnly here mid new failed done → WritesOnly more old new failed done
writes_on more {some = some} {old = old} {mid = mid} {new = new} first last went before call =
    let same = before.counts.unchanged went in record {
      answers = call.answers;
      counts = record {
        sectors = call.counts.sectors ∙ before.counts.sectors;
        honest = call.counts.honest ∙ before.counts.honest;
        arms = no_more_then old.armed mid.armed new.armed before.counts.arms call.counts.arms;
        later = omega (arith, call.counts.later, same);
        unchanged = λ d. call.counts.unchanged d ∙ same;
        cause = λ f. ⊎_elim (λ rose. inl (omega (arith, rose, same))) (λ top. inr top) (call.counts.cause f);
      };
      run = run_on more last before.counts.honest (λ honest. run_widen some more old mid first (before.run honest)) call.run;
    }
