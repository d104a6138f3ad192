-- What a journal stands for that was begun with jobs.
use Rattle.job_journal.proofs.Common.{◌≡◌, ◌+◌, ◌*◌, ◌<◌, ◌≤◌, ℕ, length, Some, None, ◌∙◌, ap, arith, Image, DiskState, IsImage, AllSynced}
use Rattle.job_journal.proofs.Common.{Run, IsTrue, slot_at, InCell}
use Rattle.job_journal.proofs.Common.{IsInOrder, Jobs, IsWritten, records_for, jobs_in, IsSoundImage, slots_from}
use Rattle.safe_cell.specs.Cell.{AllHave}
use Rattle.job_journal.proofs.Changes.{anew}
use Rattle.job_journal.proofs.Frames.{jobs_held_at, slots_same_from, synced_image}

-- nothing was written into an area that is unsealed
unwritten : (slots : ℕ) (jobs : Jobs) (c : Image) → ((k : ℕ) → k < 2 * slots → slot_at c (8 + 2 * k) ≡ None)
    → IsWritten 8 slots (records_for jobs) 0 0 c
unwritten slots jobs c none = record {
  bodies = λ k less. absurd (omega (arith, less));
  bytes = λ k less. absurd (omega (arith, less));
  sealed = λ k less. absurd (omega (arith, less));
  free = λ k le less. none k (omega (arith, less));
}

-- each image in the end: both areas were unsealed, then the records were written, and then the area cell
pub begun : (slots : ℕ) (jobs : Jobs) (old mid : DiskState) {late new : DiskState} → mid.honest ≡ old.honest → late.honest ≡ mid.honest
    → IsInOrder jobs.pending jobs.next → length jobs.pending + 2 ≤ slots
    → (IsTrue old.honest → (k : ℕ) → k < 2 * slots → slot_at mid.contents (8 + 2 * k) ≡ None)
    → (IsTrue mid.honest → IsWritten 8 slots (records_for jobs) 0 0 mid.contents
    → IsWritten 8 slots (records_for jobs) (length jobs.pending + 1) (length jobs.pending + 1) late.contents)
    → (IsTrue late.honest → Run (InCell 4) late new) → (IsTrue late.honest → AllSynced new) → (IsTrue late.honest → AllHave 4 1 new)
    → IsTrue old.honest → (c : Image) → IsImage new c → (jobs_in slots c ≡ Some jobs) × IsSoundImage slots c
begun slots jobs old mid {late = late} {new = new} same still order fits none written run synced value honest c image =
    let early = same ∙ honest in
    let by_now = still ∙ early in
    let read = anew slots 8 jobs late.contents order fits (written early (unwritten slots jobs mid.contents (none honest))) in
    let area = ap (λ d. slots_from d 8 slots) (synced_image new c (synced by_now) image)
    ∙ slots_same_from 8 slots late.contents new.contents (record {
      same =
          λ k le lt. (run by_now).contents.same k (λ is. grind (arith, le, is));
    }) in
    let held = jobs_held_at {good = Unit {0}} slots 1 late.contents c area (value by_now c image)
    (omega arith) read.reads (λ _. read.prefix) in
    (held.0, held.1 tt)
