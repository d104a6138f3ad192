-- What the images of a disk stand for on which a store is begun.
use Rattle.std.proofs.Common.{[], zero, suc, refl, length, get_or, replicate, ◌==◌, if◌then◌else◌, ◌≡◌, ◌+◌, ◌*◌, ◌<◌, ◌⊎◌, inl, inr}
use Rattle.std.proofs.Common.{⊎_elim, ℕ, List, Option, Some, None, false, is_some, ◌∙◌, ap, arith}
use Rattle.sector_disk.specs.Disk.{Image, DiskState, IsImage, SameBut, sector_at}
use Rattle.sector_disk.specs.Memory.{blank, state_of}
use Rattle.sector_disk.specs.Run.{Run, Each}
use Rattle.sector_disk.proofs.PublicLaws.{run_widen, run_of_two, each_of_two}
use Rattle.slot_gate.specs.Slot.{slot_at, InSlot}
use Rattle.slot_gate.specs.Stored.{Knows}
use Rattle.slot_gate.proofs.PublicLaws.{slot_same}
use Rattle.safe_cell.specs.Cell.{cell_at, cell_of}
use Rattle.job_journal.specs.Jobs.{Jobs, kept}
use Rattle.job_journal.specs.Journal.{InJournal, IsSoundImage, jobs_by, jobs_in}
use Rattle.job_journal.proofs.PublicLaws.{SameFrom, replay_same_from, sound_same_from}
use Rattle.node_store.specs.Beginning.{HasNoCounter, NothingOr}
use Rattle.node_store.specs.Store.{InStore, durable_by, stands_for}
use Rattle.node_store.proofs.Parts.{both}

unsealed : (slot : Option (List ℕ)) → is_some slot ≡ false → slot ≡ None
unsealed None is = cc
unsealed (Some body) is = absurd cc

-- while the journal is written the counter's slots stay as they are
still_none : (slots at : ℕ) (old mid : DiskState) → at + 1 < 4 → Run (InJournal slots) old mid → Knows old at false → (c : Image)
    → mid.left_since old.moment c → slot_at c at ≡ None
still_none slots at old mid low run knows c since =
    let f = run.follows c since in
    slot_same c f.0 at (f.2.same (at + 1) (λ is. omega (arith, low, is.0))) (f.2.same at (λ is. omega (arith, low, is.0)))
    ∙ unsealed (slot_at f.0 at) (knows f.0 f.1)

pub still_unsealed : (slots at : ℕ) (old mid : DiskState) → at + 1 < 4 → Run (InJournal slots) old mid → Knows old at false
    → Knows mid at false
still_unsealed slots at old mid low run knows d image = ap is_some (still_none slots at old mid low run knows d (run.ends d image))

-- without a counter an image stands for nothing
no_counter : (slots : ℕ) (c : Image) → cell_at c 0 ≡ None → stands_for slots c ≡ None
no_counter slots c none = ap (λ v. durable_by v (jobs_in slots c)) none

pub journal_begun : (slots count : ℕ) (jobs : Jobs) (old mid : DiskState) → Run (InJournal slots) old mid → HasNoCounter old
    → Each old mid (NothingOr slots (kept count jobs))
journal_begun slots count jobs old mid run none c since =
    inl (no_counter slots c (λ i. cell_of (still_none slots 0 old mid (omega arith) run none.0 c since i)
    (still_none slots 2 old mid (omega arith) run none.1 c since i)))

-- while the counter is written the journal stays as it is
same_journal : (slots : ℕ) (d c : Image) → SameBut (InSlot 0) d c → SameFrom 4 (4 + 4 * slots) d c
same_journal slots d c same = record { same = λ k le lt. same.same k (λ is. grind (arith, le, is)) }

pub jobs_stay : (slots : ℕ) (jobs : Jobs) (mid new : DiskState) → ((d : Image) → IsImage mid d → jobs_in slots d ≡ Some jobs)
    → Run (InSlot 0) mid new → Each mid new (λ c. jobs_in slots c ≡ Some jobs)
jobs_stay slots jobs mid new made run c since =
    let f = run.follows c since in
    ap jobs_by (replay_same_from slots f.0 c (same_journal slots f.0 c f.2)) ∙ made f.0 f.1

pub counter_begun : (slots count : ℕ) (jobs : Jobs) (mid new : DiskState) → ((d : Image) → IsImage mid d → jobs_in slots d ≡ Some jobs)
    → Run (InSlot 0) mid new
    → Each mid new (λ c. (cell_at c 0 ≡ None) ⊎ (cell_at c 0 ≡ Some count)) → Each mid new (NothingOr slots (kept count jobs))
counter_begun slots count jobs mid new made run values c since =
    ⊎_elim (λ none. inl (no_counter slots c none)) (λ some. inr
    (both slots c count jobs some (jobs_stay slots jobs mid new made run c since))) (values c since)

pub all_begun : (slots count : ℕ) (jobs : Jobs) (old mid new : DiskState) → Run (InJournal slots) old mid → HasNoCounter old
    → ((d : Image) → IsImage mid d → jobs_in slots d ≡ Some jobs) → Run (InSlot 0) mid new
    → Each mid new (λ c. (cell_at c 0 ≡ None) ⊎ (cell_at c 0 ≡ Some count)) → Each old new (NothingOr slots (kept count jobs))
all_begun slots count jobs old mid new first none made second values =
    each_of_two (InSlot 0) old mid new (NothingOr slots (kept count jobs)) first.later second
    (journal_begun slots count jobs old mid first none)
    (counter_begun slots count jobs mid new made second values)

pub sound_stays : (slots : ℕ) (mid new : DiskState) → ((d : Image) → IsImage mid d → IsSoundImage slots d) → Run (InSlot 0) mid new
    → (c : Image) → IsImage new c → IsSoundImage slots c
sound_stays slots mid new sound run c image =
    let f = run.follows c (run.ends c image) in
    sound_same_from slots f.0 c (same_journal slots f.0 c f.2) (sound f.0 f.1)

-- the sectors that were touched
pub journal_run : (slots : ℕ) (old mid : DiskState) → Run (InJournal slots) old mid → Run (InStore slots) old mid
journal_run slots old mid run = run_widen (InJournal slots) (InStore slots) old mid (λ at touched. touched.1) run

pub store_run : (slots : ℕ) (old mid new : DiskState) → Run (InJournal slots) old mid → Run (InSlot 0) mid new → Run (InStore slots) old new
store_run slots old mid new first second =
    run_of_two (InStore slots) old mid new (journal_run slots old mid first)
    (run_widen (InSlot 0) (InStore slots) mid new (λ k touched. grind (arith, touched)) second)

-- ---- a new disk

gate_of_zeros : (n at : ℕ) → ◌≡◌ {A = ℕ} (get_or (get_or (replicate n (replicate 512 0)) at []) 0 0) 0
gate_of_zeros zero at = refl
gate_of_zeros (suc n) zero = refl
gate_of_zeros (suc n) (suc at) = gate_of_zeros n at

none_unsynced : (n at : ℕ) → get_or (replicate n false) at false ≡ false
none_unsynced zero at = refl
none_unsynced (suc n) zero = refl
none_unsynced (suc n) (suc at) = none_unsynced n at

new_unsealed : (sectors slot : ℕ) → Knows (state_of (blank sectors)) slot false
new_unsealed sectors slot d image =
    let synced = none_unsynced (length (replicate sectors (replicate 512 0))) (slot + 1) in
    let gate : get_or (sector_at d (slot + 1)) 0 0 ≡ 0 = ap (λ s. get_or s 0 0) (image.same (slot + 1) synced)
    ∙ gate_of_zeros sectors (slot + 1) in
    ap (λ b. is_some (if b == 165 then Some (sector_at d slot) else None)) gate

pub new_disk : (sectors : ℕ) → HasNoCounter (state_of (blank sectors))
new_disk sectors = (new_unsealed sectors 0, new_unsealed sectors 2)
