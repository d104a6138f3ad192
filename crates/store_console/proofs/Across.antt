-- The other area, read as if it were the present one.
use Rattle.std.proofs.Common.{◌≡◌, ◌+◌, ◌*◌, ◌≤◌, ◌==◌, ◌∙◌, ℕ, zero, suc, Bool, true, false, ◌∷◌, Some, if◌then◌else◌, refl, ap, arith}
use Rattle.sector_disk.specs.Disk.{Image, DiskState, SameBut, sector_at}
use Rattle.slot_gate.specs.Slot.{slot_at}
use Rattle.slot_gate.proofs.PublicLaws.{slot_same}
use Rattle.safe_cell.specs.Cell.{AllHave, InCell}
use Rattle.job_journal.specs.Areas.{area_of, sealed_prefix, slots_from}
use Rattle.job_journal.specs.Journal.{replay_by, replay_from}
use Rattle.job_journal.specs.Readings.{Reads, fresh, replayed}
use Rattle.job_journal.proofs.PublicLaws.{whole_slots}
use Rattle.store_console.specs.Findings.{across, journal_from, value_across}
use Rattle.store_console.specs.Held.{journal_of, jobs_or_damage}

same_slots : (at n : ℕ) (d c : Image) → ((k : ℕ) → at ≤ k → sector_at c k ≡ sector_at d k) → slots_from c at n ≡ slots_from d at n
same_slots at zero d c same = refl
same_slots at (suc n) d c same = λ i.
    slot_same c d at (same (at + 1) (omega arith)) (same at (omega arith)) i ∷ same_slots (at + 2) n d c (λ k low.
    same k (omega (arith, low))) i

same_replay : (slots first : ℕ) (d c : Image) → 8 ≤ first → ((k : ℕ) → 8 ≤ k → sector_at c k ≡ sector_at d k)
    → replay_from slots c first ≡ replay_from slots d first
same_replay slots first d c behind same =
    ap (λ ys. replayed slots first (Reads fresh) (sealed_prefix ys))
    (same_slots first slots d c (λ k low. same k (omega (arith, low, behind))))

area_by : (slots value : ℕ) (b : Bool) → value ≡ (if b then 2 else 1) → area_of slots (Some value) ≡ Some (if b then 8 + 2 * slots else 8)
area_by slots value true is = ap (λ v. area_of slots (Some v)) is
area_by slots value false is = ap (λ v. area_of slots (Some v)) is

behind_cells : (slots : ℕ) (b : Bool) → 8 ≤ (if b then 8 + 2 * slots else 8)
behind_cells slots true = omega arith
behind_cells slots false = omega arith

pub other_read : (slots first : ℕ) (old new : DiskState) → SameBut (InCell 4) old.contents new.contents → AllHave 4 (value_across first) new
    → journal_of slots new.contents ≡ journal_from slots old.contents (across slots first)
other_read slots first old new but has =
    let c = new.contents in
    let value = has c (record { size = refl; same = λ at synced. refl }) in
    let area = ap (area_of slots) value ∙ area_by slots (value_across first) (first == 8) refl in
    let whole = whole_slots 4 (value_across first) (slot_at c 4) (slot_at c 6) value in
    let same : (k : ℕ) → 8 ≤ k → sector_at c k ≡ sector_at old.contents k = λ k low. but.same k (λ within. grind (arith, within, low)) in
    (λ i. jobs_or_damage (replay_by slots c (whole i) (area i)))
    ∙ ap jobs_or_damage (same_replay slots (across slots first) old.contents c (behind_cells slots (first == 8)) same)
