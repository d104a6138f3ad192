-- The images of a cell that is being formatted, and of one that was.
use Rattle.std.proofs.Common.{◌≡◌, ◌+◌, ◌<◌, ◌^◌, inl, inr, ⊎_elim, ℕ, List, false, Some, None, is_some, ◌∙◌, ap, arith, refl}
use Rattle.sector_disk.specs.Disk.{Image, DiskState, IsImage, SameBut, AllSynced}
use Rattle.sector_disk.specs.Run.{Run, Each}
use Rattle.sector_disk.proofs.PublicLaws.{each_of_two}
use Rattle.slot_gate.specs.Slot.{slot_at, InSlot}
use Rattle.slot_gate.specs.Stored.{Knows, Follows, IsStored}
use Rattle.slot_gate.proofs.PublicLaws.{slot_same, slot_either, slot_synced}
use Rattle.safe_cell.specs.Body.{body_of}
use Rattle.safe_cell.specs.Cell.{AllHave}
use Rattle.safe_cell.specs.Mounted.{AllStand}
use Rattle.safe_cell.specs.Formatted.{formatted, IsGate, IsNotTorn}
use Rattle.safe_cell.proofs.Bodies.{body_value-body_of}
use Rattle.safe_cell.proofs.Values.{all_have}

synced_slot : (disk : DiskState) (slot : ℕ) (c : Image) → AllSynced disk → IsImage disk c → slot_at c slot ≡ slot_at disk.contents slot
synced_slot disk slot c synced image = slot_synced disk slot c (synced slot) (synced (slot + 1)) image

-- while the gates are opened
pub erase_images : (at value : ℕ) (old new : DiskState) → Run (IsGate at) old new → old.synced at → old.synced (at + 2)
    → Each old new (IsNotTorn at value old.contents)
erase_images at value old new run first second c since =
    let f = run.follows c since in
    record {
      first = ⊎_elim (λ none. inl none) (λ some. inr (inl some)) (slot_either c at _ (f.2.same at (omega arith) ∙ f.1.same at first));
      second = slot_either c (at + 2) _ (f.2.same (at + 2) (omega arith) ∙ f.1.same (at + 2) second);
    }

-- a slot two sectors on isn't touched
pub next_same : (d c : Image) (at : ℕ) → SameBut (InSlot at) d c → slot_at c (at + 2) ≡ slot_at d (at + 2)
next_same d c at same = slot_same c d (at + 2) (same.same (at + 2 + 1) (omega arith)) (same.same (at + 2) (omega arith))

-- while the gates are opened and then the value is put into the first slot
pub format_images : (at value : ℕ) (old mid new : DiskState) (body : List ℕ) → body ≡ body_of value → AllSynced mid
    → slot_at mid.contents at ≡ None → slot_at mid.contents (at + 2) ≡ None → Run (IsGate at) old mid → Run (InSlot at) mid new
    → (Knows mid at false → Each mid new (Follows (InSlot at) mid at (IsStored body)))
    → old.synced at → old.synced (at + 2) → Each old new (IsNotTorn at value old.contents)
format_images at value old mid new body is synced none_a none_b erased stored images first second =
    each_of_two (InSlot at) old mid new _ erased.later stored (erase_images at value old mid erased first second) (λ c since.
    let f = images (λ d image. ap is_some (synced_slot mid at d synced image ∙ none_a)) c since in
    record {
      first = ⊎_elim
          (λ same. inl (same ∙ synced_slot mid at f.from synced f.image ∙ none_a))
          (⊎_elim (λ none. inl none) (λ some. inr (inr (some ∙ ap (λ b. Some b) is))))
          f.step;
      second = inl (next_same f.from c at f.same ∙ synced_slot mid (at + 2) f.from synced f.image ∙ none_b);
    })

pub all_formatted : (at value : ℕ) (mid new : DiskState) (body : List ℕ) → body ≡ body_of value → value < 2 ^ 64
    → slot_at mid.contents (at + 2) ≡ None → Run (InSlot at) mid new → AllSynced new → slot_at new.contents at ≡ Some body
    → AllHave at value new × AllStand (formatted at value) new
all_formatted at value mid new body is fits none run synced sealed =
    let stands : AllStand (formatted at value) new = λ c image. record {
      body = body_of value;
      present = synced_slot new at c synced image ∙ sealed ∙ ap (λ b. Some b) is;
      value = body_value-body_of value fits;
      spare = synced_slot new (at + 2) c synced image ∙ next_same mid.contents new.contents at run.contents ∙ none;
    } in
    (all_have at (formatted at value) new (inl (refl, refl)) stands, stands)
