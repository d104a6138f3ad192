-- The images of a cell that is being given its first value.
use Rattle.std.proofs.Common.{◌≡◌, ◌+◌, ◌<◌, ◌⊎◌, ◌^◌, inl, inr, ⊎_elim, ℕ, List, Option, false, Some, None, is_some, ◌∙◌, ap, arith}
use Rattle.sector_disk.specs.Disk.{Image, DiskState, IsImage, SameBut, AllSynced}
use Rattle.sector_disk.specs.Run.{Run, Each}
use Rattle.slot_gate.specs.Slot.{slot_at, InSlot}
use Rattle.slot_gate.specs.Stored.{Knows, Follows, IsStored}
use Rattle.slot_gate.proofs.PublicLaws.{slot_synced}
use Rattle.safe_cell.specs.Body.{body_of}
use Rattle.safe_cell.specs.Cell.{AllHave, cell_at, cell_of}
use Rattle.safe_cell.proofs.Bodies.{body_value-body_of}
use Rattle.safe_cell.proofs.Formats.{next_same}

unsealed : (slot : Option (List ℕ)) → is_some slot ≡ false → slot ≡ None
unsealed None is = cc
unsealed (Some body) is = absurd cc

none_there : (c : Image) (at : ℕ) → slot_at c at ≡ None → slot_at c (at + 2) ≡ None → cell_at c at ≡ None
none_there c at first second = λ i. cell_of (first i) (second i)

some_there : (c : Image) (at value : ℕ) (body : List ℕ) → body ≡ body_of value → value < 2 ^ 64 → slot_at c at ≡ Some body
    → slot_at c (at + 2) ≡ None → cell_at c at ≡ Some value
some_there c at value body is fits first second = (λ i. cell_of ((first ∙ ap (λ b. Some b) is) i) (second i))
    ∙ body_value-body_of value fits

-- each image since the start
pub begin_images : (at value : ℕ) (old new : DiskState) (body : List ℕ) → body ≡ body_of value → value < 2 ^ 64
    → (Knows old at false → Each old new (Follows (InSlot at) old at (IsStored body)))
    → Knows old at false → Knows old (at + 2) false → Each old new (λ c. (cell_at c at ≡ None) ⊎ (cell_at c at ≡ Some value))
begin_images at value old new body is fits images first second c since =
    let f = images first c since in
    let other = next_same f.from c at f.same ∙ unsealed (slot_at f.from (at + 2)) (second f.from f.image) in
    ⊎_elim
    (λ same. inl (none_there c at (same ∙ unsealed (slot_at f.from at) (first f.from f.image)) other))
    (⊎_elim (λ none. inl (none_there c at none other)) (λ some. inr (some_there c at value body is fits some other)))
    f.step

-- each image in the end
pub begun : (at value : ℕ) (old new : DiskState) (body : List ℕ) → body ≡ body_of value → value < 2 ^ 64 → Knows old (at + 2) false
    → Run (InSlot at) old new → AllSynced new → slot_at new.contents at ≡ Some body → AllHave at value new
begun at value old new body is fits second run synced sealed c image =
    let f = run.follows c (run.ends c image) in
    some_there c at value body is fits (slot_synced new at c (synced at) (synced (at + 1)) image ∙ sealed)
    (next_same f.0 c at f.2 ∙ unsealed (slot_at f.0 (at + 2)) (second f.0 f.1))
