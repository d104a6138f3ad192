-- What is seen of a slot, from its gate and its body.
use Rattle.std.proofs.Common.{◌≡◌, ◌+◌, ◌⊎◌, inl, inr, ℕ, List, Bool, true, false, Option, Some, None, ◌∙◌, ap, subst, refl, if◌then◌else◌}
use Rattle.sector_disk.specs.Disk.{Image, DiskState, IsImage, sector_at, nothing}
use Rattle.sector_disk.specs.Run.{Run}
use Rattle.slot_gate.specs.Slot.{slot_at, is_gate_sealed, sealed_gate, unsealed_gate}

-- a slot by the test of its gate
abbrev pub slot_by : Bool → List ℕ → Option (List ℕ)
slot_by sealed body = if sealed then Some body else None

pub slot_sealed : (c : Image) (body : ℕ) → sector_at c (body + 1) ≡ sealed_gate → slot_at c body ≡ Some (sector_at c body)
unfolding sealed_gate
slot_sealed c body is = ap (λ g. slot_by (is_gate_sealed g) (sector_at c body)) is

pub slot_unsealed : (c : Image) (body : ℕ) → sector_at c (body + 1) ≡ unsealed_gate → slot_at c body ≡ None
unfolding unsealed_gate
slot_unsealed c body is = ap (λ g. slot_by (is_gate_sealed g) (sector_at c body)) is

by_either : (b : Bool) (body : List ℕ) → (slot_by b body ≡ None) ⊎ (slot_by b body ≡ Some body)
by_either true body = inr refl
by_either false body = inl refl

-- whatever its gate holds
pub slot_either : (c : Image) (body : ℕ) (content : List ℕ) → sector_at c body ≡ content
    → (slot_at c body ≡ None) ⊎ (slot_at c body ≡ Some content)
slot_either c body content is = subst (λ s. (slot_at c body ≡ None)
    ⊎ (slot_at c body ≡ Some s)) is (by_either (is_gate_sealed (sector_at c (body + 1))) (sector_at c body))

-- the same sectors give the same slot
pub slot_same : (c d : Image) (body : ℕ) → sector_at c (body + 1) ≡ sector_at d (body + 1) → sector_at c body ≡ sector_at d body
    → slot_at c body ≡ slot_at d body
slot_same c d body gates bodies = ap (λ g. slot_by (is_gate_sealed g) (sector_at c body)) gates
    ∙ ap (λ s. slot_by (is_gate_sealed (sector_at d (body + 1))) s) bodies

-- calls that write nothing leave each slot as it reads
pub slot_kept : (old new : DiskState) (slot : ℕ) → Run nothing old new → slot_at new.contents slot ≡ slot_at old.contents slot
slot_kept old new slot run = slot_same new.contents old.contents slot (run.contents.same (slot + 1) (λ no. no))
    (run.contents.same slot (λ no. no))

-- once its sectors are synced, each image has the slot that reads give
pub slot_synced : (disk : DiskState) (slot : ℕ) (c : Image) → disk.synced slot → disk.synced (slot + 1) → IsImage disk c
    → slot_at c slot ≡ slot_at disk.contents slot
slot_synced disk slot c body gate image = slot_same c disk.contents slot (image.same (slot + 1) gate) (image.same slot body)
