-- The slots of an area, one after the other.
use Rattle.std.proofs.Common.{◌≡◌, ◌+◌, ◌∙◌, ℕ, suc, List, ◌∷◌, Some, None, ap, sym}
use Rattle.sector_disk.specs.Disk.{Image}
use Rattle.slot_gate.specs.Slot.{slot_at}
use Rattle.job_journal.specs.Areas.{slots_from}
use Rattle.store_console.specs.Findings.{first_sealed}
use Rattle.store_console.specs.Salvaged.{content_at, contents_from}

-- a slot that isn't sealed
pub passed_over : (image : Image) (at next left fewer : ℕ) → next ≡ at + 2 → left ≡ suc fewer → slot_at image at ≡ None
    → first_sealed at (slots_from image at left) ≡ first_sealed next (slots_from image next fewer)
passed_over image at next left fewer is count here =
    ap (λ n. first_sealed at (slots_from image at n)) count
    ∙ ap (λ s. first_sealed at (s ∷ slots_from image (at + 2) fewer)) here
    ∙ ap (λ a. first_sealed a (slots_from image a fewer)) (sym is)

-- one that is
pub found_here : (image : Image) (at left fewer : ℕ) (body : List ℕ) → left ≡ suc fewer → slot_at image at ≡ Some body
    → first_sealed at (slots_from image at left) ≡ Some at
found_here image at left fewer body count here =
    ap (λ n. first_sealed at (slots_from image at n)) count ∙ ap (λ s. first_sealed at (s ∷ slots_from image (at + 2) fewer)) here

-- none is left
pub none_left : (image : Image) (at left : ℕ) → left ≡ 0 → first_sealed at (slots_from image at left) ≡ None
none_left image at left none = ap (λ n. first_sealed at (slots_from image at n)) none

-- what one more slot gives
pub one_content : (image : Image) (at next left fewer : ℕ) → next ≡ at + 2 → left ≡ suc fewer
    → contents_from image at left ≡ content_at image at ∷ contents_from image next fewer
one_content image at next left fewer is count =
    ap (λ n. contents_from image at n) count ∙ ap (λ a. content_at image at ∷ contents_from image a fewer) (sym is)
