-- Where no slot behind a journal's end is sealed, none is found.
use Rattle.std.proofs.Common.{◌≡◌, ◌↔◌, ◌+◌, ◌-◌, ◌*◌, ℕ, zero, suc, length, List, [], ◌∷◌, Option, Some, None, refl, sym, subst, arith}
use Rattle.sector_disk.specs.Disk.{Image}
use Rattle.slot_gate.specs.Slot.{slot_at}
use Rattle.job_journal.specs.Areas.{AllUnsealed, IsPrefix, sealed_prefix, slots_from}
use Rattle.store_console.specs.Findings.{first_sealed, sealed_behind, sealed_past}

-- of slots of which none is sealed no one is the first
none_first : (sector : ℕ) (slots : List (Option (List ℕ))) → (first_sealed sector slots ≡ None) ↔ AllUnsealed slots
none_first sector [] = (λ none. tt, λ all. refl)
none_first sector (None ∷ slots) = none_first (sector + 2) slots
none_first sector (Some body ∷ slots) = (λ none. absurd cc, λ no. absurd no)

-- by the first slot
by_slot : (n : ℕ) (image : Image) (at : ℕ) (slot : Option (List ℕ)) → slot_at image at ≡ slot
    → ((sealed_behind n image (at + 2) ≡ None) ↔ IsPrefix (slots_from image (at + 2) n))
    → (sealed_past (suc n) image at (length (sealed_prefix (slot ∷ slots_from image (at + 2) n)))
    ≡ None) ↔ IsPrefix (slot ∷ slots_from image (at + 2) n)
by_slot n image at None is later =
    let rest = slots_from image (at + 2) n in
    let here : (first_sealed at (slots_from image at (suc n)) ≡ None) ↔ AllUnsealed rest =
    subst (λ s. (first_sealed at (s ∷ rest) ≡ None) ↔ AllUnsealed rest) (sym is) (none_first (at + 2) rest) in
    let place : at ≡ at + 2 * 0 = omega arith in
    let count : suc n ≡ suc n - 0 = omega arith in
    subst (λ a. (first_sealed a (slots_from image a (suc n - 0)) ≡ None) ↔ AllUnsealed rest) place
    (subst (λ left. (first_sealed at (slots_from image at left) ≡ None) ↔ AllUnsealed rest) count here)
by_slot n image at (Some body) is later =
    let rest = slots_from image (at + 2) n in
    let used = length (sealed_prefix rest) in
    let place : at + 2 + 2 * used ≡ at + 2 * suc used = omega arith in
    let count : n - used ≡ suc n - suc used = omega arith in
    subst (λ a. (first_sealed a (slots_from image a (suc n - suc used)) ≡ None) ↔ IsPrefix rest) place
    (subst (λ left. (first_sealed (at + 2 + 2 * used) (slots_from image (at + 2 + 2 * used) left) ≡ None) ↔ IsPrefix rest) count later)

pub silent : (slots : ℕ) (image : Image) (first : ℕ) → (sealed_behind slots image first ≡ None) ↔ IsPrefix (slots_from image first slots)
silent zero image first = (λ none. tt, λ prefix. refl)
silent (suc n) image first = by_slot n image first (slot_at image first) refl (silent n image (first + 2))
