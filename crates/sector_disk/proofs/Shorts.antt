-- Sectors that are zeros behind their first bytes.
use Rattle.std.proofs.Common.{◌≡◌, ◌<◌, ◌≤◌, ◌+◌, ◌-◌, ℕ, Bool, true, false, List, [], ◌++◌, drop, length, get_or, replicate, set}
use Rattle.std.proofs.Common.{slice_get, take, Some, inl, inr, refl, sym, ap, ◌∙◌, subst, arith, length-append}
use Rattle.std.proofs.lemmas.Bool.{cases_eq, cases_lt, false≢true}
use Rattle.std.proofs.lemmas.List.{get_or-append_right, get_or-replicate, get_or-set_other, get_or-set_same, get_or_append_left}
use Rattle.std.proofs.lemmas.List.{get_or_past, length-replicate, length-set, take-append-drop}
use Rattle.std.proofs.lemmas.Option.{get_or_from_slice_get, slice_get-get_or, slice_get_within}
use Rattle.sector_disk.proofs.Paddings.{is_kept}
use Rattle.sector_disk.specs.Shorts.{AreShort, IsShort}

-- those that are kept more are zeros
pub short_more : (kept now : List (List ℕ)) (short : List Bool) (k : ℕ) → AreShort kept short → now ≡ kept ++ replicate k (replicate 512 0)
    → AreShort now short
short_more kept now short k are is = λ at flagged.
    let zeros : List ℕ = replicate 512 0 in
    let on_is : get_or now at [] ≡ get_or (kept ++ replicate k zeros) at [] = ap (λ (l : List (List ℕ)). get_or l at []) is in
    elim (cases_lt at (length kept)) [
      | inl on ↦ subst (λ (s : List ℕ). IsShort s) (sym (on_is ∙ get_or_append_left kept (replicate k zeros) [] at on)) (are at flagged)
      | inr off ↦ elim (cases_lt (at - length kept) k) [
        | inl more ↦ subst (λ (s : List ℕ). IsShort s) (sym (on_is
            ∙ get_or-append_right kept (replicate k zeros) (length kept) at [] refl off
            ∙ get_or-replicate k (at - length kept) zeros [] more)) refl
        | inr past ↦ (
            let long : length (kept ++ replicate k zeros) ≤ at = omega (
              arith,
              off,
              past,
              length-append kept (replicate k zeros),
              length-replicate k zeros,
            ) in
            subst (λ (s : List ℕ). IsShort s) (sym (on_is ∙ get_or_past (kept ++ replicate k zeros) at [] long)) refl)
      ]
    ]

-- a sector that is said to be short only where it is
pub short_set : (kept : List (List ℕ)) (short : List Bool) (at : ℕ) (sector : List ℕ) (flag : Bool) → AreShort kept short → at < length kept
    → at < length short → (flag ≡ true → IsShort sector) → AreShort (set kept at sector) (set short at flag)
short_set kept short at sector flag are on within is = λ k flagged. elim (cases_eq k at) [
  | inl same ↦ (
      let own : flag ≡ true =
      sym (get_or-set_same short at flag false within) ∙ ap (λ (i : ℕ). get_or (set short at flag) i false) (sym same)
      ∙ get_or_from_slice_get (set short at flag) k true false flagged in
      subst (λ (s : List ℕ). IsShort s) (sym (ap (λ (i : ℕ). get_or (set kept at sector) i []) same ∙ get_or-set_same kept at sector [] on))
      (is own))
  | inr other ↦ (
      let lt = slice_get_within (set short at flag) k true flagged in
      let was : slice_get short k ≡ Some true =
      slice_get-get_or short k false (omega (arith, lt, length-set short at flag))
      ∙ ap (λ (b : Bool). Some b) (sym (get_or-set_other short at k flag false other)
      ∙ get_or_from_slice_get (set short at flag) k true false flagged) in
      subst (λ (s : List ℕ). IsShort s) (sym (get_or-set_other kept at k sector [] other)) (are k was))
]

-- of none it is said
pub short_none : (count : ℕ) → AreShort [] (replicate count false)
short_none count = λ at flagged.
    let lt = slice_get_within (replicate count false) at true flagged in
    absurd (false≢true (sym (get_or-replicate count at false false (omega (arith, lt, length-replicate count false)))
    ∙ get_or_from_slice_get (replicate count false) at true false flagged))

-- the first bytes of one before those of another that is short, too
pub short_put : (old new : List ℕ) → length old ≡ 512 → length new ≡ 512 → IsShort old → IsShort new → take 32 new ++ drop 32 old ≡ new
short_put old new size other was is =
    ap (λ (rest : List ℕ). take 32 new ++ rest) (was ∙ ap (λ (n : ℕ). replicate (n - 32) 0) (size ∙ sym other) ∙ sym is)
    ∙ take-append-drop 32 new

-- one of them is written, once those up to it are kept
pub room_set : (kept now : List (List ℕ)) (short : List Bool) (count at capacity more : ℕ) (sector : List ℕ) (flag : Bool)
    → length kept ≤ count → count ≤ capacity → length short ≡ count → AreShort kept short → at < count
    → now ≡ kept ++ replicate (at + 1 - length kept) (replicate 512 0) → more ≡ capacity → (flag ≡ true → IsShort sector)
    → (length (set now at sector) ≤ count) × (count ≤ more) × (length (set short at flag) ≡ count)
    × AreShort (set now at sector) (set short at flag)
room_set kept now short count at capacity more sector flag fits room flags are on is same own =
    let zeros : List ℕ = replicate 512 0 in
    let long : length now ≡ length kept + (at + 1 - length kept) =
    ap length is ∙ length-append kept (replicate (at + 1 - length kept) zeros)
    ∙ ap (λ k. length kept + k) (length-replicate (at + 1 - length kept) zeros) in (
      omega (arith, long, fits, on, length-set now at sector),
      omega (arith, room, same),
      length-set short at flag ∙ flags,
      short_set now short at sector flag (short_more kept now short (at + 1 - length kept) are is) (is_kept kept now at is)
          (omega (arith, on, flags)) own,
    )
