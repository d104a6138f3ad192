-- How notes lead back to what was there before.
use Rattle.std.proofs.Common.{◌≡◌, ◌≢◌, ◌<◌, ◌⊎◌, ⊎_elim, inl, inr, ℕ, List, [], ◌∷◌, ◌++◌, Bool, true, false, ◌==◌, ◌||◌, IsTrue, IsFalse}
use Rattle.std.proofs.Common.{length, get_or, set, replicate, suc, sym, ◌∙◌, ap, subst, refl, arith}
use Rattle.std.proofs.lemmas.List.{set-set, set-get_or, get_or-set_same, get_or-set_other, length-set}
use Rattle.std.proofs.lemmas.Bool.Decides.{eqb_tells}
use Rattle.std.proofs.lemmas.Bool.{false≢true, or_left, or_right}
use Rattle.sector_disk.specs.Disk.{Image, sector_at}
use Rattle.sector_disk.specs.Memory.{Span}
use Rattle.sector_disk.specs.Undo.{AddsNote, EndsTime, IsNoted, before, spans_of, undone, touched, has_touched, was_of}
use Rattle.sector_disk.specs.declared.overwritten.Overwritten.{Overwritten}

pub undone-append : (xs ys : List Overwritten) (sectors : Image) → undone (xs ++ ys) sectors ≡ undone xs (undone ys sectors)
undone-append [] ys sectors = refl
undone-append (note ∷ xs) ys sectors = ap (λ s. set s note.at (was_of note)) (undone-append xs ys sectors)

pub has_touched-append : (xs ys : List Overwritten) (at : ℕ) → has_touched (xs ++ ys) at ≡ has_touched xs at || has_touched ys at
has_touched-append [] ys at = refl
has_touched-append (note ∷ xs) ys at = or_more (at == note.at) (has_touched xs at) (has_touched ys at) (has_touched (xs ++ ys) at)
    (has_touched-append xs ys at)
  where
    or_more : (a b c d : Bool) → d ≡ b || c → (a || d) ≡ (a || b) || c
    or_more true b c d e = refl
    or_more false b c d e = e

pub length-undone : (notes : List Overwritten) (sectors : Image) → length (undone notes sectors) ≡ length sectors
length-undone [] sectors = refl
length-undone (note ∷ notes) sectors = length-set (undone notes sectors) note.at (was_of note) ∙ length-undone notes sectors

pub same_or_not : (m n : ℕ) → (m ≡ n) ⊎ (m ≢ n)
same_or_not m n = ⊎_elim (λ h. inl h.1) (λ h. inr h.1) (eqb_tells m n)

neither : (a b : Bool) → a || b ≡ false → (a ≡ false) × (b ≡ false)
neither true b e = absurd (false≢true (sym e))
neither false b e = (refl, e)

-- a sector with no note is as it was
pub undone_elsewhere : (notes : List Overwritten) (sectors : Image) (at : ℕ) → IsFalse (has_touched notes at)
    → sector_at (undone notes sectors) at ≡ sector_at sectors at
undone_elsewhere [] sectors at untouched = refl
undone_elsewhere (note ∷ notes) sectors at untouched =
    let both = neither (at == note.at) (has_touched notes at) untouched in
    ⊎_elim
    (λ h. absurd (false≢true (sym both.0 ∙ h.0)))
    (λ h. get_or-set_other (undone notes sectors) note.at at (was_of note) [] h.1 ∙ undone_elsewhere notes sectors at both.1)
    (eqb_tells at note.at)

-- one more write whose note has what was there
pub undone_more : (notes : List Overwritten) (note : Overwritten) (old new : Image) (at : ℕ) (bytes : List ℕ) → note.at ≡ at
    → was_of note ≡ get_or old at [] → new ≡ set old at bytes → undone (notes ++ note ∷ []) new ≡ undone notes old
undone_more notes note old new at bytes here was is =
    undone-append notes (note ∷ []) new
    ∙ ap (undone notes)
    (ap (λ k. set new k (was_of note)) here
    ∙ ap (λ w. set new at w) was
    ∙ ap (λ s. set s at (get_or old at [])) is
    ∙ set-set old at bytes (get_or old at [])
    ∙ set-get_or old at [])

-- a note alone leads back to the same
pub undone-noted : (sectors : Image) (at : ℕ) (old new : List Overwritten) → AddsNote sectors at old new
    → undone new sectors ≡ undone old sectors
undone-noted sectors at old new adds =
    ap (λ l. undone l sectors) adds.added
    ∙ undone_more old adds.note sectors sectors at (get_or sectors at []) adds.here adds.was (sym (set-get_or sectors at []))

-- a note, and then the write
pub undone-written : (sectors written : Image) (at : ℕ) (bytes : List ℕ) (old new : List Overwritten) → AddsNote sectors at old new
    → written ≡ set sectors at bytes → undone new written ≡ undone old sectors
undone-written sectors written at bytes old new adds is =
    ap (λ l. undone l written) adds.added
    ∙ undone_more old adds.note sectors written at bytes adds.here adds.was is

has_touched-noted : (sectors : Image) (at : ℕ) (old new : List Overwritten) (k : ℕ) → AddsNote sectors at old new
    → has_touched new k ≡ has_touched old k || (k == at || false)
has_touched-noted sectors at old new k adds =
    ap (λ l. has_touched l k) adds.added
    ∙ has_touched-append old (adds.note ∷ []) k
    ∙ ap (λ n. has_touched old k || (k == n || false)) adds.here

pub eqb_same : (n : ℕ) → (n == n) ≡ true
eqb_same n = ⊎_elim (λ h. h.0) (λ h. absurd (h.1 refl)) (eqb_tells n n)

-- the sector of a note is one, and those of before still are
pub touched_here : (sectors : Image) (at : ℕ) (old new : List Overwritten) → AddsNote sectors at old new → IsTrue (has_touched new at)
touched_here sectors at old new adds =
    has_touched-noted sectors at old new at adds ∙ or_right (has_touched old at) (at == at || false)
    (or_left (at == at) false (eqb_same at))

pub touched_before : (sectors : Image) (at : ℕ) (old new : List Overwritten) (k : ℕ) → AddsNote sectors at old new
    → IsTrue (has_touched old k) → IsTrue (has_touched new k)
touched_before sectors at old new k adds was =
    has_touched-noted sectors at old new k adds ∙ or_left (has_touched old k) (k == at || false) was

-- and there is no other one
pub touched_either : (sectors : Image) (at : ℕ) (old new : List Overwritten) (k : ℕ) → AddsNote sectors at old new
    → IsTrue (has_touched new k) → IsTrue (has_touched old k) ⊎ (k ≡ at)
touched_either sectors at old new k adds now =
    ⊎_elim
    (λ h. inr h.1)
    (λ h. inl (one_of_three (has_touched old k) (k == at) h.0 (sym (has_touched-noted sectors at old new k adds) ∙ now)))
    (eqb_tells k at)
  where
    one_of_three : (a b : Bool) → b ≡ false → (a || (b || false)) ≡ true → a ≡ true
    one_of_three true b not_b some = refl
    one_of_three false b not_b some = absurd (false≢true (sym (ap (λ x. x || false) not_b) ∙ some))

pub all_false : (flags : List Bool) → ((at : ℕ) → IsTrue (get_or flags at false) → ⊥) → flags ≡ replicate (length flags) false
all_false [] none = refl
all_false (true ∷ flags) none = absurd (none 0 refl)
all_false (false ∷ flags) none = ap (λ (l : List Bool). false ∷ l) (all_false flags (λ at is. none (suc at) is))

same_test : (a b : Bool) → (IsTrue a → IsTrue b) → (IsTrue b → IsTrue a) → a ≡ b
same_test true b to from = sym (to refl)
same_test false true to from = absurd (false≢true (from refl))
same_test false false to from = refl

-- the notes of a time that ends
pub ends_time : (sectors : Image) (unsynced : List Bool) (notes : List Overwritten) (ended : List Overwritten)
    (old new : List (List Overwritten))
    → new ≡ old ++ ended ∷ [] → undone ended sectors ≡ undone notes sectors
    → ((at : ℕ) → IsTrue (has_touched ended at) → IsTrue (get_or unsynced at false))
    → ((at : ℕ) → IsTrue (get_or unsynced at false) → IsTrue (has_touched ended at))
    → EndsTime sectors unsynced notes old new
ends_time sectors unsynced notes ended old new added back no_other all =
    record { ended = ended; added = added; back = back; took = λ at. same_test _ _ (no_other at) (all at) }

-- a sector that is noted and written counts as unsynced from then on
pub noted_and_written : (sectors written : Image) (unsynced : List Bool) (torn : Bool) (at : ℕ) (bytes : List ℕ)
    (old new : List Overwritten) → at < length sectors
    → written ≡ set sectors at bytes → AddsNote sectors at old new → IsNoted sectors unsynced old torn
    → IsNoted written (set unsynced at true) new torn
noted_and_written sectors written unsynced torn at bytes old new on is adds was = record {
  size = length-set unsynced at true ∙ was.size ∙ sym (ap length is ∙ length-set sectors at bytes);
  no_other = λ k touched. ⊎_elim
      (λ before. ⊎_elim
      (λ here. flag_here k here)
      (λ other. get_or-set_other unsynced at k true false other ∙ was.no_other k before)
      (same_or_not k at))
      (λ here. flag_here k here)
      (touched_either sectors at old new k adds touched);
  noted = λ untorn k flagged. ⊎_elim
      (λ here. subst (λ j. IsTrue (has_touched new j)) (sym here) (touched_here sectors at old new adds))
      (λ other. touched_before sectors at old new k adds (was.noted untorn k (sym (get_or-set_other unsynced at k true false other)
      ∙ flagged)))
      (same_or_not k at);
}
  where
    flag_here : (k : ℕ) → k ≡ at → IsTrue (get_or (set unsynced at true) k false)
    flag_here k here = ap (λ j. get_or (set unsynced at true) j false) here
        ∙ get_or-set_same unsynced at true false (omega (arith, on, was.size))

before-append : (spans : List (List Overwritten)) (ended : List Overwritten) (sectors : Image)
    → before (spans ++ ended ∷ []) sectors ≡ before spans (undone ended sectors)
before-append [] ended sectors = refl
before-append (notes ∷ spans) ended sectors = ap (undone notes) (before-append spans ended sectors)

-- the time that ended last ended where the sectors stand now
pub spans_of-append : (spans : List (List Overwritten)) (ended : List Overwritten) (sectors : Image)
    → spans_of (spans ++ ended ∷ []) sectors ≡ spans_of spans (undone ended sectors)
    ++ (record { contents = sectors; written = touched ended }) ∷ []
spans_of-append [] ended sectors = refl
spans_of-append (notes ∷ spans) ended sectors =
    ap (λ s. span_of s ∷ spans_of (spans ++ ended ∷ []) sectors) (before-append spans ended sectors)
    ∙ ap (λ (l : List Span). span_of (before spans (undone ended sectors)) ∷ l) (spans_of-append spans ended sectors)
  where
    span_of : Image → Span
    span_of s = record { contents = s; written = touched notes }
