-- The value of a disk in memory after each call.
use Rattle.std.proofs.Common.{◌≡◌, ◌<◌, ◌+◌, ◌*◌, ⊎_elim, ℕ, List, [], ◌∷◌, ◌++◌, ◌==◌, Bool, true, false, if◌then◌else◌, IsTrue, IsFalse}
use Rattle.std.proofs.Common.{Option, None, length, get_or, set, take, drop, count_by, replicate, sym, ◌∙◌, ap, subst, refl, arith}
use Rattle.std.proofs.lemmas.List.{length-set, get_or-set_other, get_or-replicate, get_or_past, length-replicate, drop-drop}
use Rattle.std.proofs.lemmas.List.Sums.{count_by_more_yes}
use Rattle.std.proofs.lemmas.Bool.Decides.{eqb_tells}
use Rattle.std.proofs.lemmas.Bool.{cases_lt, false≢true, or_left}
use Rattle.sector_disk.specs.Disk.{Image, IsImage, Touches, sector_at, nothing}
use Rattle.sector_disk.specs.Memory.{Memory, state_of, spent, all_synced}
use Rattle.sector_disk.specs.Crash.{IsCrashed, fill_at, filled, torn_at}
use Rattle.sector_disk.specs.Undo.{AddsNote, EndsTime, EndsNothing, IsNoted, undone, spans_of, touched, has_touched}
use Rattle.sector_disk.specs.Moments.{writes, syncs, stays}
use Rattle.sector_disk.specs.declared.overwritten.Overwritten.{Overwritten}
use Rattle.sector_disk.proofs.Undoing.{all_false, eqb_same, undone-written, undone_elsewhere, length-undone, spans_of-append}

-- what contracts see of these fields
abbrev pub seen : Image → List Bool → List Overwritten → List (List Overwritten) → ℕ → Option ℕ → Memory
seen sectors unsynced notes spans failures left = record {
  contents = sectors;
  synced = undone notes sectors;
  unsynced = unsynced;
  spans = spans_of spans (undone notes sectors);
  failures = failures;
  left = left;
}

pub written : (sectors : Image) (unsynced : List Bool) (old new : List Overwritten) (spans : List (List Overwritten)) (failures at : ℕ)
    (bytes : List ℕ) (left more : Option ℕ)
    → AddsNote sectors at old new → more ≡ spent left
    → seen (set sectors at bytes) (set unsynced at true) new spans failures more
    ≡ record (seen sectors unsynced old spans failures left) {
      contents = set sectors at bytes;
      unsynced = set unsynced at true;
      left =
          spent left;
    }
written sectors unsynced old new spans failures at bytes left more adds counted =
    ap (λ m. after (undone new (set sectors at bytes)) m) counted
    ∙ ap (λ s. after s (spent left)) (undone-written sectors (set sectors at bytes) at bytes old new adds refl)
  where
    after : Image → Option ℕ → Memory
    after synced n = record {
      contents = set sectors at bytes;
      synced = synced;
      unsynced = set unsynced at true;
      spans =
          spans_of spans synced;
      failures = failures;
      left = n;
    }

-- a write, seen by the images that a crash may leave
pub write_touches : (m : Memory) (at : ℕ) (bytes : List ℕ) (left : Option ℕ) → at < length m.unsynced
    → Touches (λ k. k ≡ at) (state_of m) (state_of (record m {
      contents = set m.contents at bytes;
      unsynced = set m.unsynced at true;
      left =
          left;
    }))
write_touches m at bytes left on =
    writes m (record m { contents = set m.contents at bytes; unsynced = set m.unsynced at true; left = left }) at on
    (record { size = length-set m.contents at bytes; same = λ k other. get_or-set_other m.contents at k bytes [] other }) refl refl

pub none_unsynced : (n at : ℕ) → get_or (replicate n false) at false ≡ false
none_unsynced n at = ⊎_elim
    (λ on. get_or-replicate n at false false on)
    (λ off. get_or_past (replicate n false) at false (simp length-replicate off))
    (cases_lt at n)

pub sync_touches : (sectors : Image) (unsynced now : List Bool) (old new : List Overwritten) (spans more : List (List Overwritten))
    (failures : ℕ) (left after : Option ℕ) (n : ℕ)
    → EndsTime sectors unsynced old spans more → new ≡ [] → now ≡ replicate n false
    → Touches nothing (state_of (seen sectors unsynced old spans failures left)) (state_of (seen sectors now new more failures after))
sync_touches sectors unsynced now old new spans more failures left after n ends begun synced =
    syncs (seen sectors unsynced old spans failures left) (seen sectors now new more failures after)
    (record { contents = sectors; written = touched ends.ended })
    refl
    (λ at. ap (λ l. get_or l at false) synced ∙ none_unsynced n at)
    (ap (λ l. spans_of more (undone l sectors)) begun
    ∙ ap (λ l. spans_of l sectors) ends.added
    ∙ spans_of-append spans ends.ended sectors
    ∙ ap (λ s. spans_of spans s ++ (record { contents = sectors; written = touched ends.ended }) ∷ []) ends.back)
    refl
    (λ at. ends.took at)

pub all_are_synced : (unsynced : List Bool) → ((at : ℕ) → IsFalse (get_or unsynced at false)) → unsynced ≡ replicate (length unsynced) false
all_are_synced unsynced none = all_false unsynced (λ at is. false≢true (sym (none at) ∙ is))

pub no_notes : (sectors : Image) (unsynced : List Bool) (notes : List Overwritten) (is_torn : Bool) → IsNoted sectors unsynced notes is_torn
    → ((at : ℕ) → IsFalse (get_or unsynced at false)) → notes ≡ []
no_notes sectors unsynced [] is_torn noted none = refl
no_notes sectors unsynced (note ∷ notes) is_torn noted none =
    absurd (false≢true (sym (none note.at) ∙ noted.no_other note.at
    (or_left (note.at == note.at) (has_touched notes note.at) (eqb_same note.at))))

pub no_items : (notes : List Overwritten) → (length notes == 0) ≡ true → notes ≡ []
no_items [] is = refl
no_items (note ∷ notes) is =
    ⊎_elim (λ h. absurd (omega (arith, h.1))) (λ h. absurd (false≢true (sym h.0 ∙ is))) (eqb_tells (length (note ∷ notes)) 0)

unless : (b : Bool) → (IsTrue b → ⊥) → IsFalse b
unless true no_such = absurd (no_such refl)
unless false no_such = refl

-- where each unsynced sector has a note and there is no note, nothing is unsynced
pub none_flagged : (sectors : Image) (unsynced : List Bool) (notes : List Overwritten) (is_torn : Bool)
    → IsNoted sectors unsynced notes is_torn → IsFalse is_torn → notes ≡ []
    → (at : ℕ) → IsFalse (get_or unsynced at false)
none_flagged sectors unsynced notes is_torn noted untorn none at =
    unless (get_or unsynced at false) (λ yes. false≢true (subst (λ l. IsTrue (has_touched l at)) none (noted.noted untorn at yes)))

-- a sync where nothing was unsynced
pub idle_touches : (sectors : Image) (unsynced now : List Bool) (old new : List Overwritten) (spans more : List (List Overwritten))
    (failures : ℕ) (left after : Option ℕ) (is_torn : Bool)
    → IsNoted sectors unsynced old is_torn → EndsNothing unsynced spans more → new ≡ [] → now ≡ replicate (length unsynced) false
    → Touches nothing (state_of (seen sectors unsynced old spans failures left)) (state_of (seen sectors now new more failures after))
idle_touches sectors unsynced now old new spans more failures left after is_torn noted ends begun synced =
    subst (λ (u : List Bool). Touches nothing (state_of (seen sectors unsynced old spans failures left))
    (state_of (seen sectors u new more failures after)))
    (all_are_synced unsynced ends.none ∙ sym synced)
    (stays nothing (seen sectors unsynced old spans failures left) (seen sectors unsynced new more failures after) refl refl
    (ap (λ l. spans_of l (undone new sectors)) ends.same ∙ ap (λ l. spans_of spans (undone l sectors)) (begun
    ∙ sym (no_notes sectors unsynced old is_torn noted ends.none))))

-- the bytes that are left after a sector took its own
pub fill_after : (unsynced : List Bool) (fill : List ℕ) (at : ℕ) → at < length unsynced → IsTrue (get_or unsynced at false)
    → drop 512 (fill_at unsynced at fill) ≡ fill_at unsynced (at + 1) fill
fill_after unsynced fill at on is =
    let count = count_by (λ u. u) (take at unsynced) in
    let more : count_by (λ u. u) (take (at + 1) unsynced) ≡ count + 1 = count_by_more_yes (λ u. u) unsynced at false on is in
    let bytes : 512 * count + 512 ≡ 512 * count_by (λ u. u) (take (at + 1) unsynced) = omega (arith, more) in
    drop-drop 512 (512 * count) fill ∙ ap (λ n. drop n fill) bytes

pub torn_yes : (unsynced : List Bool) (fill sector : List ℕ) (at : ℕ) → IsTrue (get_or unsynced at false)
    → torn_at unsynced fill at sector ≡ filled (fill_at unsynced at fill) sector
torn_yes unsynced fill sector at is = ap (λ b. if b then filled (fill_at unsynced at fill) sector else sector) is

pub torn_no : (unsynced : List Bool) (fill sector : List ℕ) (at : ℕ) → IsFalse (get_or unsynced at false)
    → torn_at unsynced fill at sector ≡ sector
torn_no unsynced fill sector at is = ap (λ b. if b then filled (fill_at unsynced at fill) sector else sector) is

-- the sectors before the unsynced writes, with the fill over those that were written
pub crashed : (sectors filled_in : Image) (unsynced : List Bool) (notes : List Overwritten) (spans : List (List Overwritten)) (failures : ℕ)
    (left : Option ℕ) (is_torn : Bool) (fill : List ℕ)
    → IsNoted sectors unsynced notes is_torn → length filled_in ≡ length sectors
    → ((at : ℕ) → at < length (undone notes sectors) → sector_at filled_in at
    ≡ torn_at unsynced fill at (sector_at (undone notes sectors) at))
    → IsCrashed (seen sectors unsynced notes spans failures left) fill filled_in
crashed sectors filled_in unsynced notes spans failures left is_torn fill noted size tears = record {
  size = size;
  unsynced = λ at on is. tears at (omega (arith, on, length-undone notes sectors))
      ∙ torn_yes unsynced fill (sector_at (undone notes sectors) at) at is;
  synced = λ at is. ⊎_elim
      (λ on. tears at (omega (arith, on, length-undone notes sectors))
      ∙ torn_no unsynced fill (sector_at (undone notes sectors) at) at is
      ∙ undone_elsewhere notes sectors at (unless (has_touched notes at) (λ yes. false≢true (sym is ∙ noted.no_other at yes))))
      (λ off. get_or_past filled_in at [] (omega (arith, off, size)) ∙ sym (get_or_past sectors at [] off))
      (cases_lt at (length sectors));
}

-- what a crash leaves is one of the images that it might have left
pub crash_left : (m : Memory) (fill : List ℕ) (image : Image) → IsCrashed m fill image → IsImage (state_of m) image
crash_left m fill image is = record { size = is.size; same = is.synced }

pub begun_anew : (sectors : Image) (unsynced : List Bool) (notes : List Overwritten) (spans : List (List Overwritten)) (failures n : ℕ)
    → notes ≡ [] → spans ≡ [] → unsynced ≡ replicate n false → n ≡ length sectors
    → seen sectors unsynced notes spans failures None ≡ all_synced sectors failures
begun_anew sectors unsynced notes spans failures n no_notes no_spans synced size =
    ap (λ l. seen sectors unsynced l spans failures None) no_notes
    ∙ ap (λ l. seen sectors unsynced [] l failures None) no_spans
    ∙ ap (λ u. seen sectors u [] [] failures None) (synced ∙ ap (λ k. replicate k false) size)

pub none_noted : (sectors : Image) (unsynced : List Bool) (notes : List Overwritten) (n : ℕ) → notes ≡ [] → unsynced ≡ replicate n false
    → n ≡ length sectors → IsNoted sectors unsynced notes false
none_noted sectors unsynced notes n no_notes synced size = record {
  size = ap length synced ∙ length-replicate n false ∙ size;
  no_other = λ at touched. absurd (false≢true (subst (λ l. IsTrue (has_touched l at)) no_notes touched));
  noted = λ _ at flagged. absurd (false≢true (sym (ap (λ l. get_or l at false) synced ∙ none_unsynced n at) ∙ flagged));
}
