-- How the notes of a disk in memory lead back to what it held.
use Rattle.std.specs.Prelude.{◌≡◌, ℕ, ◌-◌, List, [], ◌∷◌, ◌++◌, length, set, get_or, take, replicate, Bool, false, IsTrue, IsFalse}
use Rattle.sector_disk.specs.Disk.{Image, sector_at}
use Rattle.sector_disk.specs.Memory.{Span, was_written}
use Rattle.sector_disk.specs.declared.overwritten.Overwritten.{Overwritten}

-- the sector of which these are the bytes without its last zeros
abbrev pub whole : List ℕ → List ℕ
whole bytes = take 512 bytes ++ replicate (512 - length bytes) 0

-- the second one, where it has bytes
abbrev pub last_of : List ℕ → List ℕ → List ℕ
last_of short [] = short
last_of short (byte ∷ bytes) = byte ∷ bytes

-- what a sector held
abbrev pub was_of : Overwritten → List ℕ
was_of note = whole (last_of note.short note.long.items)

-- the sectors before these writes, the first of them first
abbrev pub undone : List Overwritten → Image → Image
undone [] sectors = sectors
undone (note ∷ notes) sectors = set (undone notes sectors) note.at (was_of note)

-- the sectors that were written
abbrev pub touched : List Overwritten → List ℕ
touched [] = []
touched (note ∷ notes) = note.at ∷ touched notes

abbrev pub has_touched : List Overwritten → ℕ → Bool
has_touched notes at = was_written (touched notes) at

-- the sectors before the writes of these times, the first of them first
abbrev pub before : List (List Overwritten) → Image → Image
before [] sectors = sectors
before (notes ∷ more) sectors = undone notes (before more sectors)

-- the times that ended where these sectors stand: each ended where the next one began
abbrev pub spans_of : List (List Overwritten) → Image → List Span
spans_of [] sectors = []
spans_of (notes ∷ more) sectors = record { contents = before more sectors; written = touched notes } ∷ spans_of more sectors

-- A note is added: what a sector holds, so that a write to it can be undone.
pub record AddsNote (sectors : Image) (at : ℕ) (old new : List Overwritten) : Type 0 where
  pub note : Overwritten
  pub added : new ≡ old ++ note ∷ []
  pub here : note.at ≡ at
  pub was : was_of note ≡ sector_at sectors at

-- There is a note for an unsynced sector, and for no other one; but where a write failed there may be none.
pub record IsNoted (sectors : Image) (unsynced : List Bool) (notes : List Overwritten) (torn : Bool) : Type 0 where
  pub size : length unsynced ≡ length sectors
  pub no_other : (at : ℕ) → IsTrue (has_touched notes at) → IsTrue (get_or unsynced at false)
  pub noted : IsFalse torn → (at : ℕ) → IsTrue (get_or unsynced at false) → IsTrue (has_touched notes at)

-- A time has ended: its notes name the same sectors, and back to the same contents, as those of before.
pub record EndsTime (sectors : Image) (unsynced : List Bool) (notes : List Overwritten) (old new : List (List Overwritten)) : Type 0 where
  pub ended : List Overwritten
  pub added : new ≡ old ++ ended ∷ []
  pub back : undone ended sectors ≡ undone notes sectors
  pub took : (at : ℕ) → has_touched ended at ≡ get_or unsynced at false

-- Nothing was unsynced, so no time has ended.
pub record EndsNothing (unsynced : List Bool) (old new : List (List Overwritten)) : Type 0 where
  pub none : (at : ℕ) → IsFalse (get_or unsynced at false)
  pub same : new ≡ old
