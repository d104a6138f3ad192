-- What a disk of sectors holds, what a crash may leave of it, and what each call changes.
use Rattle.std.specs.Prelude.{◌<◌, ◌≡◌, ◌⊎◌, ℕ, ◌-◌, ◌^◌, ◌≤◌, List, [], length, get_or, Bool, Option, Some, None}

-- a list of sectors, each a list of bytes
abbrev pub Image : Type 0
Image = List (List ℕ)

abbrev pub sector_at : Image → ℕ → List ℕ
sector_at image at = get_or image at []

-- What a contract knows of a disk.
pub record DiskState : Type 1 where
  -- how many sectors it has
  pub sectors : ℕ
  -- how many of its calls have failed
  pub failures : ℕ
  -- how many calls still pass, where it was armed to fail behind them
  pub armed : Option ℕ
  -- whether it keeps to the model of a disk
  pub honest : Bool
  -- what reads give
  pub contents : Image
  -- the sectors that nothing was written to since the last sync
  pub synced : ℕ → Type 0
  -- a number that doesn't fall
  pub moment : ℕ
  -- the images that a crash at some moment from that one on might have left
  pub left_since : ℕ → Image → Type 0

-- An image of these contents has as many sectors, and each synced one as it is there. An unsynced one may hold any
-- bytes: on a disk 512 of them, but a claim on each image needs no such premise, and is the stronger without it.
pub record IsImageOf (contents : Image) (synced : ℕ → Type 0) (image : Image) : Type 0 where
  pub size : length image ≡ length contents
  pub same : (at : ℕ) → synced at → sector_at image at ≡ sector_at contents at

-- what a crash now may leave
abbrev pub IsImage : DiskState → Image → Type 0
IsImage disk image = IsImageOf disk.contents disk.synced image

-- Time goes on: a crash since t might have left what it might have left before the call, or what it may leave now.
pub record Elapses (old new : DiskState) : Type 0 where
  pub later : old.moment ≤ new.moment
  pub nothing_else : (t : ℕ) (c : Image) → t ≤ old.moment → new.left_since t c → old.left_since t c ⊎ IsImage new c
  pub keeps : (t : ℕ) (c : Image) → t ≤ old.moment → old.left_since t c → new.left_since t c

-- two images differ at these sectors at most
pub record SameBut (touched : ℕ → Type 0) (old new : Image) : Type 0 where
  pub size : length new ≡ length old
  pub same : (at : ℕ) → (touched at → ⊥) → sector_at new at ≡ sector_at old at

-- A call that answers writes nothing to the other sectors.
pub record Touches (touched : ℕ → Type 0) (old new : DiskState) : Type 0 where
  pub contents : SameBut touched old.contents new.contents
  pub synced : (at : ℕ) → (touched at → ⊥) → old.synced at → new.synced at
  pub time : Elapses old new

-- no more calls pass than before, and where none was to fail none is
abbrev pub NoMorePass : Option ℕ → Option ℕ → Type 0
NoMorePass None now = now ≡ None
NoMorePass (Some was) None = ⊥
NoMorePass (Some was) (Some now) = now ≤ was

-- A call that answers Ok leaves the count of failures as it is, and answers `Device` only where it rose, or stands at its greatest value.
-- None arms the disk.
pub record Counts (old new : DiskState) (failed done : Type 0) : Type 0 where
  pub sectors : new.sectors ≡ old.sectors
  pub honest : new.honest ≡ old.honest
  pub arms : NoMorePass old.armed new.armed
  pub later : old.failures ≤ new.failures
  pub unchanged : done → new.failures ≡ old.failures
  pub cause : failed → (old.failures < new.failures) ⊎ (new.failures ≡ 2 ^ 64 - 1)

abbrev pub nothing : ℕ → Type 0
nothing _ = ⊥

abbrev pub AllSynced : DiskState → Type 0
AllSynced disk = (at : ℕ) → disk.synced at

-- What holds of an honest disk at each moment.
pub record Laws (disk : DiskState) : Type 0 where
  -- there are contents for each sector
  pub has_all : length disk.contents ≡ disk.sectors
  -- this moment is one of those since an earlier one
  pub counts_now : (t : ℕ) (c : Image) → t ≤ disk.moment → IsImage disk c → disk.left_since t c
  -- since an earlier moment there are more
  pub earlier : (s t : ℕ) (c : Image) → s ≤ t → disk.left_since t c → disk.left_since s c
  -- since this moment there is no other
  pub only_now : (c : Image) → disk.left_since disk.moment c → IsImage disk c
