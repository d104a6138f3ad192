-- A disk over a file as its contracts see it.
use Rattle.std.specs.Prelude.{ℕ, Bool, [], None, false, IsTrue}
use Rattle.std.proofs.lemmas.Bool.{false≢true}
use Rattle.sector_disk.specs.Disk.{DiskState, Laws, nothing}
use Rattle.file_disk.specs.declared.stride.Stride.{Stride}
use Rattle.file_disk.specs.declared.stride.Stride.TheVariants.{Packed, Spaced}

-- how many bytes of the file there are for each sector
abbrev pub bytes_of : Stride → ℕ
bytes_of Packed = 512
bytes_of Spaced = 4096

-- What a contract sees of a disk over a file: nothing of what the file holds.
pub record FileState : Type 0 where
  pub sectors : ℕ
  pub stride : Stride
  -- whether a write or a sync failed since the file was opened
  pub spent : Bool
  -- how many calls have failed
  pub failures : ℕ

-- No contract knows what a file does, so the disk isn't honest: nothing is said of what reads give, and no sector counts as synced.
abbrev pub state_of : FileState → DiskState
state_of disk = record {
  sectors = disk.sectors;
  failures = disk.failures;
  armed = None;
  honest = false;
  contents = [];
  synced = nothing;
  moment = 0;
  left_since = λ _ _. ⊥;
}

-- It owes no law.
pub laws : (disk : FileState) → IsTrue (state_of disk).honest → Laws (state_of disk)
laws disk honest = absurd (false≢true honest)

-- a disk of which no call has failed
abbrev pub unfailed : ℕ → Stride → FileState
unfailed sectors stride = record { sectors = sectors; stride = stride; spent = false; failures = 0 }
