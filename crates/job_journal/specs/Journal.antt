-- What an image stands for as a journal of jobs.
use Rattle.std.specs.Prelude.{◌≡◌, ◌⊎◌, ◌<◌, ◌≤◌, ℕ, ◌+◌, ◌*◌, Bool, false, List, Option, Some, None, is_none, if◌then◌else◌, IsTrue}
use Rattle.disk_layout.specs.Layout.{sectors_for}
use Rattle.sector_disk.specs.Disk.{Image, DiskState, IsImage}
use Rattle.sector_disk.specs.Run.{Each}
use Rattle.slot_gate.specs.Slot.{slot_at}
use Rattle.safe_cell.specs.Body.{body_value}
use Rattle.safe_cell.specs.Cell.{cell_at}
use Rattle.job_journal.specs.Jobs.{Jobs}
use Rattle.job_journal.specs.Readings.{Replay, Reads, Damage, replayed, fresh}
use Rattle.job_journal.specs.Areas.{slots_from, sealed_prefix, IsPrefix, area_of}

-- the journal of the area that begins at this sector
abbrev pub replay_from : ℕ → Image → ℕ → Replay
replay_from slots image first = replayed slots first (Reads fresh) (sealed_prefix (slots_from image first slots))

-- whether a sealed slot has a body that is none of a cell
abbrev pub is_damaged : Option (List ℕ) → Bool
is_damaged None = false
is_damaged (Some body) = is_none (body_value body)

-- the body sector of the first slot of a cell that is damaged
abbrev pub damage_of : ℕ → Option (List ℕ) → Option (List ℕ) → Option ℕ
damage_of at first second = if is_damaged first then Some at else (if is_damaged second then Some (at + 2) else None)

abbrev pub cell_damage : Image → ℕ → Option ℕ
cell_damage image at = damage_of at (slot_at image at) (slot_at image (at + 2))

-- by the damage of the area cell and the first sector of the present area
abbrev pub replay_by : ℕ → Image → Option ℕ → Option ℕ → Replay
replay_by slots image (Some sector) area = Damage sector
replay_by slots image None None = Damage 5
replay_by slots image None (Some first) = replay_from slots image first

-- the journal of an image: where the area cell names no area that is sector 5, the gate of its first slot
abbrev pub replay_in : ℕ → Image → Replay
replay_in slots image = replay_by slots image (cell_damage image 4) (area_of slots (cell_at image 4))

abbrev pub jobs_by : Replay → Option Jobs
jobs_by (Reads reading) = Some reading.jobs
jobs_by (Damage sector) = None

-- the jobs that an image stands for
abbrev pub jobs_in : ℕ → Image → Option Jobs
jobs_in slots image = jobs_by (replay_in slots image)

abbrev pub IsSoundArea : ℕ → Image → Option ℕ → Type 0
IsSoundArea slots image None = Unit {0}
IsSoundArea slots image (Some first) = IsPrefix (slots_from image first slots)

-- no gate of the present area past the journal's end is sealed; an image with no present area is sound
abbrev pub IsSoundImage : ℕ → Image → Type 0
IsSoundImage slots image = IsSoundArea slots image (area_of slots (cell_at image 4))

-- in no image is a gate of the present area past the journal's end sealed; a disk that isn't honest is sound
abbrev pub IsSound : ℕ → DiskState → Type 0
IsSound slots disk = IsTrue disk.honest → (image : Image) → IsImage disk image → IsSoundImage slots image

-- Each image since a change began stands for what is said, and on a sound disk it is sound.
pub record ImagesSince (slots : ℕ) (old new : DiskState) (Stands : Image → Type 0) : Type 0 where
  pub each : Each old new Stands
  pub sound : IsSound slots old → Each old new (IsSoundImage slots)

-- the sectors of the area cell and of both areas
abbrev pub InJournal : ℕ → ℕ → Type 0
InJournal slots at = (4 ≤ at) × (at < sectors_for slots)

-- the area cell of an image has this number, or the next one
abbrev pub IsNumbered : ℕ → Image → Type 0
IsNumbered number image = (cell_at image 4 ≡ Some number) ⊎ (cell_at image 4 ≡ Some (number + 1))

-- in each image that a crash now may leave, the area cell has at most this number
abbrev pub AllWithin : ℕ → DiskState → Type 0
AllWithin bound disk = (image : Image) (number : ℕ) → IsImage disk image → cell_at image 4 ≡ Some number → number ≤ bound

-- in each of them it has this number
abbrev pub AllNumbered : ℕ → DiskState → Type 0
AllNumbered number disk = (image : Image) → IsImage disk image → cell_at image 4 ≡ Some number

-- the number of an honest disk's area rises by one at most
abbrev pub RisesByOne : DiskState → DiskState → Type 0
RisesByOne old new = IsTrue old.honest → (bound : ℕ) → AllWithin bound old → AllWithin (bound + 1) new

-- the journal of an image is as a format leaves it: the area cell has the value 1, and no gate of either area is sealed
pub record IsFormatted (slots : ℕ) (image : Image) : Type 0 where
  pub area : cell_at image 4 ≡ Some 1
  pub unsealed : (k : ℕ) → k < 2 * slots → slot_at image (8 + 2 * k) ≡ None
