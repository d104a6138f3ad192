-- What the bytes of a file hold.
use Rattle.std.specs.Prelude.{◌≡◌, ◌↔◌, ◌⊎◌, ◌<◌, ℕ, ◌*◌, ◌/◌, ◌%◌, ◌==◌, ◌||◌, Bool, List, ◌∷◌, ◌++◌, length, take, drop, get_or}
use Rattle.std.specs.Prelude.{replicate, bytes_eq, codes, Option, Some, None, Result, Ok, Err, if◌then◌else◌}
use Rattle.file_disk.specs.File.{bytes_of}
use Rattle.file_disk.specs.Label.{IsSpaced, mark_in, marked_label, slots_in}
use Rattle.file_disk.specs.declared.stride.Stride.{Stride}
use Rattle.file_disk.specs.declared.stride.Stride.TheVariants.{Packed, Spaced}
use Rattle.sector_disk.specs.Disk.{Image, sector_at}
use Rattle.safe_cell.specs.Cell.{cell_at}
use Rattle.job_journal.specs.Areas.{area_of, sealed_prefix, slots_from}
use Rattle.job_journal.specs.Jobs.{Jobs, jobs_of}
use Rattle.job_journal.specs.Journal.{cell_damage, replay_in}
use Rattle.job_journal.specs.Mounted.{JournalState}
use Rattle.job_journal.specs.Readings.{Replay, Reads, Damage}
use Rattle.store_console.specs.declared.found.Counter.{Counter}
use Rattle.store_console.specs.declared.found.Counter.TheVariants.{Missing, Value, Damaged}
use Rattle.store_console.specs.declared.found.Owner.{Owner}
use Rattle.store_console.specs.declared.found.Owner.TheVariants.{Store, Node, Unknown}

-- ---- its sectors

-- what stands behind the last 512 bytes that are whole
abbrev pub tail_of : List ℕ → List ℕ
tail_of bytes = drop (512 * (length bytes / 512)) bytes

-- these are its label, where they are as many bytes as one has; one of version 1 has 16, and zeros are taken behind it
abbrev pub label_by : List ℕ → Option (List ℕ)
label_by tail = if length tail == 32 then Some tail else (if length tail == 16 then Some (tail ++ replicate 16 0) else None)

abbrev pub label_in : List ℕ → Option (List ℕ)
label_in bytes = label_by (tail_of bytes)

-- each sector has a block of 4,096 bytes of its own: so says the label behind the last block
abbrev pub IsSpacedFile : List ℕ → Type 0
IsSpacedFile bytes = ((length bytes % 4096 ≡ 16) ⊎ (length bytes % 4096 ≡ 32)) × IsSpaced (label_in bytes)

-- The sectors of these bytes: each is the first 512 bytes at its place, and what is left at the end belongs to none.
pub record IsHeldBy (bytes : List ℕ) (image : Image) : Type 0 where
  -- how far apart they lie
  pub stride : Stride
  pub spaced : (stride ≡ Spaced) ↔ IsSpacedFile bytes
  pub size : length image ≡ length bytes / bytes_of stride
  pub each : (at : ℕ) → at < length bytes / bytes_of stride → sector_at image at ≡ take 512 (drop (bytes_of stride * at) bytes)

-- ---- whose it is

-- the label of version 1 of node `id` of so many; `apart` is 1 where each sector has a block of its own in the file, else 0
abbrev pub label_for : ℕ → ℕ → ℕ → List ℕ
label_for id nodes apart = codes "dumgerok" ++ 1 ∷ id ∷ nodes ∷ apart ∷ replicate 20 0

-- it is one of version 2 of node `id` of so many, whatever its slots and its cluster
abbrev pub is_marked : List ℕ → ℕ → ℕ → Stride → Bool
is_marked label id nodes stride = bytes_eq label (marked_label id nodes stride (mark_in label) (slots_in label))

-- it is one of node `id` of so many
abbrev pub is_label : List ℕ → ℕ → ℕ → Bool
is_label label id nodes =
    bytes_eq label (label_for id nodes 0) || bytes_eq label (label_for id nodes 1) || is_marked label id nodes Packed
    || is_marked label id nodes Spaced

abbrev pub labelled : List ℕ → Owner
labelled label = if is_label label (get_or label 9 0) (get_or label 10 0) then Node (get_or label 9 0) (get_or label 10 0) else Unknown

-- a file without a label is a store's
abbrev pub owner_by : Option (List ℕ) → Owner
owner_by None = Store
owner_by (Some label) = labelled label

abbrev pub owner_of : List ℕ → Owner
owner_of bytes = owner_by (label_in bytes)

-- ---- the counter

-- by the first damaged body of its slots, and its value
abbrev pub counter_by : Option ℕ → Option ℕ → Counter
counter_by (Some sector) value = Damaged sector
counter_by None None = Missing
counter_by None (Some value) = Value value

abbrev pub counter_of : Image → Counter
counter_of image = counter_by (cell_damage image 0) (cell_at image 0)

-- ---- the journal

-- how many slots of the area at this sector are used: those in front of the first that isn't sealed
abbrev pub used_from : ℕ → Image → Option ℕ → ℕ
used_from slots image None = 0
used_from slots image (Some first) = length (sealed_prefix (slots_from image first slots))

abbrev pub used_in : ℕ → Image → ℕ
used_in slots image = used_from slots image (area_of slots (cell_at image 4))

-- what a replay gives: jobs, or the body sector of the first thing that isn't allowed
abbrev pub jobs_or_damage : Replay → Result Jobs ℕ
jobs_or_damage (Reads reading) = Ok reading.jobs
jobs_or_damage (Damage sector) = Err sector

abbrev pub journal_of : ℕ → Image → Result Jobs ℕ
journal_of slots image = jobs_or_damage (replay_in slots image)

-- the jobs of a journal that was mounted, or where it is damaged
abbrev pub found_in : Result JournalState ℕ → Result Jobs ℕ
found_in (Ok journal) = Ok (jobs_of journal.table)
found_in (Err sector) = Err sector
