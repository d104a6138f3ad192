-- What a store's own bytes show of rot: what no crash leaves, and what may tell of an older state.
use Rattle.std.specs.Prelude.{ℕ, ◌+◌, ◌-◌, ◌*◌, ◌==◌, ◌&&◌, ◌||◌, nat_lt, not, Bool, true, false, List, [], ◌∷◌, ◌++◌, length, flat_map}
use Rattle.std.specs.Prelude.{bytes_eq, if◌then◌else◌, Option, Some, None, Result, Ok, Err}
use Rattle.std.specs.List.{list_any}
use Rattle.job_model.specs.declared.job.Job.{Job}
use Rattle.job_model.specs.declared.work.Work.{Work}
use Rattle.sector_disk.specs.Disk.{Image, sector_at}
use Rattle.slot_gate.specs.Slot.{slot_at}
use Rattle.safe_cell.specs.Body.{body_value}
use Rattle.safe_cell.specs.Cell.{cell_at}
use Rattle.job_journal.specs.Areas.{area_of, sealed_prefix, slots_from}
use Rattle.job_journal.specs.Jobs.{Jobs}
use Rattle.job_journal.specs.Journal.{replay_from}
use Rattle.store_console.specs.declared.found.Counter.{Counter}
use Rattle.store_console.specs.declared.found.Counter.TheVariants.{Missing, Value, Damaged}
use Rattle.store_console.specs.Held.{counter_of, journal_of, jobs_or_damage}
use Rattle.store_console.specs.declared.findings.Finding.{Finding}
use Rattle.store_console.specs.declared.findings.Finding.TheVariants.{CounterSlots, AreaSlots, CounterUnsealed, SealedBehind}
use Rattle.store_console.specs.declared.findings.Finding.TheVariants.{OtherAreaNextId, JobDiffers}

-- ---- cells

-- the number in a slot, where it is sealed over one
abbrev pub number_at : Option (List ℕ) → Option ℕ
number_at None = None
number_at (Some body) = body_value body

-- one of these numbers is one above the other, as a raise leaves them
abbrev pub is_raised : ℕ → ℕ → Bool
is_raised a b = a == b + 1 || b == a + 1

-- the numbers in both slots, where no raise leaves them so
abbrev pub unraised : Option ℕ → Option ℕ → Option (ℕ × ℕ)
unraised None b = None
unraised (Some a) None = None
unraised (Some a) (Some b) = if is_raised a b then None else Some (a, b)

abbrev pub unraised_at : Image → ℕ → Option (ℕ × ℕ)
unraised_at image at = unraised (number_at (slot_at image at)) (number_at (slot_at image (at + 2)))

-- the number in a slot's body, where it isn't sealed
abbrev pub unsealed_by : Option (List ℕ) → List ℕ → Option ℕ
unsealed_by None body = body_value body
unsealed_by (Some sealed) body = None

abbrev pub unsealed_at : Image → ℕ → Option ℕ
unsealed_at image slot = unsealed_by (slot_at image slot) (sector_at image slot)

-- ---- the journal's end

-- the first of these slots that is sealed, of which the first begins in a sector
abbrev pub first_sealed : ℕ → List (Option (List ℕ)) → Option ℕ
first_sealed sector [] = None
first_sealed sector (None ∷ slots) = first_sealed (sector + 2) slots
first_sealed sector (Some body ∷ slots) = Some sector

-- behind so many slots of an area
abbrev pub sealed_past : ℕ → Image → ℕ → ℕ → Option ℕ
sealed_past slots image first used = first_sealed (first + 2 * used) (slots_from image (first + 2 * used) (slots - used))

-- behind the end of the journal in the area that begins in a sector
abbrev pub sealed_behind : ℕ → Image → ℕ → Option ℕ
sealed_behind slots image first = sealed_past slots image first (length (sealed_prefix (slots_from image first slots)))

-- ---- both areas

-- where the other area begins
abbrev pub across : ℕ → ℕ → ℕ
across slots first = if first == 8 then 8 + 2 * slots else 8

-- a value of the area cell that names it
abbrev pub value_across : ℕ → ℕ
value_across first = if first == 8 then 2 else 1

-- the journal of the area that begins in a sector
abbrev pub journal_from : ℕ → Image → ℕ → Result Jobs ℕ
journal_from slots image first = jobs_or_damage (replay_from slots image first)

abbrev pub is_same_work : Work → Work → Bool
is_same_work a b = a.queue == b.queue && a.priority == b.priority && bytes_eq a.payload b.payload

-- it is a job of the same id, with other work
abbrev pub is_other_work : Job → Job → Bool
is_other_work job other = other.id == job.id && not (is_same_work other.work job.work)

-- a job stands differently among these
abbrev pub differs : List Job → Job → Bool
differs others job = list_any (is_other_work job) others

-- ---- all of it

abbrev pub listed : Option Finding → List Finding
listed None = []
listed (Some finding) = finding ∷ []

abbrev pub counter_finding : Option (ℕ × ℕ) → Option Finding
counter_finding None = None
counter_finding (Some numbers) = Some (CounterSlots numbers.0 numbers.1)

abbrev pub area_finding : Option (ℕ × ℕ) → Option Finding
area_finding None = None
area_finding (Some numbers) = Some (AreaSlots numbers.0 numbers.1)

-- the number in a slot that isn't sealed is the one that comes next
abbrev pub unsealed_finding : Counter → Option ℕ → Option Finding
unsealed_finding counter None = None
unsealed_finding Missing (Some number) = None
unsealed_finding (Damaged sector) (Some number) = None
unsealed_finding (Value count) (Some number) = if number == count + 1 then Some (CounterUnsealed number) else None

-- where a counter has a value one of its slots is sealed, so of the other alone
abbrev pub unsealed_findings : Image → List Finding
unsealed_findings image =
    listed (unsealed_finding (counter_of image) (unsealed_at image 0)) ++ listed (unsealed_finding (counter_of image) (unsealed_at image 2))

abbrev pub behind_finding : Option ℕ → Option Finding
behind_finding None = None
behind_finding (Some sector) = Some (SealedBehind sector)

-- the other area's next id is greater
abbrev pub next_finding : ℕ → ℕ → Option Finding
next_finding here other = if nat_lt here other then Some (OtherAreaNextId other here) else None

abbrev pub job_finding : List Job → Job → Option Finding
job_finding others job = if differs others job then Some (JobDiffers job.id) else None

abbrev pub job_findings : List Job → List Job → List Finding
job_findings others jobs = flat_map (λ job. listed (job_finding others job)) jobs

-- what the journals of both areas show, where both can be read
abbrev pub journal_findings : Result Jobs ℕ → Result Jobs ℕ → List Finding
journal_findings (Err sector) other = []
journal_findings (Ok here) (Err sector) = []
journal_findings (Ok here) (Ok other) = listed (next_finding here.next other.next) ++ job_findings other.pending here.pending

-- by where the present area begins
abbrev pub area_findings : ℕ → Image → Option ℕ → List Finding
area_findings slots image None = []
area_findings slots image (Some first) =
    listed (behind_finding (sealed_behind slots image first)) ++ journal_findings (journal_of slots image)
    (journal_from slots image (across slots first))

abbrev pub findings_in : ℕ → Image → List Finding
findings_in slots image =
    listed (counter_finding (unraised_at image 0)) ++ listed (area_finding (unraised_at image 4)) ++ unsealed_findings image
    ++ area_findings slots image (area_of slots (cell_at image 4))

-- ---- how each is told

-- no crash leaves it: the others may come of a crash, too
abbrev pub is_broken : Finding → Bool
is_broken (CounterSlots a b) = true
is_broken (AreaSlots a b) = true
is_broken (CounterUnsealed number) = false
is_broken (SealedBehind sector) = true
is_broken (OtherAreaNextId other here) = false
is_broken (JobDiffers id) = false
