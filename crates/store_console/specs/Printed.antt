-- What is printed of a file.
use Rattle.std.specs.Prelude.{◌≡◌, ℕ, ◌==◌, ◌&&◌, nat_lt, not, List, [], ◌++◌, length, flat_map, count_by, Bool, true, false, codes}
use Rattle.std.specs.Prelude.{decimal, Result, Ok, Err, if◌then◌else◌}
use Rattle.std.specs.List.{list_any, range_with_len}
use Rattle.job_model.specs.declared.job.Job.{Job}
use Rattle.job_model.specs.declared.queue.TheConstants.{QUEUES}
use Rattle.sector_disk.specs.Disk.{Image}
use Rattle.console_text.specs.Ends.{Printout, line, refused}
use Rattle.job_journal.specs.Jobs.{Jobs}
use Rattle.node_store.specs.Store.{slots_for}
use Rattle.store_console.specs.Replies.{job_text}
use Rattle.store_console.specs.declared.found.Counter.{Counter}
use Rattle.store_console.specs.declared.found.Counter.TheVariants.{Missing, Value, Damaged}
use Rattle.store_console.specs.declared.found.Owner.{Owner}
use Rattle.store_console.specs.declared.found.Owner.TheVariants.{Store, Node, Unknown}
use Rattle.store_console.specs.declared.inspecting.Shown.{Shown}
use Rattle.store_console.specs.declared.inspecting.Shown.TheVariants.{All, Verified, Jobs as Listed}
use Rattle.store_console.specs.declared.findings.Finding.{Finding}
use Rattle.store_console.specs.declared.findings.Finding.TheVariants.{CounterSlots, AreaSlots, CounterUnsealed, SealedBehind}
use Rattle.store_console.specs.declared.findings.Finding.TheVariants.{OtherAreaNextId, JobDiffers}
use Rattle.store_console.specs.Findings.{findings_in, is_broken}
use Rattle.store_console.specs.Held.{IsHeldBy, owner_of, counter_of, journal_of, used_in}

-- a line of a name and its value
abbrev pub named : List ℕ → ℕ → List ℕ
named name value = line (name ++ codes " " ++ decimal value)

abbrev pub owner_text : Owner → List ℕ
owner_text Store = line (codes "kind store")
owner_text (Node id nodes) = line (codes "kind node") ++ named (codes "node") id ++ named (codes "nodes") nodes
owner_text Unknown = line (codes "kind unknown")

abbrev pub counter_text : Counter → List ℕ
counter_text Missing = line (codes "count none")
counter_text (Value value) = named (codes "count") value
counter_text (Damaged sector) = named (codes "damaged_counter") sector

-- a queue that has jobs, and how many
abbrev pub queue_text : ℕ → ℕ → List ℕ
queue_text queue count = if count == 0 then [] else named (codes "queue_" ++ decimal queue) count

abbrev pub jobs_in_queue : List Job → ℕ → ℕ
jobs_in_queue jobs queue = count_by (λ (job : Job). job.work.queue == queue) jobs

abbrev pub queues_text : List Job → List ℕ → List ℕ
queues_text jobs queues = flat_map (λ queue. queue_text queue (jobs_in_queue jobs queue)) queues

-- a line for each queue that has jobs
unfoldable pub all_queues_text : List Job → List ℕ
all_queues_text jobs = queues_text jobs (range_with_len 0 QUEUES)

-- the next id, how many jobs there are, and how many in each queue that has some
abbrev pub jobs_text : Jobs → List ℕ
jobs_text jobs = named (codes "next") jobs.next ++ named (codes "jobs") (length jobs.pending) ++ all_queues_text jobs.pending

abbrev pub journal_text : Result Jobs ℕ → List ℕ
journal_text (Ok jobs) = jobs_text jobs
journal_text (Err sector) = named (codes "damaged_journal") sector

-- ---- all of it

-- the counter has a value
abbrev pub has_value : Counter → Bool
has_value Missing = false
has_value (Value value) = true
has_value (Damaged sector) = false

-- the journal has jobs
abbrev pub has_jobs : Result Jobs ℕ → Bool
has_jobs (Ok jobs) = true
has_jobs (Err sector) = false

abbrev pub found_text : Owner → ℕ → ℕ → Counter → Result Jobs ℕ → Printout
found_text owner slots used counter journal = record {
  text = owner_text owner ++ named (codes "slots") slots ++ named (codes "used") used ++ counter_text counter ++ journal_text journal;
  good = has_value counter && has_jobs journal;
}

-- ---- what no crash leaves, and hints

abbrev pub of_two : List ℕ → ℕ → ℕ → List ℕ
of_two name a b = line (name ++ codes " " ++ decimal a ++ codes " " ++ decimal b)

abbrev pub finding_text : Finding → List ℕ
finding_text (CounterSlots a b) = of_two (codes "broken counter_slots") a b
finding_text (AreaSlots a b) = of_two (codes "broken area_slots") a b
finding_text (CounterUnsealed number) = named (codes "hint counter_unsealed") number
finding_text (SealedBehind sector) = named (codes "broken sealed_behind") sector
finding_text (OtherAreaNextId other here) = of_two (codes "hint other_area_next_id") other here
finding_text (JobDiffers id) = named (codes "hint job_differs") id

-- a line for each of these behind what is printed without them; it ends well where none of them is broken
abbrev pub with_findings : List Finding → Printout → Printout
with_findings findings printout = record {
  text = printout.text ++ flat_map finding_text findings;
  good = printout.good && not (list_any is_broken findings);
}

-- fewer sectors than a store has
abbrev pub too_small : ℕ → Printout
too_small sectors = refused (codes "too_small " ++ decimal sectors)

-- ---- the jobs

abbrev pub export_text : Result Jobs ℕ → Printout
export_text (Ok jobs) = record { text = flat_map (λ job. line (job_text job)) jobs.pending; good = true }
export_text (Err sector) = refused (codes "damaged_journal " ++ decimal sector)

-- all that a disk holds with as many sectors as a store has
abbrev pub all_text : Owner → Image → Printout
all_text owner image = found_text owner (slots_for (length image)) (used_in (slots_for (length image)) image) (counter_of image)
    (journal_of (slots_for (length image)) image)

-- what is printed of such a disk
abbrev pub held_text : Shown → Owner → Image → Printout
held_text All owner image = all_text owner image
held_text Verified owner image = with_findings (findings_in (slots_for (length image)) image) (all_text owner image)
held_text Listed owner image = export_text (journal_of (slots_for (length image)) image)

abbrev pub shown_text : Shown → Owner → Image → Printout
shown_text shown owner image = if nat_lt (length image) 24 then too_small (length image) else held_text shown owner image

-- What is printed of a file with these bytes: whose it is, and what it keeps, or the sector of the first thing that isn't allowed; or its
-- jobs, or why there are none.
pub record IsShown (shown : Shown) (bytes : List ℕ) (printout : Printout) : Type 0 where
  pub image : Image
  pub held : IsHeldBy bytes image
  pub printed : printout ≡ shown_text shown (owner_of bytes) image
