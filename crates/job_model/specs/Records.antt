-- The records of a journal, each the bytes of one sector.
use Rattle.std.specs.Prelude.{ℕ, ◌≡◌, ◌+◌, ◌^◌, ◌<◌, ◌≤◌, ◌==◌, ◌&&◌, ◌⊎◌, nat_lt, nat_le, List, ◌∷◌, ◌++◌, take, drop, length, replicate}
use Rattle.std.specs.Prelude.{get_or, Option, Some, None, option_map, if◌then◌else◌}
use Rattle.std.specs.Int.{from_be_bytes, to_be_bytes, w64, w16}
use Rattle.disk_layout.specs.Blank.{is_blank}
use Rattle.job_model.specs.declared.job.Job.{Job}
use Rattle.job_model.specs.declared.payload.TheConstants.{PAYLOAD_CAPACITY}
use Rattle.job_model.specs.declared.queue.TheConstants.{QUEUES}
use Rattle.job_model.specs.declared.work.Work.{Work}
use Rattle.job_model.specs.declared.record.Record.{Record}
use Rattle.job_model.specs.declared.record.Record.TheVariants.{Put, Done, Base, Keep}

-- the number in the eight bytes behind the kind
abbrev pub id_in : List ℕ → ℕ
id_in body = from_be_bytes w64 (drop 1 body)

-- the number in the two bytes from a place on
abbrev pub length_in : ℕ → List ℕ → ℕ
length_in at body = from_be_bytes w16 (drop at body)

-- the number alone, if all behind it is zero
unfoldable pub number_of : List ℕ → Option ℕ
number_of body = if is_blank (drop 9 body) then Some (id_in body) else None

-- the id, the queue and the payload, whose length stands at a place, if there are such and all behind them is zero
unfoldable pub job_at : ℕ → ℕ → List ℕ → Option Job
job_at at priority body =
    let work : Work = record { queue = get_or body 9 0; priority = priority; payload = take (length_in at body) (drop (at + 2) body) } in
    if nat_lt (get_or body 9 0) QUEUES && nat_le (length_in at body) PAYLOAD_CAPACITY && is_blank (drop (at + 2 + length_in at body) body)
    then Some (record { id = id_in body; work = work })
    else None

-- the job whose priority stands behind its queue
abbrev pub job_of : List ℕ → Option Job
job_of body = job_at 11 (get_or body 10 0) body

-- the job of a record from before jobs had priorities, whose length stands behind its queue
abbrev pub old_job_of : List ℕ → Option Job
old_job_of body = job_at 10 0 body

-- the record of a kind
abbrev pub record_by : ℕ → Option Job → Option Job → Option ℕ → Option Record
record_by kind old job number =
    if kind == 1 then option_map Put old
    else (if kind == 2 then option_map Done number
    else (if kind == 3 then option_map Base number
    else (if kind == 4 then option_map Keep old
    else (if kind == 5 then option_map Put job
    else (if kind == 6 then option_map Keep job
    else None)))))

-- the record that a body stands for: of a Put, a Done, a Base and a Keep the first byte is 5, 2, 3 and 6; of an old Put and an old
-- Keep it is 1 and 4
unfoldable pub record_of : List ℕ → Option Record
record_of body = record_by (get_or body 0 0) (old_job_of body) (job_of body) (number_of body)

-- the body of a record of a number
abbrev pub number_bytes : ℕ → ℕ → List ℕ
number_bytes kind number = kind ∷ (to_be_bytes w64 number ++ replicate 503 0)

-- a payload's length, the payload, and zeros up to so many bytes behind the length
abbrev pub payload_bytes : ℕ → List ℕ → List ℕ
payload_bytes room payload = let size = length payload in to_be_bytes w16 size ++ (payload ++ drop size (replicate room 0))

-- the body of a record of a job
abbrev pub job_bytes : ℕ → Job → List ℕ
job_bytes kind job = kind ∷ (to_be_bytes w64 job.id ++ job.work.queue ∷ job.work.priority ∷ payload_bytes 499 job.work.payload)

-- the body of a record of a job from before jobs had priorities
abbrev pub old_job_bytes : ℕ → Job → List ℕ
old_job_bytes kind job = kind ∷ (to_be_bytes w64 job.id ++ job.work.queue ∷ payload_bytes 500 job.work.payload)

-- the body of a record
abbrev pub bytes_of : Record → List ℕ
bytes_of (Put job) = job_bytes 5 job
bytes_of (Done id) = number_bytes 2 id
bytes_of (Base next) = number_bytes 3 next
bytes_of (Keep job) = job_bytes 6 job

-- the body is that of an old record, which is read and never written
abbrev pub IsOld : List ℕ → Type 0
IsOld body = (get_or body 0 0 ≡ 1) ⊎ (get_or body 0 0 ≡ 4)

-- a job that an old record can hold: all its parts are in their ranges, and it has no priority
pub record IsOldJob (job : Job) : Type 0 where
  pub id : job.id < 2 ^ 64
  pub queue : job.work.queue < QUEUES
  pub payload : length job.work.payload ≤ PAYLOAD_CAPACITY
  pub priority : job.work.priority ≡ 0

-- a body is that of an old record of these: a job of priority 0 that was put or kept
abbrev pub IsOldOf : List ℕ → Record → Type 0
IsOldOf body (Put job) = (job.work.priority ≡ 0) × (body ≡ old_job_bytes 1 job)
IsOldOf body (Done id) = ⊥
IsOldOf body (Base next) = ⊥
IsOldOf body (Keep job) = (job.work.priority ≡ 0) × (body ≡ old_job_bytes 4 job)

-- each number is a byte
abbrev pub AllBytes : List ℕ → Type 0
AllBytes sector = (at : ℕ) → get_or sector at 0 < 256
