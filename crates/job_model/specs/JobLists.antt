-- Jobs in rows of fixed size, whose payloads stand in one list beside.
use Rattle.std.specs.Prelude.{ℕ, ◌+◌, ◌*◌, ◌≤◌, List, length, take, drop, map, All, vec_len, vec_capacity}
use Rattle.job_model.specs.declared.job.Job.{Job}
use Rattle.job_model.specs.declared.payload.TheConstants.{PAYLOAD_CAPACITY}
use Rattle.job_model.specs.declared.job_list.PackedJob.{PackedJob}
use Rattle.job_model.specs.declared.kept_job.KeptJob.{KeptJob}
use Rattle.job_model.specs.declared.job_list.JobList.TheInside.{Inside}
use Rattle.job_model.specs.Gaps.{beside, IsWithin}

-- what contracts see of a list of jobs: the jobs, and for how many there is room
pub record JobRoom : Type 0 where
  pub jobs : List KeptJob
  pub room : ℕ

abbrev pub job_of : KeptJob → Job
job_of kept = kept.job

-- the jobs without the nodes that keep them
abbrev pub jobs_of : List KeptJob → List Job
jobs_of kept = map job_of kept

-- the bytes of a payload among all payloads
abbrev pub payload_in : List ℕ → PackedJob → List ℕ
payload_in payloads row = take row.len (drop row.start payloads)

-- the job of a row
abbrev pub kept_in : List ℕ → PackedJob → KeptJob
kept_in payloads row = record {
  origin = row.origin;
  job = record { id = row.id; work = record { queue = row.queue; priority = row.priority; payload = payload_in payloads row } };
}

-- the jobs of rows
abbrev pub jobs_in : List ℕ → List PackedJob → List Job
jobs_in payloads rows = jobs_of (map (kept_in payloads) rows)

-- the payload of a row is there
pub record HasPayload (payloads : ℕ) (row : PackedJob) : Type 0 where
  pub within : row.start + row.len ≤ payloads
  pub fits : row.len ≤ PAYLOAD_CAPACITY

-- There are places for twice as many rows as there is room for, and for three times as many payloads, of which one part is free.
pub record HasPlaces (room for_rows for_bytes used : ℕ) : Type 0 where
  pub rows : 2 * room ≤ for_rows
  pub bytes : 3 * (PAYLOAD_CAPACITY * room) ≤ for_bytes
  pub spare : used + PAYLOAD_CAPACITY * room ≤ for_bytes

-- Each job has its payload. There are places for twice as many jobs as there is room for, and for three times as many payloads, of
-- which one part is free: that is where they are put together again.
pub record IsTidy (a : Inside) : Type 0 where
  pub within : IsWithin a.gap (length a.rows.items)
  pub read : All (HasPayload (length a.payloads.items)) (beside a.gap a.rows.items)
  pub few : length (beside a.gap a.rows.items) ≤ a.room
  pub rows : 2 * a.room ≤ vec_capacity a.rows
  pub bytes : 3 * (PAYLOAD_CAPACITY * a.room) ≤ vec_capacity a.payloads
  pub spare : vec_len a.payloads + PAYLOAD_CAPACITY * a.room ≤ vec_capacity a.payloads
