-- The order of the pending jobs.
use Rattle.std.specs.Prelude.{ℕ, ◌+◌, ◌<◌, ◌≤◌, List, [], ◌∷◌, ⊤}
use Rattle.job_model.specs.declared.job.Job.{Job}

-- the ids rise, from low on, and stay below limit
abbrev pub IdsRise : ℕ → ℕ → List Job → Type 0
IdsRise low limit [] = ⊤
IdsRise low limit (job ∷ jobs) = (low ≤ job.id) × (job.id < limit) × IdsRise (job.id + 1) limit jobs

-- the jobs stand in order of id, each of one id, and all below the next one
abbrev pub IsInOrder : List Job → ℕ → Type 0
IsInOrder jobs next = IdsRise 0 next jobs
