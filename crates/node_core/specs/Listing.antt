-- The jobs in hand, as they are looked up.
use Rattle.std.specs.Prelude.{ℕ, ◌≡◌, ◌<◌, ⊤, true, false, List, [], ◌∷◌, ◌==◌, ◌&&◌, All, map, slice_index_or}
use Rattle.std.specs.List.{list_any}
use Rattle.group_task.specs.declared.node.TheConstants.{NODES}
use Rattle.job_model.specs.declared.kept_job.KeptJob.{KeptJob}
use Rattle.node_core.specs.declared.in_hand.InHand.{InHand}
use Rattle.node_core.specs.declared.listing.Listing.{Listing}
use Rattle.node_core.specs.Held.{holds}

-- no two jobs have the same keeper and id
abbrev pub AreOnce : List InHand → Type 0
AreOnce [] = ⊤
AreOnce (job ∷ jobs) = (holds jobs job.origin job.id ≡ false) × AreOnce jobs

-- the keys are those of the jobs, each of which has one of its own
pub record AreKeys (jobs : List InHand) (keys : List (ℕ × ℕ)) : Type 0 where
  pub same : (origin id : ℕ) → list_any (λ key. origin == key.0 && id == key.1) keys ≡ holds jobs origin id
  pub once : AreOnce jobs

-- where the listing is whole, its keys are those of the jobs
abbrev pub Lists : Listing → List InHand → Type 0
Lists listing jobs = listing.is_whole ≡ true → AreKeys jobs listing.keys.keys

-- the job in this place has this keeper and id
abbrev pub IsAt : List InHand → ℕ → ℕ → ℕ → Type 0
IsAt jobs origin id at = (d : InHand) → ((slice_index_or jobs at d).origin ≡ origin) × ((slice_index_or jobs at d).id ≡ id)

-- a job as it stands in a list of jobs, by the number of the node that keeps it
abbrev pub in_hand_of : KeptJob → InHand
in_hand_of kept = record { origin = kept.origin; id = kept.job.id; work = kept.job.work }

abbrev pub in_hand : List KeptJob → List InHand
in_hand kept = map in_hand_of kept

-- each job is kept by a node
abbrev pub HasNode : KeptJob → Type 0
HasNode kept = kept.origin < NODES

-- each job is kept by a node, and the jobs are listed
pub record IsListed (kept : List KeptJob) (listing : Listing) : Type 0 where
  pub nodes : All HasNode kept
  pub lists : Lists listing (in_hand kept)
