-- What the client's code does, as what a client may do.
use Rattle.std.specs.Prelude.{ℕ, ◌≡◌, ◌<◌, get_or, Bool, false, List, Option, option_map}
use Rattle.lease_runs.specs.declared.client_id.ClientId.{ClientId}
use Rattle.lease_runs.specs.declared.candidate.LeaseCandidate.{LeaseCandidate}
use Rattle.lease_runs.specs.declared.candidate.Request.{Request}
use Rattle.lease_runs.specs.Voter.{Client, Ask}
use Rattle.lease_runs.specs.Run.{ClientEvent, hears}
use Rattle.lease_runs.specs.Candidate.{Candidate, MayAct, after_act, is_taken}
use Rattle.lease_runs.specs.Code.{client_of}

-- the code's request, with what its client's clock showed in place of the true time
abbrev pub by_clock : Client → Request → Ask
by_clock client r = record { client = client; number = r.number; epoch = r.epoch; sent = r.sent }

-- the model's request, so
abbrev pub shown : (ℕ → ℕ) → Ask → Ask
shown clock a = record { client = a.client; number = a.number; epoch = a.epoch; sent = clock a.sent }

-- the code keeps the request of the model
abbrev pub IsSent : (ℕ → ℕ) → Client → Option Request → Option Ask → Type 0
IsSent clock client r a = option_map (shown clock) a ≡ option_map (by_clock client) r

-- the client of the model, by what the code keeps
pub record Shows (clock : ℕ → ℕ) (c : LeaseCandidate) (v : Candidate) : Type 0 where
  pub number : v.number ≡ c.number
  pub given_up : v.given_up ≡ c.given_up
  pub asked : IsSent clock (client_of c.client) c.asked v.asked
  pub votes : (voter : ℕ) → voter < c.voters → v.votes voter ≡ get_or c.votes voter false
  pub lease : IsSent clock (client_of c.client) c.lease v.lease

pub record HasTerms (client : ClientId) (voters relies_for : ℕ) (c : LeaseCandidate) : Type 0 where
  pub same_client : c.client ≡ client
  pub same_voters : c.voters ≡ voters
  pub same_time : c.relies_for ≡ relies_for

-- it may do so, and did, where the own clock shows now, whatever true time it is
abbrev pub IsActed : LeaseCandidate → LeaseCandidate → ℕ → (ℕ → ClientEvent) → Type 0
IsActed old new now what = (clock : ℕ → ℕ) (at : ℕ) (v : Candidate) → clock at ≡ now → Shows clock old v →
    MayAct old.voters (client_of old.client) v at (what at) × Shows clock new (after_act old.voters old.relies_for clock v at (what at))

-- it heard that the voter granted the request of this number
abbrev pub IsHeard : LeaseCandidate → LeaseCandidate → ℕ → ℕ → ℕ → Type 0
IsHeard old new now voter number = (ask : Ask) → ask.client ≡ client_of old.client → ask.number ≡ number
    → IsActed old new now (λ at. hears voter ask)

-- what the code keeps as its lease
abbrev pub lease_by_clock : LeaseCandidate → Option Ask
lease_by_clock c = option_map (by_clock (client_of c.client)) c.lease

-- by this request, with these votes, the client relies from now on, as the model judges where the clock is the time
abbrev pub takes : LeaseCandidate → ℕ → List Bool → Request → Bool
takes c now votes request =
    is_taken c.voters c.relies_for (λ t. t) now (λ voter. get_or votes voter false) (by_clock (client_of c.client) request)
    (lease_by_clock c)
