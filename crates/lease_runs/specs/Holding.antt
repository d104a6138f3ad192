-- What a client holds, by what it keeps, and what follows of it.
use Rattle.std.specs.Prelude.{ℕ, ◌≡◌, ◌⊎◌, ◌<◌, ◌≤◌, true, List, ◌++◌, Some}
use Rattle.lease_runs.specs.Lists.{IsAmong}
use Rattle.lease_runs.specs.Voter.{Client, Ask}
use Rattle.lease_runs.specs.Run.{Run, WasGranted, Relies, IsRun, IsTimed}
use Rattle.lease_runs.specs.Candidate.{ClientMoment, IsClientOf, beginning, is_in_time, left}

-- At this true time, between two of its moments, a client that keeps to the rules holds a lease by this request: it keeps it as its lease,
-- and by its own clock
-- less than its time passed since it sent it.
pub record Holds (run : Run) (client : Client) (time : ℕ) (ask : Ask) : Type 0 where
  pub past : List ClientMoment
  pub later : List ClientMoment
  pub is_client : IsClientOf run client (past ++ later)
  pub before : (m : ClientMoment) → IsAmong m past → m.at ≤ time
  pub behind : (m : ClientMoment) → IsAmong m later → time < m.at
  pub lease : (left run.nodes run.relies_for (run.clock client.machine client.boot) beginning past).lease ≡ Some ask
  pub in_time : is_in_time run.relies_for (run.clock client.machine client.boot) time ask ≡ true

-- Between two of its moments, by this true time, a client that keeps to the rules kept this request as its lease.
pub record KeptLease (run : Run) (client : Client) (time : ℕ) (ask : Ask) : Type 0 where
  pub past : List ClientMoment
  pub later : List ClientMoment
  pub is_client : IsClientOf run client (past ++ later)
  pub before : (m : ClientMoment) → IsAmong m past → m.at ≤ time
  pub lease : (left run.nodes run.relies_for (run.clock client.machine client.boot) beginning past).lease ≡ Some ask

-- what it kept had been granted by more than half
abbrev pub KeptWasGranted : Type 0
KeptWasGranted = (run : Run) → IsRun run → (client : Client) (time : ℕ) (ask : Ask) → KeptLease run client time ask
    → WasGranted run time ask × (ask.client ≡ client)

-- who holds a lease relies on it
abbrev pub HolderRelies : Type 0
HolderRelies = (run : Run) → IsRun run → (client : Client) (time : ℕ) (ask : Ask) → Holds run client time ask
    → Relies run time ask × (ask.client ≡ client)

-- at each moment of true time one client at most holds the lease
abbrev pub OneHolds : Type 0
OneHolds = (run : Run) → IsRun run → IsTimed run → (time : ℕ) (c d : Client) (a b : Ask) → Holds run c time a → Holds run d time b → c ≡ d

-- with no word on clocks: a lease that was asked for while or after another was held has a greater epoch, or is the same client's and of
-- the same epoch
abbrev pub HeldEpochsRise : Type 0
HeldEpochsRise = (run : Run) → IsRun run → (time_a time_b : ℕ) (c d : Client) (a b : Ask) → Holds run c time_a a → Holds run d time_b b →
    time_a < b.sent → (a.epoch < b.epoch) ⊎ ((c ≡ d) × (a.epoch ≡ b.epoch))
