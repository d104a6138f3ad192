-- Runs of voters and of those that ask them, over the lease of one name.
use Rattle.std.specs.Prelude.{ℕ, ◌≡◌, ◌+◌, ◌*◌, ◌<◌, ◌≤◌, Bool, true, List}
use Rattle.lease_runs.specs.Lists.{IsAmong, count}
use Rattle.lease_runs.specs.Voter.{Client, Ask, Moment, grants, releases, opening, Follows}

-- What a client does: it sends this request to the voters; it hears that this voter granted this request, which the answer names; it stops
-- relying on this epoch, and
-- on smaller ones, for good.
pub data ClientEvent : Type 0 where
  asks : Ask → ClientEvent
  hears : ℕ → Ask → ClientEvent
  stops : ℕ → ClientEvent

-- a true time, a client, and what it did then
pub record Act : Type 0 where
  pub at : ℕ
  pub client : Client
  pub what : ClientEvent

-- what a run is told by
pub record Run : Type 0 where
  -- how many voters: the machines below this number
  pub nodes : ℕ
  -- how long a voter keeps a grant, and how long a holder may rely on it
  pub keeps : ℕ
  pub relies_for : ℕ
  -- what the clock of a machine shows in one of its boots, at a true time
  pub clock : ℕ → ℕ → ℕ → ℕ
  -- how much readings may be off by rounding, in parts of 32 of the unit of time
  pub grain : ℕ
  -- what happened at each voter
  pub history : ℕ → List Moment
  -- what the clients did, in any order
  pub acts : List Act

-- the voter granted the request at this true time
abbrev pub Grants : Run → ℕ → ℕ → Ask → Type 0
Grants run voter at ask = IsAmong (record { at = at; what = grants ask }) (run.history voter)

-- the voter took the release at this true time
abbrev pub Releases : Run → ℕ → ℕ → Client → ℕ → Type 0
Releases run voter at client epoch = IsAmong (record { at = at; what = releases client epoch }) (run.history voter)

-- the client did this at this true time
abbrev pub Does : Run → ℕ → Client → ClientEvent → Type 0
Does run at client what = IsAmong (record { at = at; client = client; what = what }) run.acts

-- By this true time the client of the request had heard of the grants of more than half of the voters.
pub record WasGranted (run : Run) (time : ℕ) (ask : Ask) : Type 0 where
  pub quorum : ℕ → Bool
  pub most : run.nodes < 2 * count quorum run.nodes
  pub heard : (voter : ℕ) → voter < run.nodes → quorum voter ≡ true → (at : ℕ) × (at ≤ time) × Does run at ask.client (hears voter ask)

-- At this true time the client of the request relies on what it asked for by it. A renewal is a request of the same epoch.
pub record Relies (run : Run) (time : ℕ) (ask : Ask) : Type 0 where
  pub granted : WasGranted run time ask
  -- by its own clock less than its time passed since it sent the request
  pub lasts : run.clock ask.client.machine ask.client.boot time < run.clock ask.client.machine ask.client.boot ask.sent + run.relies_for
  -- it hasn't stopped
  pub goes_on : (at epoch : ℕ) → Does run at ask.client (stops epoch) → ask.epoch ≤ epoch → time < at

-- what no clock is needed for
pub record IsRun (run : Run) : Type 0 where
  -- each voter keeps the rules
  pub voters : (voter : ℕ) → voter < run.nodes → Follows run.keeps (run.clock voter) 0 (opening (run.clock voter)) (run.history voter)
  -- what a voter grants was asked before, when the request says
  pub asked : (voter : ℕ) → voter < run.nodes → (at : ℕ) (ask : Ask) → Grants run voter at ask
      → (ask.sent ≤ at) × Does run ask.sent ask.client (asks ask)
  -- what a client hears that a voter granted, the voter granted before
  pub answered : (voter : ℕ) → voter < run.nodes → (time : ℕ) (client : Client) (ask : Ask) → Does run time client (hears voter ask) →
      (at : ℕ) × (at ≤ time) × Grants run voter at ask

-- in any stretch of true time a clock moves by 31/32 of it at least, and by 33/32 of it at most, but for rounding
abbrev pub KeepsRate : ℕ → (ℕ → ℕ) → Type 0
KeepsRate grain clock = (s t : ℕ) → s ≤ t → (31 * t + 32 * clock s ≤ 32 * clock t + 31 * s + grain)
    × (32 * clock t + 33 * s ≤ 32 * clock s + 33 * t + grain)

-- and what clocks are needed for
pub record IsTimed (run : Run) : Type 0 where
  -- the clocks keep to the bound
  pub clocks : (machine boot : ℕ) → KeepsRate run.grain (run.clock machine boot)
  -- a holder's time by the slowest clock is no longer than a voter's by the fastest
  pub margin : 33 * run.relies_for + 2 * run.grain ≤ 31 * run.keeps
  -- a release that a voter took was sent by its client, which had stopped before
  pub released : (voter : ℕ) → voter < run.nodes → (time : ℕ) (client : Client) (epoch : ℕ) → Releases run voter time client epoch →
      (at : ℕ) × (at ≤ time) × Does run at client (stops epoch)
