-- The laws of leases of many names, over all steps of machines that vote and ask.
use Rattle.std.specs.Prelude.{ℕ, ◌≡◌, ◌⊎◌, ◌+◌, ◌*◌, ◌<◌, ◌≤◌, leb, if◌then◌else◌, true, List, [], ◌∷◌, ◌++◌, Some}
use Rattle.lease_runs.specs.Lists.{IsAmong}
use Rattle.lease_runs.specs.Voter.{Client, Ask}
use Rattle.lease_runs.specs.Run.{KeepsRate}
use Rattle.lease_runs.specs.Candidate.{is_in_time}
use Rattle.lease_network.specs.Network.{Name, request, release, sends, Step, Terms, AreSteps, last_time, machines}

-- the steps up to this true time
abbrev pub up_to : ℕ → List Step → List Step
up_to time [] = []
up_to time (s ∷ past) = if leb s.at time then s ∷ past else up_to time past

-- At this true time the client holds the lease of the name by this request: its process runs, or ran last, on its machine, the client keeps
-- the request as its lease,
-- and by its own clock less than its time passed since it sent it.
pub record Holds (terms : Terms) (steps : List Step) (name : Name) (time : ℕ) (client : Client) (ask : Ask) : Type 0 where
  pub running : (machines terms (up_to time steps) client.machine).process ≡ Some client.boot
  pub lease : ((machines terms (up_to time steps) client.machine).candidate client.number name).lease ≡ Some ask
  pub in_time : is_in_time terms.relies_for (terms.clock client.machine client.boot) time ask ≡ true

-- the clocks keep to their bound, and a holder's time by the slowest is no longer than a voter's by the fastest
pub record AreClocks (terms : Terms) : Type 0 where
  pub rates : (machine boot : ℕ) → KeepsRate terms.grain (terms.clock machine boot)
  pub margin : 33 * terms.relies_for + 2 * terms.grain ≤ 31 * terms.keeps

-- With no word on clocks: a lease of a name that is asked for while or after another was held has a greater epoch, or is the same client's
-- and of the same epoch.
abbrev pub EpochsRise : Type 0
EpochsRise = (terms : Terms) (steps : List Step) → AreSteps terms steps → (name : Name) (time_a time_b : ℕ) (c d : Client) (a b : Ask) →
    Holds terms steps name time_a c a → Holds terms steps name time_b d b → time_a < b.sent
    → (a.epoch < b.epoch) ⊎ ((c ≡ d) × (a.epoch ≡ b.epoch))

-- What is held was asked for: this client sent that request, of that epoch, when the law says.
abbrev pub HeldWasAsked : Type 0
HeldWasAsked = (terms : Terms) (steps : List Step) → AreSteps terms steps → (name : Name) (time : ℕ) (client : Client) (ask : Ask)
    → Holds terms steps name time client ask →
    IsAmong (record { at = ask.sent; by = client; what = sends (request name client ask.number ask.epoch) }) steps

-- No two clients ever hold leases of one name and one epoch.
abbrev pub OneEpoch : Type 0
OneEpoch = (terms : Terms) (steps : List Step) → AreSteps terms steps → (name : Name) (time_a time_b : ℕ) (c d : Client) (a b : Ask) →
    Holds terms steps name time_a c a → Holds terms steps name time_b d b → a.epoch ≡ b.epoch → c ≡ d

-- At each moment of true time one client at most holds the lease of a name.
abbrev pub OneHolder : Type 0
OneHolder = (terms : Terms) (steps : List Step) → AreSteps terms steps → AreClocks terms
    → (name : Name) (time : ℕ) (c d : Client) (a b : Ask) →
    Holds terms steps name time c a → Holds terms steps name time d b → c ≡ d

-- Of two clients that hold the lease of a name one after the other the later has the greater epoch.
abbrev pub EpochsFollow : Type 0
EpochsFollow = (terms : Terms) (steps : List Step) → AreSteps terms steps → AreClocks terms
    → (name : Name) (time_a time_b : ℕ) (c d : Client) (a b : Ask) →
    Holds terms steps name time_a c a → Holds terms steps name time_b d b → time_a ≤ time_b → (a.epoch < b.epoch) ⊎ (c ≡ d)

-- ---- who was told to hold, and relies on it for as long as it may

-- Behind the first of the steps, by this true time, the client's process ran and the client kept this request as its lease of the name.
pub record Held (terms : Terms) (steps : List Step) (name : Name) (time : ℕ) (client : Client) (ask : Ask) : Type 0 where
  pub kept : List Step
  pub later : List Step
  pub parts : steps ≡ later ++ kept
  pub by : last_time kept ≤ time
  pub running : (machines terms kept client.machine).process ≡ Some client.boot
  pub lease : ((machines terms kept client.machine).candidate client.number name).lease ≡ Some ask

-- At this true time the client may rely on what it held by then: by its own clock less than its time passed since it sent the request, and
-- it sent no release of this
-- epoch, or of a greater one. That its process ended meanwhile changes nothing.
pub record MayRely (terms : Terms) (steps : List Step) (name : Name) (time : ℕ) (client : Client) (ask : Ask) : Type 0 where
  pub held : Held terms steps name time client ask
  pub lasts : is_in_time terms.relies_for (terms.clock client.machine client.boot) time ask ≡ true
  pub goes_on : (s : Step) (other : Client) (epoch : ℕ) → IsAmong s steps → s.by ≡ client → s.what ≡ sends (release name other epoch)
      → ask.epoch ≤ epoch → time < s.at

-- With no word on clocks: a lease of a name that is asked for behind a moment by which another was held has a greater epoch, or is the same
-- client's and of the same epoch.
abbrev pub HeldEpochsRise : Type 0
HeldEpochsRise = (terms : Terms) (steps : List Step) → AreSteps terms steps → (name : Name) (time_a time_b : ℕ) (c d : Client) (a b : Ask) →
    Held terms steps name time_a c a → Held terms steps name time_b d b → time_a < b.sent
    → (a.epoch < b.epoch) ⊎ ((c ≡ d) × (a.epoch ≡ b.epoch))

-- No two clients ever held leases of one name and one epoch.
abbrev pub HeldOneEpoch : Type 0
HeldOneEpoch = (terms : Terms) (steps : List Step) → AreSteps terms steps → (name : Name) (time_a time_b : ℕ) (c d : Client) (a b : Ask) →
    Held terms steps name time_a c a → Held terms steps name time_b d b → a.epoch ≡ b.epoch → c ≡ d

-- At each moment of true time one client at most may rely on a lease of a name.
abbrev pub OneRelies : Type 0
OneRelies = (terms : Terms) (steps : List Step) → AreSteps terms steps → AreClocks terms
    → (name : Name) (time : ℕ) (c d : Client) (a b : Ask) →
    MayRely terms steps name time c a → MayRely terms steps name time d b → c ≡ d

-- Who may rely on a lease of a name has a greater epoch than each other client that held one by then.
abbrev pub HeldEpochsFollow : Type 0
HeldEpochsFollow = (terms : Terms) (steps : List Step) → AreSteps terms steps → AreClocks terms
    → (name : Name) (time_a time_b : ℕ) (c d : Client) (a b : Ask) →
    Held terms steps name time_a c a → MayRely terms steps name time_b d b → time_a ≤ time_b → (a.epoch < b.epoch) ⊎ (c ≡ d)

-- who holds a lease sent no release of its epoch, or of a greater one, by then
abbrev pub HolderSentNone : Type 0
HolderSentNone = (terms : Terms) (steps : List Step) → AreSteps terms steps → (name : Name) (time : ℕ) (client : Client) (ask : Ask)
    → Holds terms steps name time client ask →
    (s : Step) (other : Client) (epoch : ℕ) → IsAmong s steps → s.by ≡ client → s.what ≡ sends (release name other epoch)
    → ask.epoch ≤ epoch → time < s.at

-- The premises can be met. One client, of three machines, holds the lease of a name; one of another machine holds that of another name, and
-- then the next one of the
-- first, which was released. Its machine begins anew, and the first client holds the next lease of the other name.
pub record LeasesHappen : Type 0 where
  pub terms : Terms
  pub steps : List Step
  pub three : terms.nodes ≡ 3
  pub are : AreSteps terms steps
  pub clocks : AreClocks terms
  pub x : Name
  pub y : Name
  pub names : x ≡ y → ⊥
  pub c : Client
  pub d : Client
  pub others : c ≡ d → ⊥
  pub first : (time : ℕ) × (a : Ask) × Holds terms steps x time c a
  pub other : (time : ℕ) × (a : Ask) × (first.0 < time) × Holds terms steps y time d a
  pub handed_over : (time : ℕ) × (a : Ask) × (other.0 < time) × Holds terms steps x time d a
  pub began_anew : (time : ℕ) × (process : ℕ) × (handed_over.0 < time)
      × ((machines terms (up_to time steps) d.machine).process ≡ Some process) × (d.boot ≡ process → ⊥)
  pub taken_over : (time : ℕ) × (a : Ask) × (began_anew.0 < time) × Holds terms steps y time c a

-- The rates are needed: where a clock stands, two clients may hold the lease of a name at a time.
pub record TwoMayHold : Type 0 where
  pub terms : Terms
  pub steps : List Step
  pub are : AreSteps terms steps
  pub margin : 33 * terms.relies_for + 2 * terms.grain ≤ 31 * terms.keeps
  pub name : Name
  pub time : ℕ
  pub c : Client
  pub d : Client
  pub others : c ≡ d → ⊥
  pub first : (a : Ask) × Holds terms steps name time c a
  pub second : (a : Ask) × Holds terms steps name time d a
