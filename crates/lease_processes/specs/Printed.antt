-- What holds of the lines that processes of leases answer.
use Rattle.std.specs.Prelude.{ℕ, ◌≡◌, ◌⊎◌, ◌+◌, ◌<◌, ◌≤◌, List, ◌∷◌, ◌++◌}
use Rattle.lease_runs.specs.Lists.{IsAmong}
use Rattle.lease_runs.specs.Voter.{Client, Ask}
use Rattle.lease_network.specs.Network.{Name, release, sends, Step, Terms, AreSteps}
use Rattle.lease_network.specs.Laws.{AreClocks, Held}
use Rattle.lease_session.specs.Feeding.{At, AreAnswered}
use Rattle.lease_session.specs.Rows.{Row, send, held, lost, refused, unserved, next, fault}
use Rattle.lease_session.specs.Steps.{IsSound}
use Rattle.lease_session.specs.Marks.{Mark, wrote}
use Rattle.lease_processes.specs.Processes.{AreProcesses, AreTold, Moment, bound_of, here, marks_of, process_of, reserved_of, steps_of}

-- All that the processes answer is what machines of one network do.
abbrev pub AreOneNetwork : Type 0
AreOneNetwork = (terms : Terms) (all : List Moment) → AreProcesses terms all → AreSteps terms (steps_of all)

-- ---- `held` lines

-- A line of this moment says that a user holds the lease of the name under this epoch until this time of its machine's clock, between what
-- the process did and wrote before
-- and behind it.
pub record IsHeldLine (m : Moment) (name : Name) (epoch until : ℕ) : Type 0 where
  pub user : ℕ
  pub front : List Mark
  pub back : List Mark
  pub parts : marks_of m.what ≡ front ++ wrote (held name user epoch until) ∷ back

-- what stands behind it: a client of the process held the lease by then, by a request of this epoch, and UNTIL is so long after it was sent
-- as a client relies on a lease
pub record IsLease (terms : Terms) (all : List Moment) (m : Moment) (name : Name) (epoch until : ℕ) : Type 0 where
  pub client : Client
  pub ask : Ask
  pub has : Held terms (steps_of all) name m.at client ask
  pub of_epoch : ask.epoch ≡ epoch
  pub machine : client.machine ≡ m.machine
  pub boot : client.boot ≡ process_of m
  pub ends : until ≡ terms.clock m.machine (process_of m) ask.sent + terms.relies_for

abbrev pub HeldLinesAreLeases : Type 0
HeldLinesAreLeases = (terms : Terms) (all : List Moment) → AreProcesses terms all → (m : Moment) → IsAmong m all
    → (name : Name) (epoch until : ℕ) →
    IsHeldLine m name epoch until → IsLease terms all m name epoch until

abbrev pub IsOneProcess : Moment → Moment → Type 0
IsOneProcess m o = (m.machine ≡ o.machine) × (process_of m ≡ process_of o)

-- two `held` lines of one name and epoch are of one process
abbrev pub OneEpochEach : Type 0
OneEpochEach = (terms : Terms) (all : List Moment) → AreProcesses terms all → (m o : Moment) → IsAmong m all → IsAmong o all →
    (name : Name) (epoch until later : ℕ) → IsHeldLine m name epoch until → IsHeldLine o name epoch later → IsOneProcess m o

-- where the request of the second was sent behind the moment of the first, by true time, its epoch is greater, or they are one process's,
-- of one epoch
abbrev pub EpochsRise : Type 0
EpochsRise = (terms : Terms) (all : List Moment) → AreProcesses terms all → (m o : Moment) (name : Name) (first second until later : ℕ) →
    IsLease terms all m name first until → (it : IsLease terms all o name second later) → m.at < it.ask.sent
    → (first < second) ⊎ (IsOneProcess m o × (first ≡ second))

-- At this true time the user who was told by the line may rely on it: its machine's clock shows less than UNTIL to its process, and no
-- release of this epoch, or of a
-- greater one, was sent for it by then.
pub record Relies (terms : Terms) (all : List Moment) (m : Moment) (name : Name) (epoch until time : ℕ) : Type 0 where
  pub lease : IsLease terms all m name epoch until
  pub behind : m.at ≤ time
  pub in_time : terms.clock m.machine (process_of m) time < until
  pub goes_on : (s : Step) (other : Client) (given_up : ℕ) → IsAmong s (steps_of all) → s.by ≡ lease.client
      → s.what ≡ sends (release name other given_up) → epoch ≤ given_up → time < s.at

-- at each moment of true time the users of one process at most may rely on a lease of a name
abbrev pub OneAtATime : Type 0
OneAtATime = (terms : Terms) (all : List Moment) → AreProcesses terms all → AreClocks terms
    → (m o : Moment) (name : Name) (first second until later time : ℕ) →
    Relies terms all m name first until time → Relies terms all o name second later time → IsOneProcess m o

-- who may rely on a lease has a greater epoch than each `held` line of another process before
abbrev pub EpochsFollow : Type 0
EpochsFollow = (terms : Terms) (all : List Moment) → AreProcesses terms all → AreClocks terms
    → (m o : Moment) (name : Name) (first second until later time : ℕ) →
    IsLease terms all m name first until → Relies terms all o name second later time → m.at ≤ time → (first < second) ⊎ IsOneProcess m o

-- ---- what a user goes by

-- the line says that the lease of the name is held, or lost
abbrev pub IsAbout : Name → Row → Type 0
IsAbout name (send to message bytes) = ⊥
IsAbout name (held other user epoch until) = other ≡ name
IsAbout name (lost other epoch) = other ≡ name
IsAbout name (refused why) = ⊥
IsAbout name (unserved why other user) = ⊥
IsAbout name (next time) = ⊥
IsAbout name fault = ⊥

abbrev pub SaysNothing : Name → List Mark → Type 0
SaysNothing name marks = (row : Row) → IsAmong (wrote row) marks → IsAbout name row → ⊥

-- Up to this true time the `held` line is the last that its process says of the name: neither another `held` line nor a `lost` line comes
-- behind it.
pub record IsLastWord (all : List Moment) (m : Moment) (name : Name) (back : List Mark) (time : ℕ) : Type 0 where
  pub newer : List Moment
  pub past : List Moment
  pub stands : all ≡ newer ++ m ∷ past
  pub here : SaysNothing name back
  pub since : (o : Moment) → IsAmong o newer → IsOneProcess o m → o.at ≤ time → SaysNothing name (marks_of o.what)

-- A user goes by the last line of its process: until UNTIL it may rely on the lease, since a lease is given up by no process that doesn't
-- say so.
abbrev pub LastWordHolds : Type 0
LastWordHolds = (terms : Terms) (all : List Moment) → AreProcesses terms all → (m : Moment) (name : Name) (epoch until time : ℕ)
    → (h : IsHeldLine m name epoch until)
    → IsLastWord all m name h.back time → m.at ≤ time → terms.clock m.machine (process_of m) time < until
    → Relies terms all m name epoch until time

-- ---- sessions

-- Where a file gives the next process of a machine a floor at or above all that it reserved for the one before, the premise on floors is
-- met: no process grants an epoch
-- above what its store says that it reserved.
abbrev pub FilesGiveFloors : Type 0
FilesGiveFloors = (terms : Terms) (past : List Moment) → AreProcesses terms past → (n floor : ℕ) → reserved_of (here past n) ≤ floor
    → bound_of (here past n) ≤ floor

-- the lines that a session is fed with are such lines
abbrev pub FedIsTold : Type 0
FedIsTold = (lines : List (List ℕ)) (old new : At) → AreAnswered lines old new → IsSound old → AreTold lines old new
