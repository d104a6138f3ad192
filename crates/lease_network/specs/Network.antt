-- Machines that vote for leases of many names and ask for them, and what goes between them.
use Rattle.std.specs.Prelude.{ℕ, ◌≡◌, ◌≤◌, ◌==◌, if◌then◌else◌, List, [], ◌∷◌, Option, Some, None}
use Rattle.std.specs.Str.{bytes_eq}
use Rattle.lease_runs.specs.Lists.{IsAmong}
use Rattle.lease_runs.specs.Voter.{Client, Ask, VoterEvent, grants, releases, raises, restarts, Voter, opening, IsPossible, after}
use Rattle.lease_runs.specs.Run.{ClientEvent, asks, hears, stops}
use Rattle.lease_runs.specs.Candidate.{Candidate, beginning, MayAct, after_act}

-- the bytes of a name
abbrev pub Name : Type 0
Name = List ℕ

-- What goes from machine to machine: a client asks for the lease of a name, or for its renewal, by a request of this number, under this
-- epoch; a client's request of
-- this number was granted by this voter; a client relies on no epoch of the name up to this one any more.
pub data Message : Type 0 where
  request : Name → Client → ℕ → ℕ → Message
  grant : Name → Client → ℕ → ℕ → Message
  release : Name → Client → ℕ → Message

-- What a process does: it begins, with the floor that its disk gives it, in place of the one before it on its machine; its durable count is
-- raised, so that epochs up to
-- this one may be granted, of all names; one of its clients sends a message: it asks, or it stops relying and says so; a message came: a
-- request is granted, and the
-- grant is sent, a grant is counted, a release frees the name. What is refused or passed over changes nothing, and is no event.
pub data Event : Type 0 where
  begins : ℕ → Event
  reserves : ℕ → Event
  sends : Message → Event
  takes : Message → Event

-- A true time, a client, and what it, or the process that it is of, did then. A process is a machine's, and is told by `boot`, a number
-- that no other process of the
-- machine has; `number` tells its clients apart.
pub record Step : Type 0 where
  pub at : ℕ
  pub by : Client
  pub what : Event

-- What stays the same: how many voters there are, the machines below this number; how long a voter keeps a grant, and how long a holder may
-- rely on it; what the clock
-- of a machine shows one of its processes, at a true time; how much readings may be off by rounding, in parts of 32 of the unit of time.
pub record Terms : Type 0 where
  pub nodes : ℕ
  pub keeps : ℕ
  pub relies_for : ℕ
  pub clock : ℕ → ℕ → ℕ → ℕ
  pub grain : ℕ

-- what a machine keeps: the process that began last, what it keeps of each name as a voter, and what each of its clients keeps of each name
pub record Machine : Type 0 where
  pub process : Option ℕ
  pub voter : Name → Voter
  pub candidate : ℕ → Name → Candidate

-- a request that was sent at this true time: no message says when
abbrev pub ask_at : Client → ℕ → ℕ → ℕ → Ask
ask_at client number epoch sent = record { client = client; number = number; epoch = epoch; sent = sent }

-- the name's voter may do this, and is this then
abbrev pub MayVote : Terms → Client → Machine → ℕ → VoterEvent → Name → Type 0
MayVote terms self m at what name = IsPossible terms.keeps (terms.clock self.machine) (m.voter name) at what

abbrev pub voter_then : Terms → Client → Machine → ℕ → VoterEvent → Name → Voter
voter_then terms self m at what name = after terms.keeps (terms.clock self.machine) (m.voter name) at what

-- this client may do this for the name, and is this then
abbrev pub MayAsk : Terms → Client → Machine → ℕ → ClientEvent → Name → Type 0
MayAsk terms self m at what name = MayAct terms.nodes self (m.candidate self.number name) at what

abbrev pub candidate_then : Terms → Client → Machine → ℕ → ClientEvent → Name → Candidate
candidate_then terms self m at what name = after_act terms.nodes terms.relies_for (terms.clock self.machine self.boot)
    (m.candidate self.number name) at what

-- what may be done on its machine: a start and a raise are of all names, whose epochs one count on the disk bounds
abbrev pub MayDo : Terms → Client → Machine → ℕ → Event → Type 0
MayDo terms self m at (begins floor) = (name : Name) → MayVote terms self m at (restarts self.boot floor) name
MayDo terms self m at (reserves bound) = (name : Name) → MayVote terms self m at (raises bound) name
MayDo terms self m at (sends (request name client number epoch)) = MayAsk terms self m at (asks (ask_at client number epoch at)) name
MayDo terms self m at (sends (grant name client number voter)) = ⊥
MayDo terms self m at (sends (release name client epoch)) = (client ≡ self) × MayAsk terms self m at (stops epoch) name
MayDo terms self m at (takes (request name client number epoch)) = MayVote terms self m at (grants (ask_at client number epoch at)) name
MayDo terms self m at (takes (grant name client number voter)) = MayAsk terms self m at (hears voter (ask_at client number 0 at)) name
MayDo terms self m at (takes (release name client epoch)) = MayVote terms self m at (releases client epoch) name

-- of this name the new, of others the old
abbrev pub at_name : {A : Type 0} → Name → (Name → A) → (Name → A) → Name → A
at_name name new old other = if bytes_eq name other then new other else old other

-- of this client the new, of others the old
abbrev pub at_client : ℕ → (Name → Candidate) → (ℕ → Name → Candidate) → ℕ → Name → Candidate
at_client number new old other name = if number == other then new name else old other name

-- what the machine keeps then
abbrev pub acted : Terms → Client → Machine → ℕ → Name → ClientEvent → Machine
acted terms self m at name what =
    record m {
      candidate = at_client self.number (at_name name (candidate_then terms self m at what) (m.candidate self.number)) m.candidate;
    }

abbrev pub done : Terms → Client → Machine → ℕ → Event → Machine
done terms self m at (begins floor) = record {
  process = Some self.boot;
  voter =
      voter_then terms self m at (restarts self.boot floor);
  candidate = λ number name. beginning;
}
done terms self m at (reserves bound) = record m { voter = voter_then terms self m at (raises bound) }
done terms self m at (sends (request name client number epoch)) = acted terms self m at name (asks (ask_at client number epoch at))
done terms self m at (sends (grant name client number voter)) = m
done terms self m at (sends (release name client epoch)) = acted terms self m at name (stops epoch)
done terms self m at (takes (request name client number epoch)) =
    record m { voter = at_name name (voter_then terms self m at (grants (ask_at client number epoch at))) m.voter }
done terms self m at (takes (grant name client number voter)) = acted terms self m at name (hears voter (ask_at client number 0 at))
done terms self m at (takes (release name client epoch)) =
    record m { voter = at_name name (voter_then terms self m at (releases client epoch)) m.voter }

-- what the machines keep after these steps, the newest of which is the first
abbrev pub machines : Terms → List Step → ℕ → Machine
machines terms [] n = record { process = None; voter = λ name. opening (terms.clock n); candidate = λ number name. beginning }
machines terms (s ∷ past) n =
    if s.by.machine == n then done terms s.by (machines terms past s.by.machine) s.at s.what else machines terms past n

-- the step sent the message: one of its client's own, or a grant of the request that its machine took
abbrev pub Sends : Step → Message → Type 0
Sends s (request name client number epoch) = s.what ≡ sends (request name client number epoch)
Sends s (grant name client number voter) = (s.by.machine ≡ voter) × ((epoch : ℕ) × (s.what ≡ takes (request name client number epoch)))
Sends s (release name client epoch) = s.what ≡ sends (release name client epoch)

-- what comes was sent before
abbrev pub WasSent : List Step → Event → Type 0
WasSent past (takes message) = (s : Step) × IsAmong s past × Sends s message
WasSent past other = Unit {0}

-- a process that begins is a new one; what else is done is of the machine's process
abbrev pub IsRunning : List Step → Client → Option ℕ → Event → Type 0
IsRunning past self process (begins floor) = (s : Step) → IsAmong s past → s.by.machine ≡ self.machine → s.by.boot ≡ self.boot → ⊥
IsRunning past self process other = process ≡ Some self.boot

abbrev pub last_time : List Step → ℕ
last_time [] = 0
last_time (s ∷ past) = s.at

-- the step may follow these, the newest of which is the first
pub record IsNext (terms : Terms) (past : List Step) (s : Step) : Type 0 where
  pub time : last_time past ≤ s.at
  pub running : IsRunning past s.by (machines terms past s.by.machine).process s.what
  pub may : MayDo terms s.by (machines terms past s.by.machine) s.at s.what
  pub sent : WasSent past s.what

-- each step may follow those before it
abbrev pub AreSteps : Terms → List Step → Type 0
AreSteps terms [] = Unit {0}
AreSteps terms (s ∷ past) = AreSteps terms past × IsNext terms past s
