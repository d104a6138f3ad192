-- What the steps of many machines are for one name: a run of its voters and clients.
use Rattle.std.specs.Prelude.{ℕ, ◌==◌, ◌&&◌, Bool, if◌then◌else◌, List, [], ◌∷◌, ◌++◌, map}
use Rattle.std.specs.Str.{bytes_eq}
use Rattle.lease_runs.specs.Voter.{Client, Ask, VoterEvent, grants, releases, raises, restarts, Moment}
use Rattle.lease_runs.specs.Run.{Run, ClientEvent, asks, hears, stops, Act, IsRun, IsTimed}
use Rattle.lease_network.specs.Network.{Name, request, grant, release, Event, begins, reserves, sends, takes, Step, Terms, AreSteps, ask_at}
use Rattle.lease_network.specs.Laws.{AreClocks}

abbrev pub when : {A : Type 0} → Bool → A → List A
when b x = if b then x ∷ [] else []

abbrev pub same_client : Client → Client → Bool
same_client c d = (c.machine == d.machine) && ((c.boot == d.boot) && (c.number == d.number))

-- the client's request of this number for the name, if the event sends it
abbrev pub or_before : Name → Client → ℕ → ℕ → Event → Ask → Ask
or_before name client number at (sends (request n c k epoch)) before =
    if bytes_eq n name && (same_client c client && (k == number)) then ask_at client number epoch at else before
or_before name client number at other before = before

-- the client's request of this number for the name, by the steps
abbrev pub asked_for : List Step → Name → Client → ℕ → Ask
asked_for [] name client number = ask_at client number 0 0
asked_for (s ∷ past) name client number = or_before name client number s.at s.what (asked_for past name client number)

-- what the event is to the name's voter; all are the steps of the run
abbrev pub voter_events : List Step → Name → Client → Event → List VoterEvent
voter_events all name self (begins floor) = restarts self.boot floor ∷ []
voter_events all name self (reserves bound) = raises bound ∷ []
voter_events all name self (takes (request n c k epoch)) = when (bytes_eq n name) (grants (ask_at c k epoch (asked_for all name c k).sent))
voter_events all name self (takes (release n c epoch)) = when (bytes_eq n name) (releases c epoch)
voter_events all name self other = []

-- and to its client
abbrev pub client_events : List Step → Name → ℕ → Event → List ClientEvent
client_events all name at (sends (request n c k epoch)) = when (bytes_eq n name) (asks (ask_at c k epoch at))
client_events all name at (sends (release n c epoch)) = when (bytes_eq n name) (stops epoch)
client_events all name at (takes (grant n c k voter)) = when (bytes_eq n name) (hears voter (asked_for all name c k))
client_events all name at other = []

abbrev pub moment_at : ℕ → VoterEvent → Moment
moment_at at what = record { at = at; what = what }

abbrev pub act_at : ℕ → Client → ClientEvent → Act
act_at at client what = record { at = at; client = client; what = what }

-- in the order in which they happened
abbrev pub history : List Step → Name → ℕ → List Step → List Moment
history all name voter [] = []
history all name voter (s ∷ past) =
    history all name voter past ++ (if s.by.machine == voter then map (moment_at s.at) (voter_events all name s.by s.what) else [])

abbrev pub acts : List Step → Name → List Step → List Act
acts all name [] = []
acts all name (s ∷ past) = acts all name past ++ map (act_at s.at s.by) (client_events all name s.at s.what)

abbrev pub run_of : Terms → Name → List Step → Run
run_of terms name steps = record {
  nodes = terms.nodes;
  keeps = terms.keeps;
  relies_for = terms.relies_for;
  clock = terms.clock;
  grain = terms.grain;
  history = λ voter. history steps name voter steps;
  acts = acts steps name steps;
}

-- all steps of machines are runs, of each name
abbrev pub StepsAreRuns : Type 0
StepsAreRuns = (terms : Terms) (steps : List Step) → AreSteps terms steps → (name : Name) →
    IsRun (run_of terms name steps) × (AreClocks terms → IsTimed (run_of terms name steps))
