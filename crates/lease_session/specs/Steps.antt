-- Turns of processes, as steps over a network.
use Rattle.std.specs.Prelude.{ℕ, ◌≡◌, ◌≢◌, ◌⊎◌, ◌≤◌, List, [], ◌∷◌, ◌++◌, ◌+◌, false, Option, Some, None}
use Rattle.line_words.specs.Lines.{bytes_of}
use Rattle.lease_runs.specs.Lists.{IsAmong}
use Rattle.lease_runs.specs.Voter.{Client, Ask}
use Rattle.lease_network.specs.Network.{Name, Message, Step, Sends, Terms, AreSteps, last_time, machines}
use Rattle.lease_network.specs.Laws.{Held, Holds}
use Rattle.lease_message.specs.declared.message.LeaseMessage.{LeaseMessage}
use Rattle.lease_session.specs.declared.asked.Came.TheVariants as came
use Rattle.lease_session.specs.declared.process.LeaseProcess.{LeaseProcess}
use Rattle.lease_session.specs.Feeding.{Answers, At, IsReserved}
use Rattle.lease_session.specs.Opening.{BringsBy}
use Rattle.lease_session.specs.Reading.{Meaning, Bad, Tick, Deliver, Acquire, Release, meaning_of}
use Rattle.lease_session.specs.Rows.{Row, held, said, send}
use Rattle.lease_session.specs.Holding.{AreHoldersTold}
use Rattle.lease_session.specs.Marks.{Mark, did, wrote}
use Rattle.lease_session.specs.Telling.{AreTold, told_after}
use Rattle.lease_session.specs.Turns.{Who, who, Follow, IsAt, IsHeld, Turn, after_marks, key_of, sent_in, text_of}

-- with the steps among the marks, at this true time
abbrev pub steps_with : ℕ → List Step → List Mark → List Step
steps_with at past [] = past
steps_with at past (did by what ∷ marks) = steps_with at (record { at = at; by = by; what = what } ∷ past) marks
steps_with at past (wrote row ∷ marks) = steps_with at past marks

-- one of the steps sent it
abbrev pub WasSentIn : List Step → Message → Type 0
WasSentIn steps message = (s : Step) × IsAmong s steps × Sends s message

-- the process runs on its machine, or no step is one of its own
abbrev pub RunsOrIsNew : List Step → Client → Option ℕ → Type 0
RunsOrIsNew past self process = (process ≡ Some self.boot)
    ⊎ ((s : Step) → IsAmong s past → s.by.machine ≡ self.machine → s.by.boot ≡ self.boot → ⊥)

-- a client of this process holds the lease over these steps, by a request of this epoch, until so long after it was sent as a client relies
-- on it
pub record IsHolder (terms : Terms) (w : Who) (at : ℕ) (past : List Step) (name : Name) (epoch until : ℕ) : Type 0 where
  pub client : Client
  pub ask : Ask
  pub holds : Holds terms past name at client ask
  pub has : Held terms past name at client ask
  pub of_epoch : ask.epoch ≡ epoch
  pub machine : client.machine ≡ w.self.machine
  pub boot : client.boot ≡ w.self.boot
  pub ends : until ≡ terms.clock w.self.machine w.self.boot ask.sent + terms.relies_for

-- who is told to hold a lease holds it over the steps up to then
abbrev pub HoldsThen : Terms → Who → ℕ → List Step → Row → Type 0
HoldsThen terms w at past (held name user epoch until) = IsHolder terms w at past name epoch until
HoldsThen terms w at past row = Unit {0}

-- so it is of each line among the marks
abbrev pub AreHeld : Terms → Who → ℕ → List Step → List Mark → Type 0
AreHeld terms w at past [] = Unit {0}
AreHeld terms w at past (did by what ∷ marks) = AreHeld terms w at (record { at = at; by = by; what = what } ∷ past) marks
AreHeld terms w at past (wrote row ∷ marks) = HoldsThen terms w at past row × AreHeld terms w at past marks

-- what a turn adds to the steps of all: steps of its own process, and of its own machine alone; the messages in its `send` lines were sent
-- by it, or had been before
pub record Adds (terms : Terms) (w : Who) (at : ℕ) (past : List Step) (marks : List Mark) (sent : List Message) : Type 0 where
  pub are : AreSteps terms (steps_with at past marks)
  pub kept : machines terms (steps_with at past marks) w.self.machine ≡ after_marks terms at (machines terms past w.self.machine) marks
  pub last : last_time (steps_with at past marks) ≤ at
  pub sends : (message : Message) → IsAmong message (sent_in sent marks) → WasSentIn (steps_with at past marks) message
  pub runs : RunsOrIsNew (steps_with at past marks) w.self (machines terms (steps_with at past marks) w.self.machine).process
  pub held : AreHeld terms w at past marks
  pub own : (s : Step) → IsAmong s (steps_with at past marks)
      → IsAmong s past ⊎ ((s.by.machine ≡ w.self.machine) × (s.by.boot ≡ w.self.boot))
  pub others : (n : ℕ) → n ≢ w.self.machine → machines terms (steps_with at past marks) n ≡ machines terms past n
  pub handed : (to : ℕ) (message : LeaseMessage) (bytes : List ℕ) → IsAmong (wrote (send to message bytes)) marks → (x : Message)
      → IsAmong x (said message)
      → WasSentIn (steps_with at past marks) x

-- Where what a line brought was sent by steps before, and no step came later, the steps of a turn may follow those of all before.
abbrev pub TurnsAreSteps : Type 0
TurnsAreSteps = (terms : Terms) (w : Who) (at : ℕ) (past : List Step) (brought : List Message) (marks : List Mark) → AreSteps terms past
    → last_time past ≤ at
    → RunsOrIsNew past w.self (machines terms past w.self.machine).process
    → ((message : Message) → IsAmong message brought → WasSentIn past message)
    → Follow terms w at brought [] (machines terms past w.self.machine) marks → Adds terms w at past marks []

-- And so do those of a process that makes the turn, which then stands for what its machine keeps over all steps.
abbrev pub TurnGoesOn : Type 0
TurnGoesOn = (terms : Terms) (at now : ℕ) (past : List Step) (brought : List Message) (old new : LeaseProcess)
    (turn : Turn [] brought now old new)
    → terms.clock old.terms.machine old.start.process at ≡ now → AreSteps terms past → last_time past ≤ at
    → RunsOrIsNew past (who old).self (machines terms past old.terms.machine).process
    → ((message : Message) → IsAmong message brought → WasSentIn past message)
    → IsAt terms now old (machines terms past old.terms.machine)
    → Adds terms (who old) at past turn.marks [] × IsAt terms now new (machines terms (steps_with at past turn.marks) old.terms.machine)

-- Who is told to hold a lease holds it, over all steps up to then, under that epoch and until that time of the clock.
abbrev pub HeldLinesHold : Type 0
HeldLinesHold = (terms : Terms) (w : Who) (at : ℕ) (past : List Step) (name : Name) (user epoch until : ℕ) → last_time past ≤ at
    → AreSteps terms past → IsHeld terms w at (machines terms past w.self.machine) name epoch until
    → IsHolder terms w at past name epoch until

-- ---- lines

-- the time that a line tells is this one
abbrev pub TellsTime : ℕ → Meaning → Type 0
TellsTime time Bad = Unit {0}
TellsTime time (Tick now) = time ≡ now
TellsTime time (Deliver now word) = time ≡ now
TellsTime time (Acquire now name user) = time ≡ now
TellsTime time (Release now name user) = time ≡ now

-- the line may bring this message, under the keys and the stamps that are kept
abbrev pub MayBring : LeaseProcess → Meaning → LeaseMessage → Type 0
MayBring p Bad message = ⊥
MayBring p (Tick now) message = ⊥
MayBring p (Deliver now word) message = BringsBy p.seal (bytes_of word) (Some (came.Message message))
MayBring p (Acquire now name user) message = ⊥
MayBring p (Release now name user) message = ⊥

-- what a line may bring was sent by a step before
abbrev pub IsDelivered : List Step → LeaseProcess → Meaning → Type 0
IsDelivered past p meaning = (message : LeaseMessage) → MayBring p meaning message → (x : Message) → IsAmong x (said message)
    → WasSentIn past x

-- a line is answered only while the process goes on, no epoch is granted above what is reserved, and who holds a lease was told so
pub record IsSound (a : At) : Type 0 where
  pub goes_on : a.stopped ≡ false → a.process.halt ≡ None
  pub reserved : IsReserved a
  pub holders : a.process.halt ≡ None → AreHoldersTold a.process.machine a.process.told.items

-- A line may be answered at a true time, behind these steps of all machines: what it tells is the clock's time then, what it brings was
-- sent before, and its process stands
-- for what its machine keeps over all steps.
pub record MayCome (terms : Terms) (at : ℕ) (past : List Step) (line : List ℕ) (old : At) : Type 0 where
  pub clock : TellsTime (terms.clock old.process.terms.machine old.process.start.process at) (meaning_of line)
  pub brought : IsDelivered past old.process (meaning_of line)
  pub are : AreSteps terms past
  pub last : last_time past ≤ at
  pub runs : RunsOrIsNew past (who old.process).self (machines terms past old.process.terms.machine).process
  pub stands : IsAt terms old.told old.process (machines terms past old.process.terms.machine)

-- The answer to a line is the text of these marks, whose steps follow those of all before, whatever these are; no lease is given up unsaid.
pub record IsAnswered (marks : List Mark) (line : List ℕ) (old new : At) : Type 0 where
  pub text : new.process.text.items ≡ old.process.text.items ++ text_of marks
  pub terms : new.process.terms ≡ old.process.terms
  pub start : new.process.start ≡ old.process.start
  pub key : key_of new.process.seal ≡ key_of old.process.seal
  pub told : new.process.told.items ≡ told_after old.process.told.items marks
  pub careful : AreTold old.process.told.items marks
  pub sound : IsSound new
  pub goes : (terms : Terms) (at : ℕ) (past : List Step) → MayCome terms at past line old
      → Adds terms (who old.process) at past marks [] × IsAt terms new.told new.process
      (machines terms (steps_with at past marks) old.process.terms.machine)

-- So it is of each line that a process answers.
abbrev pub LinesAreSteps : Type 0
LinesAreSteps = (line : List ℕ) (old new : At) → Answers line old new → IsSound old → (marks : List Mark) × IsAnswered marks line old new
