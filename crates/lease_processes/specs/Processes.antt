-- The processes of leases of all machines: when each began, what each was told and when, and what it answered.
use Rattle.std.specs.Prelude.{ℕ, ◌≡◌, ◌≤◌, ◌==◌, max, if◌then◌else◌, List, [], ◌∷◌, Option, Some, None}
use Rattle.lease_runs.specs.Lists.{IsAmong}
use Rattle.lease_network.specs.Network.{Step, Terms}
use Rattle.lease_message.specs.declared.message.LeaseMessage.{LeaseMessage}
use Rattle.lease_steps.specs.StandsFor.{AreOf}
use Rattle.lease_session.specs.Feeding.{At, IsNew}
use Rattle.lease_session.specs.Own.{bound_by}
use Rattle.lease_session.specs.Reading.{meaning_of}
use Rattle.lease_session.specs.Rows.{send}
use Rattle.lease_session.specs.Steps.{IsAnswered, MayBring, TellsTime, steps_with}
use Rattle.lease_session.specs.Marks.{Mark, wrote}

-- ---- what happens

-- A process begins on its machine, in place of the one before it, and is here then. Or the one that began last is told a line, where it is,
-- answers it with these steps
-- and lines, and is here then.
pub data Turned : Type 0 where
  begins : At → Turned
  told : List ℕ → At → List Mark → At → Turned

-- a true time, a machine, and what its process did then
pub record Moment : Type 0 where
  pub at : ℕ
  pub machine : ℕ
  pub what : Turned

abbrev pub left_by : Turned → At
left_by (begins new) = new
left_by (told line old marks new) = new

abbrev pub marks_of : Turned → List Mark
marks_of (begins new) = []
marks_of (told line old marks new) = marks

-- the number of the process
abbrev pub process_of : Moment → ℕ
process_of m = (left_by m.what).process.start.process

-- where the process of a machine is behind these moments, the newest of which is the first
abbrev pub here : List Moment → ℕ → Option At
here [] n = None
here (m ∷ past) n = if m.machine == n then Some (left_by m.what) else here past n

abbrev pub last_moment : List Moment → ℕ
last_moment [] = 0
last_moment (m ∷ past) = m.at

-- the steps that they are
abbrev pub steps_of : List Moment → List Step
steps_of [] = []
steps_of (m ∷ past) = steps_with m.at (steps_of past) (marks_of m.what)

-- ---- what may begin

-- a process of this number began on the machine
pub record HasBegun (past : List Moment) (n process : ℕ) : Type 0 where
  pub moment : Moment
  pub among : IsAmong moment past
  pub machine : moment.machine ≡ n
  pub numbered : process_of moment ≡ process

-- where a machine's process is, it grants no epoch above this one before it reserves more
abbrev pub bound_of : Option At → ℕ
bound_of None = 0
bound_of (Some a) = bound_by a.process.start a.process.machine

-- its file reserved epochs up to this one for it: what its store says, and its floor
abbrev pub reserved_of : Option At → ℕ
reserved_of None = 0
reserved_of (Some a) = max a.reserved a.process.start.floor

-- A process that begins was told nothing yet. Its file gave it a number that no process of the machine had, and a floor at or above each
-- epoch that the one before it may
-- have granted; all processes have the same terms.
pub record MayBegin (terms : Terms) (past : List Moment) (n : ℕ) (new : At) : Type 0 where
  pub is_new : IsNew new.process.terms new.process.start [] new
  pub machine : new.process.terms.machine ≡ n
  pub of_terms : AreOf new.process.terms terms
  pub own_number : HasBegun past n new.process.start.process → ⊥
  pub floor : bound_of (here past n) ≤ new.process.start.floor

-- ---- what may be told

-- the message stood in a `send` line of one of the answers
pub record WasHandedOut (past : List Moment) (message : LeaseMessage) : Type 0 where
  pub moment : Moment
  pub among : IsAmong moment past
  pub to : ℕ
  pub bytes : List ℕ
  pub line : IsAmong (wrote (send to message bytes)) (marks_of moment.what)

-- The process that began last on the machine is told a line, with any text of earlier answers that wasn't cleared. The time in the line is
-- what the machine's clock shows
-- the process then, and what it delivers was handed out before.
pub record IsTold (terms : Terms) (past : List Moment) (at n : ℕ) (line : List ℕ) (old : At) (marks : List Mark) (new : At) : Type 0 where
  pub before : At
  pub runs : here past n ≡ Some before
  pub same : old ≡ record before { process = record before.process { text = old.process.text } }
  pub clock : TellsTime (terms.clock n before.process.start.process at) (meaning_of line)
  pub brought : (message : LeaseMessage) → MayBring old.process (meaning_of line) message → WasHandedOut past message
  pub answered : IsAnswered marks line old new

abbrev pub MayTurn : Terms → List Moment → ℕ → ℕ → Turned → Type 0
MayTurn terms past at n (begins new) = MayBegin terms past n new
MayTurn terms past at n (told line old marks new) = IsTold terms past at n line old marks new

-- Each of these moments may follow those before it. So of each machine one process runs at a time; it may end at any moment, whatever it
-- was told.
abbrev pub AreProcesses : Terms → List Moment → Type 0
AreProcesses terms [] = Unit {0}
AreProcesses terms (m ∷ past) = AreProcesses terms past × (last_moment past ≤ m.at) × MayTurn terms past m.at m.machine m.what

-- ---- sessions

-- lines that are answered one behind another, each with its marks
abbrev pub AreTold : List (List ℕ) → At → At → Type 0
AreTold [] old new = new ≡ old
AreTold (line ∷ lines) old new = (marks : List Mark) × ((mid : At) × IsAnswered marks line old mid × AreTold lines mid new)
