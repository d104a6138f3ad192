-- What comes of the lines that a process is told.
use Rattle.std.specs.Prelude.{ℕ, ◌≡◌, ◌^◌, ◌&&◌, ◌++◌, leb, ltb, Bool, true, false, List, [], Option, Some, None}
use Rattle.line_words.specs.Lines.{bytes_of}
use Rattle.lease_network.specs.Network.{Message}
use Rattle.lease_session.specs.declared.asked.Came.{Came}
use Rattle.lease_session.specs.declared.asked.Came.TheVariants as came
use Rattle.lease_session.specs.declared.process.LeaseProcess.{LeaseProcess}
use Rattle.lease_session.specs.declared.refusing.Halt.{Halt}
use Rattle.lease_session.specs.declared.refusing.Halt.TheVariants.{Device}
use Rattle.lease_session.specs.declared.refusing.Refusal.{Refusal as Refused}
use Rattle.lease_session.specs.declared.refusing.Refusal.TheVariants as why
use Rattle.lease_session.specs.Reading.{Meaning, Bad, Tick, Deliver, Acquire, Release}
use Rattle.lease_session.specs.Opening.{BringsBy}
use Rattle.lease_session.specs.Replies.{Asks, Releases, RepliesTo}
use Rattle.lease_session.specs.Rows.{Row, refused, next, fault, row_text, said}
use Rattle.lease_session.specs.Turns.{IsOut, IsStill, Turn}

-- the messages that may be taken behind what came
abbrev pub brought_by : Came → List Message
brought_by (came.Message message) = said message
brought_by other = []

-- whether a line may tell this time, where the last one told that
abbrev pub goes_on : ℕ → ℕ → Bool
goes_on told now = leb told now && ltb now (2 ^ 62)

-- a process that goes on writes this line and no other, unless no memory is left
abbrev pub Says : Row → LeaseProcess → LeaseProcess → Type 0
Says row old new = old.halt ≡ None → (IsOut new → ⊥) → (new.halt ≡ None) × (new.text.items ≡ old.text.items ++ row_text row)

-- the process says why, and does nothing else
abbrev pub Refuses : Refused → ℕ → ℕ → LeaseProcess → LeaseProcess → Type 0
Refuses reason told then old new = IsStill old new × (then ≡ told) × Says (refused reason) old new

-- A line that tells a time: the process makes its steps at that time of the clock, and takes no other message than the line brought. Where
-- an earlier line told a later
-- time, it does nothing.
abbrev pub ComesBy : Bool → ℕ → List Message → ℕ → ℕ → LeaseProcess → LeaseProcess → Type 0
ComesBy true now brought told then old new = Turn [] brought now old new × (then ≡ now)
ComesBy false now brought told then old new = Refuses why.Time told then old new

abbrev pub Comes : ℕ → List Message → ℕ → ℕ → LeaseProcess → LeaseProcess → Type 0
Comes now brought told then old new = ComesBy (goes_on told now) now brought told then old new

-- ---- a word that is delivered

abbrev pub DeliversIt : Option Came → ℕ → ℕ → ℕ → LeaseProcess → LeaseProcess → Type 0
DeliversIt None now told then old new = Refuses why.Bad told then old new
DeliversIt (Some it) now told then old new = Turn [] (brought_by it) now old new × (then ≡ now) × RepliesTo old.terms now it new

abbrev pub DeliversBy : Bool → ℕ → List ℕ → ℕ → ℕ → LeaseProcess → LeaseProcess → Type 0
DeliversBy true now word told then old new = (IsOut new → ⊥)
    → (it : Option Came) × BringsBy old.seal (bytes_of word) it × DeliversIt it now told then old new
DeliversBy false now word told then old new = Refuses why.Time told then old new

abbrev pub Delivers : ℕ → List ℕ → ℕ → ℕ → LeaseProcess → LeaseProcess → Type 0
Delivers now word told then old new = DeliversBy (goes_on told now) now word told then old new

-- ---- a line

abbrev pub ComesOf : Meaning → ℕ → ℕ → LeaseProcess → LeaseProcess → Type 0
ComesOf Bad told then old new = Refuses why.Bad told then old new
ComesOf (Tick now) told then old new = Comes now [] told then old new
ComesOf (Deliver now word) told then old new = Delivers now word told then old new
ComesOf (Acquire now name user) told then old new = Comes now [] told then old new × (goes_on told now ≡ true → Asks name user now old new)
ComesOf (Release now name user) told then old new = Comes now [] told then old new
    × (goes_on told now ≡ true → Releases name user now old new)

-- ---- how its answer ends

-- by the line that says that the device failed, or by the one that says when something is due next
abbrev pub last_row : Bool → Option ℕ → Row
last_row true due = fault
last_row false due = next due

abbrev pub IsHalted : Bool → Option Halt → Type 0
IsHalted true halt = halt ≡ Some Device
IsHalted false halt = halt ≡ None

-- the answer of a line ends so; all else stays
pub record IsEnded (due : Option ℕ) (stops : Bool) (old new : LeaseProcess) : Type 0 where
  pub halted : IsHalted stops old.halt
  pub same : new ≡ record old { text = new.text }
  pub text : new.text.items ≡ old.text.items ++ row_text (last_row stops due)
