-- The premises can be met: a machine that is alone.
use Rattle.std.specs.Prelude.{ℕ, List, [], ◌∷◌}
use Rattle.lease_runs.specs.Lists.{IsAmong}
use Rattle.lease_network.specs.Network.{Name, Terms}
use Rattle.lease_network.specs.Laws.{AreClocks}
use Rattle.lease_machine.specs.declared.terms.LeaseTerms.{LeaseTerms}
use Rattle.lease_message.specs.declared.message.LeaseMessage.{LeaseMessage}
use Rattle.lease_session.specs.Feeding.{At, Answers, IsNew}
use Rattle.lease_session.specs.Reading.{meaning_of}
use Rattle.lease_session.specs.Steps.{MayBring, TellsTime}
use Rattle.lease_session.specs.Marks.{Mark}
use Rattle.lease_processes.specs.Printed.{IsHeldLine}
use Rattle.lease_processes.specs.Processes.{AreProcesses, Moment, begins, told}

-- with clocks that show the true time
abbrev pub true_time : LeaseTerms → Terms
true_time t = record { nodes = t.machines; keeps = t.keeps; relies_for = t.relies_for; clock = λ machine process time. time; grain = 64 }

-- its process begins, and is told a line at the time that the line tells
abbrev pub alone : ℕ → List ℕ → At → List Mark → At → List Moment
alone time line old marks new =
    record { at = time; machine = old.process.terms.machine; what = told line old marks new } ∷ record {
      at = 0;
      machine =
          old.process.terms.machine;
      what = begins old;
    } ∷ []

-- Whatever process begins, and whatever line it is told first that brings no message, over clocks that show the true time: the premises are
-- met.
abbrev pub PremisesAreMet : Type 0
PremisesAreMet = (line : List ℕ) (time : ℕ) (old new : At) → IsNew old.process.terms old.process.start [] old → Answers line old new
    → TellsTime time (meaning_of line)
    → ((message : LeaseMessage) → MayBring old.process (meaning_of line) message → ⊥)
    → AreClocks (true_time old.process.terms) × ((marks : List Mark)
    × AreProcesses (true_time old.process.terms) (alone time line old marks new))

-- ---- one that holds

-- the line is a `held` line, between what the process did and wrote before and behind it
pub record HasHeldLine (m : Moment) : Type 0 where
  pub name : Name
  pub epoch : ℕ
  pub until : ℕ
  pub line : IsHeldLine m name epoch until

-- There are processes that meet the premises, and a line of one of them tells a user that it holds a lease.
pub record SomebodyHolds : Type 0 where
  pub terms : Terms
  pub all : List Moment
  pub clocks : AreClocks terms
  pub are : AreProcesses terms all
  pub moment : Moment
  pub among : IsAmong moment all
  pub holds : HasHeldLine moment
