-- What a machine's code keeps, as what a machine of the network keeps.
use Rattle.std.specs.Prelude.{ℕ, ◌≡◌, ◌+◌, ◌<◌, Some}
use Rattle.lease_runs.specs.Voter.{Client}
use Rattle.lease_runs.specs.Candidate.{beginning}
use Rattle.lease_runs.specs.CandidateCode.{Shows}
use Rattle.lease_network.specs.Network.{Name, Terms, Machine, Event, MayDo, done}
use Rattle.lease_machine.specs.declared.terms.LeaseTerms.{LeaseTerms}
use Rattle.lease_machine.specs.declared.name_entry.Claim.{Claim}
use Rattle.lease_machine.specs.declared.state.LeaseMachine.{LeaseMachine}
use Rattle.lease_machine.specs.Machine.{claim_at, voter_at}
use Rattle.lease_machine.specs.Standing.{Stands}

-- the terms of the network are those of the machine
pub record AreOf (t : LeaseTerms) (terms : Terms) : Type 0 where
  pub nodes : terms.nodes ≡ t.machines
  pub keeps : terms.keeps ≡ t.keeps
  pub relies_for : terms.relies_for ≡ t.relies_for

-- what its clock shows its process
abbrev pub clock_of : Terms → LeaseMachine → ℕ → ℕ
clock_of terms c = terms.clock c.terms.machine c.process

-- At this time of its clock the code stands for this machine: its process runs there, each voter stands for that of the name, each client
-- that asks shows what it
-- keeps, and no client asked whose number is still to come.
pub record StandsFor (terms : Terms) (now : ℕ) (c : LeaseMachine) (m : Machine) : Type 0 where
  pub are : AreOf c.terms terms
  pub process : m.process ≡ Some c.process
  pub voters : (name : Name) → Stands c.process now (voter_at c name) (m.voter name)
  pub clients : (name : Name) (claim : Claim) → claim_at c name ≡ Some claim
      → Shows (clock_of terms c) claim.candidate (m.candidate claim.candidate.client.number name)
  pub unused : (number : ℕ) (name : Name) → c.claims < number → m.candidate number name ≡ beginning

-- Whatever machine the code stood for, it might do this then, by one of its clients, and the code stands for what that leaves.
abbrev pub Did : LeaseMachine → LeaseMachine → ℕ → Client → Event → Type 0
Did old new now by event = (terms : Terms) (at : ℕ) (m : Machine) → clock_of terms old at ≡ now → StandsFor terms now old m →
    MayDo terms by m at event × StandsFor terms now new (done terms by m at event)

-- The code stands for what it stood for.
abbrev pub DidNothing : LeaseMachine → LeaseMachine → ℕ → Type 0
DidNothing old new now = (terms : Terms) (m : Machine) → StandsFor terms now old m → StandsFor terms now new m
