-- What is true of each machine.
use Rattle.std.specs.Prelude.{◌≡◌, ℕ, ◌≤◌, All, true, List, length}
use Rattle.std.specs.Option.{ForSome}
use Rattle.lease_runs.specs.declared.candidate.LeaseCandidate.{LeaseCandidate}
use Rattle.lease_machine.specs.declared.name_entry.TheConstants.{NAMES}
use Rattle.lease_machine.specs.declared.name_entry.NameEntry.{NameEntry}
use Rattle.lease_machine.specs.declared.terms.LeaseTerms.{LeaseTerms}
use Rattle.lease_machine.specs.Names.{are_apart}

-- the client is one of this process of the machine, by these terms
pub record IsOwn (terms : LeaseTerms) (process claims : ℕ) (c : LeaseCandidate) : Type 0 where
  pub of_machine : c.client.machine ≡ terms.machine
  pub of_process : c.client.boot ≡ process
  pub numbered : c.client.number ≤ claims
  pub voters : c.voters ≡ terms.machines
  pub time : c.relies_for ≡ terms.relies_for

pub record IsEntry (terms : LeaseTerms) (process claims began bound : ℕ) (e : NameEntry) : Type 0 where
  pub keeps : e.voter.keeps ≡ terms.keeps
  pub since : e.voter.began ≡ began
  pub allowed : e.voter.bound ≡ bound
  pub last : e.voter.last ≤ bound
  pub claim : ForSome e.claim (λ c. IsOwn terms process claims c.candidate)

pub record AreKept (terms : LeaseTerms) (process claims began bound floor : ℕ) (names : List NameEntry) : Type 0 where
  pub entries : All (IsEntry terms process claims began bound) names
  pub apart : are_apart names ≡ true
  pub few : length names ≤ NAMES
  pub floor_allowed : floor ≤ bound
