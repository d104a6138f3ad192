-- What the one who asks here for a name does.
use Rattle.std.specs.Prelude.{◌≡◌, ◌⊎◌, ℕ, ◌+◌, ◌-◌, ◌^◌, ◌<◌, ◌≤◌, Option, Some}
use Rattle.lease_runs.specs.declared.client_id.ClientId.{ClientId}
use Rattle.lease_runs.specs.declared.candidate.Request.{Request}
use Rattle.lease_runs.specs.Run.{ClientEvent}
use Rattle.lease_runs.specs.Candidate.{beginning}
use Rattle.lease_runs.specs.CandidateCode.{HasTerms, IsActed, IsHeard, Shows}
use Rattle.lease_machine.specs.declared.terms.LeaseTerms.{LeaseTerms}
use Rattle.lease_machine.specs.declared.name_entry.Claim.{Claim}

-- one who begins to ask, as the client of this number of a process of the machine
pub record IsNew (terms : LeaseTerms) (process number user : ℕ) (c : Claim) : Type 0 where
  pub of_user : c.user ≡ user
  pub client : c.candidate.client ≡ record { machine = terms.machine; boot = process; number = number }
  pub voters : c.candidate.voters ≡ terms.machines
  pub time : c.candidate.relies_for ≡ terms.relies_for
  pub begins : (clock : ℕ → ℕ) → Shows clock c.candidate beginning

-- somebody asks, and is new
pub record IsBegun (terms : LeaseTerms) (process number user : ℕ) (claim : Option Claim) : Type 0 where
  pub c : Claim
  pub is : claim ≡ Some c
  pub new : IsNew terms process number user c

-- it is the same one, with the same client
pub record IsSameClaim (c d : Claim) : Type 0 where
  pub user : d.user ≡ c.user
  pub terms : HasTerms c.candidate.client c.candidate.voters c.candidate.relies_for d.candidate

-- its client did this, and may do so
pub record Acts (old new : Option Claim) (now : ℕ) (what : ClientId → ℕ → ClientEvent) : Type 0 where
  pub c : Claim
  pub d : Claim
  pub was : old ≡ Some c
  pub is : new ≡ Some d
  pub same : IsSameClaim c d
  pub acted : IsActed c.candidate d.candidate now (what c.candidate.client)

-- its client, which is this one, heard that the voter granted the request of this number
pub record Hears (old new : Option Claim) (client : ClientId) (now voter number : ℕ) : Type 0 where
  pub c : Claim
  pub d : Claim
  pub was : old ≡ Some c
  pub is : new ≡ Some d
  pub same : IsSameClaim c d
  pub own : c.candidate.client ≡ client
  pub heard : IsHeard c.candidate d.candidate now voter number

-- nobody asks, or the client may not ask under this epoch: it is given up, or no number is left
abbrev pub MayNotAsk : ℕ → Option Claim → Type 0
MayNotAsk epoch claim = (c : Claim) → claim ≡ Some c → (epoch ≤ c.candidate.given_up) ⊎ (c.candidate.number ≡ 2 ^ 64 - 1)

-- nobody asks as this client
abbrev pub IsNotOf : ClientId → Option Claim → Type 0
IsNotOf client claim = (c : Claim) → claim ≡ Some c → c.candidate.client ≡ client → ⊥

-- its client relies by this request at this time of its clock
pub record Relies (claim : Option Claim) (now : ℕ) (request : Request) : Type 0 where
  pub c : Claim
  pub is : claim ≡ Some c
  pub lease : c.candidate.lease ≡ Some request
  pub in_time : now < request.sent + c.candidate.relies_for

-- it relies by none
abbrev pub ReliesNot : Option Claim → ℕ → Type 0
ReliesNot claim now = (c : Claim) → claim ≡ Some c → (request : Request) → c.candidate.lease ≡ Some request
    → request.sent + c.candidate.relies_for ≤ now
