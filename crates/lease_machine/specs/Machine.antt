-- What a machine keeps of each name, and what its calls leave.
use Rattle.std.specs.Prelude.{◌≡◌, ◌≢◌, ◌⊎◌, ℕ, ◌≤◌, true, false, List, length, Option, Some, None}
use Rattle.std.specs.List.{AllByRecursion}
use Rattle.lease_runs.specs.declared.voter.LeaseVoter.{LeaseVoter}
use Rattle.lease_machine.specs.declared.name_entry.TheConstants.{NAMES}
use Rattle.lease_machine.specs.declared.name_entry.Claim.{Claim}
use Rattle.lease_machine.specs.declared.name_entry.NameEntry.{NameEntry}
use Rattle.lease_machine.specs.declared.state.LeaseMachine.{LeaseMachine}
use Rattle.lease_machine.specs.Names.{is_dead, is_free, entry_of}

-- ---- what it keeps of a name

-- how it votes on a name of which it keeps nothing: no epoch up to its floor is granted
abbrev pub unknown : LeaseMachine → LeaseVoter
unknown m = record { keeps = m.terms.keeps; bound = m.bound; began = m.began; last = m.floor; holder = None; ends = 0 }

abbrev pub voter_in : LeaseVoter → Option NameEntry → LeaseVoter
voter_in none None = none
voter_in none (Some e) = e.voter

abbrev pub claim_in : Option NameEntry → Option Claim
claim_in None = None
claim_in (Some e) = e.claim

-- the voter of a name
abbrev pub voter_at : LeaseMachine → List ℕ → LeaseVoter
voter_at m name = voter_in (unknown m) (entry_of name m.names.items)

-- who asks here for a name
abbrev pub claim_at : LeaseMachine → List ℕ → Option Claim
claim_at m name = claim_in (entry_of name m.names.items)

-- ---- what a call leaves

-- An ended grant is forgotten: the voter seems to have granted a greater epoch, to nobody who still has it.
pub record IsForgotten (now : ℕ) (old new : LeaseVoter) : Type 0 where
  pub over : is_free now old ≡ true
  pub keeps : new.keeps ≡ old.keeps
  pub bound : new.bound ≡ old.bound
  pub began : new.began ≡ old.began
  pub last : old.last ≤ new.last
  pub free : new.holder ≡ None

-- the same, or forgotten
abbrev pub Stays : ℕ → LeaseVoter → LeaseVoter → Type 0
Stays now old new = (new ≡ old) ⊎ IsForgotten now old new

-- every other name, where nothing is forgotten
abbrev pub OthersSame : List ℕ → LeaseMachine → LeaseMachine → Type 0
OthersSame name old new = (other : List ℕ) → other ≢ name
    → (voter_at new other ≡ voter_at old other) × (claim_at new other ≡ claim_at old other)

-- every other name, where another one may be given room
abbrev pub OthersStay : ℕ → List ℕ → LeaseMachine → LeaseMachine → Type 0
OthersStay now name old new = (other : List ℕ) → other ≢ name
    → Stays now (voter_at old other) (voter_at new other) × (claim_at new other ≡ claim_at old other)

-- the same process, which has counted no fewer clients, with the same bound
pub record GoesOn (old new : LeaseMachine) : Type 0 where
  pub terms : new.terms ≡ old.terms
  pub process : new.process ≡ old.process
  pub claims : old.claims ≤ new.claims
  pub bound : new.bound ≡ old.bound

-- every name
abbrev pub AllStay : LeaseMachine → LeaseMachine → Type 0
AllStay old new = (name : List ℕ) → (voter_at new name ≡ voter_at old name) × (claim_at new name ≡ claim_at old name)

-- every name is in use
abbrev pub IsFull : ℕ → LeaseMachine → Type 0
IsFull now m = (length m.names.items ≡ NAMES) × AllByRecursion (λ e. is_dead now e ≡ false) m.names.items

-- nothing is kept of this name, and there is no room for it
abbrev pub HasNoRoom : ℕ → List ℕ → LeaseMachine → Type 0
HasNoRoom now name m = (entry_of name m.names.items ≡ None) × IsFull now m
