-- What is true of each process.
use Rattle.std.specs.Prelude.{ℕ, ◌≡◌, ◌≤◌, max, Option, Some, None}
use Rattle.lease_machine.specs.declared.terms.LeaseTerms.{LeaseTerms}
use Rattle.lease_machine.specs.declared.state.LeaseMachine.{LeaseMachine}
use Rattle.lease_session.specs.declared.process.Start.{Start}

-- the machine is of these terms and this process, and has counted so many clients at least
pub record IsOwn (terms : LeaseTerms) (start : Start) (claims : ℕ) (m : LeaseMachine) : Type 0 where
  pub own_terms : m.terms ≡ terms
  pub own_process : m.process ≡ start.process
  pub counted : claims ≤ m.claims

-- the process grants no epoch above this one before it reserves more: before its machine begins that is its floor
abbrev pub bound_by : Start → Option LeaseMachine → ℕ
bound_by start None = start.floor
bound_by start (Some machine) = machine.bound

-- and that is no more than what its store says that it reserved, or its floor, which was reserved before
abbrev pub IsWithin : ℕ → Start → Option LeaseMachine → Type 0
IsWithin reserved start machine = bound_by start machine ≤ max reserved start.floor
