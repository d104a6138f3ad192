-- Who holds a lease here, and what its user was told of it.
use Rattle.std.specs.Prelude.{ℕ, ◌≡◌, ◌+◌, ◌<◌, if◌then◌else◌, nat_eq, List, [], ◌∷◌, Option, Some, None}
use Rattle.std.specs.Cmp.Lexicographic.{pointwise}
use Rattle.lease_runs.specs.declared.candidate.Request.{Request}
use Rattle.lease_network.specs.Network.{Name}
use Rattle.lease_machine.specs.declared.name_entry.Claim.{Claim}
use Rattle.lease_machine.specs.declared.state.LeaseMachine.{LeaseMachine}
use Rattle.lease_machine.specs.Machine.{claim_at}
use Rattle.lease_session.specs.declared.told.Told.{Told}

-- what the user of a name was told last, where it wasn't told since that its lease is lost
abbrev pub last_told : Name → List Told → Option Told
last_told name [] = None
last_told name (t ∷ ts) = if pointwise nat_eq t.name name then Some t else last_told name ts

-- what is to be told of what the client of a user keeps as its lease
abbrev pub news_of : Name → Claim → Request → Told
news_of name c r = record { name = name; user = c.user; epoch = r.epoch; until = r.sent + c.candidate.relies_for }

-- the user of the name was told last of what its client keeps as its lease
abbrev pub IsHolderTold : Name → LeaseMachine → List Told → Type 0
IsHolderTold name x ts = (c : Claim) (r : Request) → claim_at x name ≡ Some c → c.candidate.lease ≡ Some r
    → last_told name ts ≡ Some (news_of name c r)

-- so it is of each name
abbrev pub AreHoldersTold : Option LeaseMachine → List Told → Type 0
AreHoldersTold None ts = Unit {0}
AreHoldersTold (Some x) ts = (name : Name) → IsHolderTold name x ts

-- and of this one, where its time isn't over
abbrev pub IsToldNow : ℕ → Name → Option LeaseMachine → List Told → Type 0
IsToldNow now name None ts = Unit {0}
IsToldNow now name (Some x) ts =
    (c : Claim) (r : Request) → claim_at x name ≡ Some c → c.candidate.lease ≡ Some r → now < r.sent + c.candidate.relies_for
    → last_told name ts ≡ Some (news_of name c r)
