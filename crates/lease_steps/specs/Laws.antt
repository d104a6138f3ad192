-- Each call of a machine's code, by its clauses, is a step of a machine of the network, or none.
use Rattle.std.specs.Prelude.{ℕ, ◌≡◌, ◌≢◌, ◌+◌, ◌≤◌, List, Option, None, Some}
use Rattle.lease_runs.specs.declared.client_id.ClientId.{ClientId}
use Rattle.lease_runs.specs.declared.candidate.Request.{Request}
use Rattle.lease_runs.specs.Voter.{Client, Ask, Voter, after, grants, raises, releases, restarts}
use Rattle.lease_runs.specs.Run.{asks, stops}
use Rattle.lease_runs.specs.Code.{IsStep, ask_of, client_of, view}
use Rattle.lease_network.specs.Network.{Name, request, grant, release, begins, reserves, sends, takes, Step, Terms, Machine, MayDo, done}
use Rattle.lease_network.specs.Network.{machines}
use Rattle.lease_network.specs.Laws.{Holds, up_to}
use Rattle.lease_machine.specs.declared.name_entry.Claim.{Claim}
use Rattle.lease_machine.specs.declared.state.LeaseMachine.{LeaseMachine}
use Rattle.lease_machine.specs.Machine.{GoesOn, OthersSame, OthersStay, claim_at, voter_at}
use Rattle.lease_machine.specs.Claims.{Acts, Hears, IsBegun, Relies}
use Rattle.lease_steps.specs.StandsFor.{AreOf, Did, DidNothing, StandsFor, clock_of}

-- ---- the machine

-- A process begins with the floor of its disk, which isn't below what the machine's voters might grant up to before, and then reserves.
abbrev pub BeginsBySteps : Type 0
BeginsBySteps = (new : LeaseMachine) (now floor bound : ℕ) (by : Client) → by.machine ≡ new.terms.machine → by.boot ≡ new.process
    → new.claims ≡ 0 → floor ≤ bound
    → ((name : Name) (old : Voter) (clock : ℕ → ℕ → ℕ) (boot at : ℕ) → clock boot at ≡ now
    → view boot (voter_at new name) ≡ after new.terms.keeps clock (after new.terms.keeps clock old at (restarts boot floor)) at
    (raises bound))
    → ((name : Name) → claim_at new name ≡ None)
    → (terms : Terms) (at : ℕ) (m : Machine) → clock_of terms new at ≡ now → AreOf new.terms terms
    → ((name : Name) → (m.voter name).bound ≤ floor)
    → MayDo terms by m at (begins floor) × MayDo terms by (done terms by m at (begins floor)) at (reserves bound)
    × StandsFor terms now new (done terms by (done terms by m at (begins floor)) at (reserves bound))

abbrev pub RaisesBySteps : Type 0
RaisesBySteps = (old new : LeaseMachine) (now bound : ℕ) (by : Client) → by.machine ≡ old.terms.machine
    → ((name : Name) (at : ℕ) → IsStep (voter_at old name) (voter_at new name) at (raises bound))
    → ((name : Name) → claim_at new name ≡ claim_at old name)
    → new.terms ≡ old.terms → new.process ≡ old.process → new.claims ≡ old.claims → Did old new now by (reserves bound)

-- a request that is granted is taken
abbrev pub VotesBySteps : Type 0
VotesBySteps = (old new : LeaseMachine) (now epoch number : ℕ) (name : Name) (client : ClientId) (by : Client)
    → by.machine ≡ old.terms.machine
    → ((number sent : ℕ) → IsStep (voter_at old name) (voter_at new name) now (grants (ask_of client number epoch sent)))
    → OthersStay now name old new → claim_at new name ≡ claim_at old name → GoesOn old new
    → Did old new now by (takes (request name (client_of client) number epoch))

abbrev pub ReleasesBySteps : Type 0
ReleasesBySteps = (old new : LeaseMachine) (now epoch : ℕ) (name : Name) (client : ClientId) (by : Client) → by.machine ≡ old.terms.machine
    → ((at : ℕ) → IsStep (voter_at old name) (voter_at new name) at (releases (client_of client) epoch))
    → OthersSame name old new → claim_at new name ≡ claim_at old name → GoesOn old new
    → Did old new now by (takes (release name (client_of client) epoch))

-- time that passes is no step
abbrev pub StandsOn : Type 0
StandsOn = (c : LeaseMachine) (now later : ℕ) (terms : Terms) (m : Machine) → now ≤ later → StandsFor terms now c m
    → StandsFor terms later c m

-- ---- its clients

-- one more that asks, or one less, is no step
abbrev pub ClaimsByNone : Type 0
ClaimsByNone = (old new : LeaseMachine) (now user : ℕ) (name : Name)
    → IsBegun old.terms old.process (old.claims + 1) user (claim_at new name) → new.claims ≡ old.claims + 1
    → voter_at new name ≡ voter_at old name → OthersStay now name old new → GoesOn old new → DidNothing old new now

abbrev pub WithdrawsByNone : Type 0
WithdrawsByNone = (old new : LeaseMachine) (now : ℕ) (name : Name) → claim_at new name ≡ None → voter_at new name ≡ voter_at old name
    → OthersSame name old new → GoesOn old new
    → DidNothing old new now

-- its request is sent
abbrev pub AsksBySteps : Type 0
AsksBySteps = (old new : LeaseMachine) (now epoch number : ℕ) (name : Name) (c : Claim) → claim_at old name ≡ Some c
    → Acts (claim_at old name) (claim_at new name) now (λ client at. asks (ask_of client number epoch at))
    → voter_at new name ≡ voter_at old name → OthersSame name old new → GoesOn old new
    → Did old new now (client_of c.candidate.client) (sends (request name (client_of c.candidate.client) number epoch))

-- a grant that is heard is taken
abbrev pub HearsBySteps : Type 0
HearsBySteps = (old new : LeaseMachine) (now voter number : ℕ) (name : Name) (client : ClientId)
    → Hears (claim_at old name) (claim_at new name) client now voter number
    → voter_at new name ≡ voter_at old name → OthersSame name old new → GoesOn old new
    → Did old new now (client_of client) (takes (grant name (client_of client) number voter))

-- who gives up an epoch sends its release
abbrev pub StopsBySteps : Type 0
StopsBySteps = (old new : LeaseMachine) (now epoch : ℕ) (name : Name) (c : Claim) → claim_at old name ≡ Some c
    → Acts (claim_at old name) (claim_at new name) now (λ client at. stops epoch)
    → voter_at new name ≡ voter_at old name → OthersSame name old new → GoesOn old new
    → Did old new now (client_of c.candidate.client) (sends (release name (client_of c.candidate.client) epoch))

-- What is shown as held is held: by a request of this number and epoch, which was sent when the clock showed this. It is relied on until so
-- long after that.
pub record HoldsBy (terms : Terms) (steps : List Step) (c : LeaseMachine) (name : Name) (time : ℕ) (client : Client) (request : Request) :
    Type 0 where
  pub ask : Ask
  pub holds : Holds terms steps name time client ask
  pub number : ask.number ≡ request.number
  pub epoch : ask.epoch ≡ request.epoch
  pub sent : clock_of terms c ask.sent ≡ request.sent

abbrev pub HeldIsHeld : Type 0
HeldIsHeld = (terms : Terms) (steps : List Step) (c : LeaseMachine) (now time : ℕ) (name : Name) (claim : Claim) (request : Request)
    → clock_of terms c time ≡ now
    → StandsFor terms now c (machines terms (up_to time steps) c.terms.machine) → claim_at c name ≡ Some claim
    → Relies (claim_at c name) now request
    → HoldsBy terms steps c name time (client_of claim.candidate.client) request
