-- A machine as a voter, by steps.
use Rattle.std.proofs.Common.{◌≡◌, ℕ, ◌≤◌, Option, Some, None, refl, sym, ap, subst, ◌∙◌, inl, arith}
use Rattle.lease_runs.specs.declared.voter.LeaseVoter.{LeaseVoter}
use Rattle.lease_runs.specs.declared.candidate.LeaseCandidate.{LeaseCandidate}
use Rattle.lease_runs.specs.Voter.{Client, Voter, VoterEvent, IsPossible, after, grants, raises, releases, restarts}
use Rattle.lease_runs.specs.Candidate.{Candidate}
use Rattle.lease_runs.specs.CandidateCode.{Shows}
use Rattle.lease_runs.specs.Code.{IsStep, ask_of, client_of, view}
use Rattle.lease_network.specs.Network.{Name, Terms, Machine, MayVote, at_name, voter_then}
use Rattle.lease_machine.specs.declared.name_entry.Claim.{Claim}
use Rattle.lease_machine.specs.declared.state.LeaseMachine.{LeaseMachine}
use Rattle.lease_machine.specs.declared.terms.LeaseTerms.{LeaseTerms}
use Rattle.lease_machine.specs.Machine.{GoesOn, OthersStay, Stays, claim_at, voter_at}
use Rattle.lease_machine.specs.Standing.{Stands}
use Rattle.lease_steps.specs.StandsFor.{AreOf, StandsFor, clock_of}
use Rattle.lease_steps.specs.Laws.{BeginsBySteps, RaisesBySteps, ReleasesBySteps, StandsOn, VotesBySteps}
use Rattle.lease_steps.proofs.Entries.{by_name, claims_same, keeps_at}

-- what `names_stand` says
abbrev pub Later : Type 0
Later = (boot now time : ℕ) (c : LeaseVoter) (v : Voter) → now ≤ time → Stands boot now c v → Stands boot time c v

abbrev pub Staying : Type 0
Staying = (boot now : ℕ) (c d : LeaseVoter) (v : Voter) → Stays now c d → Stands boot now c v → Stands boot now d v

abbrev pub Stepping : Type 0
Stepping = (boot now : ℕ) (c d : LeaseVoter) (what : VoterEvent) (v : Voter) (clock : ℕ → ℕ → ℕ) (at : ℕ) → clock boot at ≡ now
    → IsStep c d now what → Stands boot now c v
    → IsPossible c.keeps clock v at what × Stands boot now d (after c.keeps clock v at what)

-- ---- what stays with the terms and the process

pub are_still : (old new : LeaseMachine) (terms : Terms) → new.terms ≡ old.terms → AreOf old.terms terms → AreOf new.terms terms
are_still old new terms same are = rw same are

pub same_clock : (old new : LeaseMachine) (terms : Terms) → new.terms ≡ old.terms → new.process ≡ old.process
    → clock_of terms old ≡ clock_of terms new
same_clock old new terms same process =
    ap (λ (t : LeaseTerms). terms.clock t.machine old.process) (sym same) ∙ ap (λ (p : ℕ). terms.clock new.terms.machine p) (sym process)

pub shows_still : (old new : LeaseMachine) (terms : Terms) (c : LeaseCandidate) (v : Candidate) → new.terms ≡ old.terms
    → new.process ≡ old.process
    → Shows (clock_of terms old) c v → Shows (clock_of terms new) c v
shows_still old new terms c v same process shows = subst (λ (k : ℕ → ℕ). Shows k c v) (same_clock old new terms same process) shows

pub clients_still : (old new : LeaseMachine) (terms : Terms) (now : ℕ) (m : Machine) → new.terms ≡ old.terms → new.process ≡ old.process
    → ((name : Name) → claim_at new name ≡ claim_at old name) → StandsFor terms now old m → (name : Name) (claim : Claim)
    → claim_at new name ≡ Some claim
    → Shows (clock_of terms new) claim.candidate (m.candidate claim.candidate.client.number name)
clients_still old new terms now m same process claims s name claim is =
    shows_still old new terms claim.candidate (m.candidate claim.candidate.client.number name) same process
    (s.clients name claim (sym (claims name) ∙ is))

-- ---- one voter's step

pub voted : Stepping → (old new : LeaseMachine) (terms : Terms) (now at : ℕ) (m : Machine) (name : Name) (by : Client) (what : VoterEvent)
    → by.machine ≡ old.terms.machine
    → clock_of terms old at ≡ now → StandsFor terms now old m → IsStep (voter_at old name) (voter_at new name) now what
    → MayVote terms by m at what name × Stands old.process now (voter_at new name) (voter_then terms by m at what name)
voted law old new terms now at m name by what own shows s step =
    let clock : terms.clock by.machine old.process at ≡ now = ap (λ (n : ℕ). terms.clock n old.process at) own ∙ shows in
    let h = law old.process now (voter_at old name) (voter_at new name) what (m.voter name)
    (terms.clock by.machine) at clock step (s.voters name) in
    let keeps : (voter_at old name).keeps ≡ terms.keeps = keeps_at old name ∙ sym s.are.keeps in
    rw keeps at h

-- and of no other name
pub voted_one : Staying → Stepping → (old new : LeaseMachine) (terms : Terms) (now at : ℕ) (m : Machine) (name : Name) (by : Client)
    (what : VoterEvent) → by.machine ≡ old.terms.machine
    → clock_of terms old at ≡ now → StandsFor terms now old m → IsStep (voter_at old name) (voter_at new name) now what
    → OthersStay now name old new → claim_at new name ≡ claim_at old name
    → GoesOn old new → MayVote terms by m at what name × StandsFor terms now new (record m {
      voter = at_name name (voter_then terms by m at what) m.voter;
    })
voted_one stay law old new terms now at m name by what own shows s step others claim goes =
    let h = voted law old new terms now at m name by what own shows s step in
    let claims = claims_same old new name claim (λ other differ. (others other differ).1) in (
      h.0,
      record {
        are = are_still old new terms goes.terms s.are;
        process = s.process ∙ ap (λ (p : ℕ). Some p) (sym goes.process);
        voters = λ other. subst (λ (p : ℕ). Stands p now (voter_at new other) (at_name name (voter_then terms by m at what) m.voter other))
            (sym goes.process)
            (by_name (λ (v : Voter). Stands old.process now (voter_at new other) v) name other (voter_then terms by m at what) m.voter
            (λ same. subst (λ (n : Name). Stands old.process now (voter_at new n) (voter_then terms by m at what n)) same h.1)
            (λ differ. stay old.process now (voter_at old other) (voter_at new other) (m.voter other) (others other differ).0
            (s.voters other)));
        clients = clients_still old new terms now m goes.terms goes.process claims s;
        unused = λ number other less. s.unused number other (let more = goes.claims in omega (arith, less, more));
      },
    )

-- ---- the laws

pub votes : Staying → Stepping → VotesBySteps
votes stay law old new now epoch number name client by own step others claim goes terms at m shows s =
    voted_one stay law old new terms now at m name by (grants (ask_of client number epoch at)) own shows s (step number at) others claim
    goes

pub frees : Staying → Stepping → ReleasesBySteps
frees stay law old new now epoch name client by own step others claim goes terms at m shows s =
    voted_one stay law old new terms now at m name by (releases (client_of client) epoch) own shows s (step now)
    (λ other differ. (inl (others other differ).0, (others other differ).1)) claim goes

pub raised : Stepping → RaisesBySteps
raised law old new now bound by own step claims same process count terms at m shows s = (
  λ name. (voted law old new terms now at m name by (raises bound) own shows s (step name now)).0,
  record {
    are = are_still old new terms same s.are;
    process = s.process ∙ ap (λ (p : ℕ). Some p) (sym process);
    voters = λ name. subst (λ (p : ℕ). Stands p now (voter_at new name) (voter_then terms by m at (raises bound) name)) (sym process)
        (voted law old new terms now at m name by (raises bound) own shows s (step name now)).1;
    clients = clients_still old new terms now m same process claims s;
    unused = λ number name less. s.unused number name (omega (arith, less, count));
  },
)

pub stands_on : Later → StandsOn
stands_on law c now later terms m less s = record {
  are = s.are;
  process = s.process;
  voters = λ name. law c.process now later (voter_at c name) (m.voter name) less (s.voters name);
  clients = s.clients;
  unused = s.unused;
}

no_claim : (a : Option Claim) (k : Claim) → a ≡ None → a ≡ Some k → ⊥
no_claim a k none is = absurd (let bad : None ≡ Some k = sym none ∙ is in cc)

pub begun : BeginsBySteps
begun new now floor bound by machine boot none_yet less begins_so nobody terms at m shows are old_bounds = (
  λ name. old_bounds name,
  λ name. less,
  record {
    are = are;
    process = ap (λ (p : ℕ). Some p) boot;
    voters = λ name. inl (is name);
    clients = λ name claim is. absurd (no_claim (claim_at new name) claim (nobody name) is);
    unused = λ number name less. refl;
  },
)
  where
    clock : terms.clock by.machine new.process at ≡ now
    clock = ap (λ (n : ℕ). terms.clock n new.process at) machine ∙ shows

    is : (name : Name) → view new.process (voter_at new name) ≡ after terms.keeps (terms.clock by.machine)
        (after terms.keeps (terms.clock by.machine) (m.voter name) at (restarts by.boot floor)) at (raises bound)
    is name = rw boot (begins_so name (m.voter name) (terms.clock by.machine) new.process at clock)
