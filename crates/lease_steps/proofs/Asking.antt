-- Those that ask at a machine, by steps.
use Rattle.std.proofs.Common.{◌≡◌, ◌≢◌, ℕ, ◌+◌, ◌≤◌, Option, Some, None, refl, sym, ap, subst, ◌∙◌, arith}
use Rattle.lease_runs.specs.declared.client_id.ClientId.{ClientId}
use Rattle.lease_runs.specs.Voter.{Client}
use Rattle.lease_runs.specs.Run.{ClientEvent, asks, hears, stops}
use Rattle.lease_runs.specs.Candidate.{Candidate, MayAct, after_act, beginning}
use Rattle.lease_runs.specs.CandidateCode.{Shows}
use Rattle.lease_runs.specs.Code.{ask_of, client_of}
use Rattle.lease_network.specs.Network.{Name, Terms, Machine, MayAsk, acted, ask_at, at_name, candidate_then}
use Rattle.lease_machine.specs.declared.name_entry.Claim.{Claim}
use Rattle.lease_machine.specs.declared.state.LeaseMachine.{LeaseMachine}
use Rattle.lease_machine.specs.Kept.{IsOwn}
use Rattle.lease_machine.specs.Machine.{GoesOn, OthersSame, claim_at, voter_at}
use Rattle.lease_machine.specs.Claims.{Acts, IsSameClaim}
use Rattle.lease_machine.specs.Standing.{Stands}
use Rattle.lease_steps.specs.StandsFor.{StandsFor, clock_of}
use Rattle.lease_steps.specs.Laws.{AsksBySteps, ClaimsByNone, HearsBySteps, StopsBySteps, WithdrawsByNone}
use Rattle.lease_steps.proofs.Entries.{by_client, by_name, by_test, own_at}
use Rattle.lease_steps.proofs.Voting.{Staying, are_still, shows_still}

the_claim : (a b : Claim) → Some a ≡ Some b → a ≡ b
the_claim a b e = cc

no_claim : (a : Option Claim) (k : Claim) → a ≡ None → a ≡ Some k → ⊥
no_claim a k none is = absurd (let bad : None ≡ Some k = sym none ∙ is in cc)

-- every voter stays
voters_still : (old new : LeaseMachine) (terms : Terms) (now : ℕ) (m : Machine) (name : Name) → voter_at new name ≡ voter_at old name
    → OthersSame name old new → GoesOn old new
    → StandsFor terms now old m → (other : Name) → Stands new.process now (voter_at new other) (m.voter other)
voters_still old new terms now m name mine others goes s other =
    by_test (Stands new.process now (voter_at new other) (m.voter other)) name other
    (λ same. turned (subst (λ (n : Name). voter_at new n ≡ voter_at old n) same mine)) (λ differ. turned (others other differ).0)
  where
    turned : voter_at new other ≡ voter_at old other → Stands new.process now (voter_at new other) (m.voter other)
    turned is = rw (goes.process, is) (s.voters other)

-- ---- what a client does for one name

-- what its claim was and is, and what it did
pub record Doing (old new : LeaseMachine) (now : ℕ) (name : Name) (at : ℕ) (what : ClientEvent) : Type 0 where
  pub c : Claim
  pub d : Claim
  pub was : claim_at old name ≡ Some c
  pub is : claim_at new name ≡ Some d
  pub same : IsSameClaim c d
  pub acts : (clock : ℕ → ℕ) (v : Candidate) → clock at ≡ now → Shows clock c.candidate v
      → MayAct c.candidate.voters (client_of c.candidate.client) v at what
      × Shows clock d.candidate (after_act c.candidate.voters c.candidate.relies_for clock v at what)

pub did : (old new : LeaseMachine) (terms : Terms) (now at : ℕ) (m : Machine) (name : Name) (what : ClientEvent)
    → clock_of terms old at ≡ now → StandsFor terms now old m
    → (x : Doing old new now name at what) → voter_at new name ≡ voter_at old name → OthersSame name old new → GoesOn old new
    → MayAsk terms (client_of x.c.candidate.client) m at what name
    × StandsFor terms now new (acted terms (client_of x.c.candidate.client) m at name what)
did old new terms now at m name what shows s x voter others goes = (
  subst (λ (n : ℕ). MayAct n self (m.candidate self.number name) at what) nodes h.0,
  record {
    are = are_still old new terms goes.terms s.are;
    process = s.process ∙ ap (λ (p : ℕ). Some p) (sym goes.process);
    voters = voters_still old new terms now m name voter others goes s;
    clients = λ other k is. by_client (λ (v : Candidate). Shows (clock_of terms new) k.candidate v) self.number k.candidate.client.number
        (at_name name (candidate_then terms self m at what) (m.candidate self.number)) m.candidate other
        (λ same. by_name (λ (v : Candidate). Shows (clock_of terms new) k.candidate v) name other (candidate_then terms self m at what)
        (m.candidate self.number)
        (λ named. mine other k named is)
        (λ differ. subst (λ (n : ℕ). Shows (clock_of terms new) k.candidate (m.candidate n other)) (sym same) (theirs other k differ is)))
        (λ differ. by_test (Shows (clock_of terms new) k.candidate (m.candidate k.candidate.client.number other)) name other
        (λ named. absurd (differ (numbered other k named is))) (λ away. theirs other k away is));
    unused = λ number other less. by_client (λ (v : Candidate). v
        ≡ beginning) self.number number (at_name name (candidate_then terms self m at what) (m.candidate self.number)) m.candidate other
        (λ same. absurd (let own = numbered_at in let more = goes.claims in omega (arith, own, more, same, less)))
        (λ differ. s.unused number other (let more = goes.claims in omega (arith, less, more)));
  },
)
  where
    self : Client
    self = client_of x.c.candidate.client

    own : IsOwn old.terms old.process old.claims x.c.candidate
    own = own_at old name x.c x.was

    numbered_at : self.number ≤ old.claims
    numbered_at = own.numbered

    nodes : x.c.candidate.voters ≡ terms.nodes
    nodes = own.voters ∙ sym s.are.nodes

    relies : x.c.candidate.relies_for ≡ terms.relies_for
    relies = own.time ∙ sym s.are.relies_for

    h : MayAct x.c.candidate.voters self (m.candidate self.number name) at what
        × Shows (clock_of terms old) x.d.candidate (after_act x.c.candidate.voters x.c.candidate.relies_for (clock_of terms old)
        (m.candidate self.number name) at what)
    h = x.acts (clock_of terms old) (m.candidate self.number name) shows (s.clients name x.c x.was)

    its_clock : clock_of terms old ≡ terms.clock self.machine self.boot
    its_clock = ap (λ (n : ℕ). terms.clock n old.process) (sym own.of_machine)
        ∙ ap (λ (p : ℕ). terms.clock self.machine p) (sym own.of_process)

    then : Shows (clock_of terms old) x.d.candidate (candidate_then terms self m at what name)
    then = subst (λ (k : ℕ → ℕ). Shows (clock_of terms old) x.d.candidate
        (after_act terms.nodes terms.relies_for k (m.candidate self.number name) at what)) its_clock (rw (nodes, relies) at h.1)

    -- the claim of the name is the one that acted
    the_one : (other : Name) (k : Claim) → name ≡ other → claim_at new other ≡ Some k → x.d ≡ k
    the_one other k named is = the_claim x.d k (sym x.is ∙ (subst (λ (n : Name). claim_at new name ≡ claim_at new n) named refl ∙ is))

    mine : (other : Name) (k : Claim) → name ≡ other → claim_at new other ≡ Some k
        → Shows (clock_of terms new) k.candidate (candidate_then terms self m at what other)
    mine other k named is = shows_still old new terms k.candidate (candidate_then terms self m at what other) goes.terms goes.process
        (subst (λ (n : Name). Shows (clock_of terms old) k.candidate (candidate_then terms self m at what n)) named
        (subst (λ (y : Claim). Shows (clock_of terms old) y.candidate (candidate_then terms self m at what name)) (the_one other k named is)
        then))

    theirs : (other : Name) (k : Claim) → other ≢ name → claim_at new other ≡ Some k
        → Shows (clock_of terms new) k.candidate (m.candidate k.candidate.client.number other)
    theirs other k differ is = shows_still old new terms k.candidate (m.candidate k.candidate.client.number other) goes.terms goes.process
        (s.clients other k (sym (others other differ).1 ∙ is))

    numbered : (other : Name) (k : Claim) → name ≡ other → claim_at new other ≡ Some k → self.number ≡ k.candidate.client.number
    numbered other k named is = sym (ap (λ (i : ClientId). i.number) x.same.terms.same_client)
        ∙ ap (λ (y : Claim). y.candidate.client.number) (the_one other k named is)

-- ---- the laws

-- the client of the claim
same_as : (old : LeaseMachine) (name : Name) (a b : Claim) → claim_at old name ≡ Some a → claim_at old name ≡ Some b → a ≡ b
same_as old name a b first second = the_claim a b (sym first ∙ second)

-- of the claim that acted
abbrev acts_so : {what : ClientId → ℕ → ClientEvent} (old new : LeaseMachine) (now : ℕ) (name : Name) (at : ℕ)
    → (acts : Acts (claim_at old name) (claim_at new name) now what)
    → Doing old new now name at (what acts.c.candidate.client at)
acts_so old new now name at acts = record {
  c = acts.c;
  d = acts.d;
  was = acts.was;
  is = acts.is;
  same = acts.same;
  acts = λ clock v shown showing. acts.acted clock at v shown showing;
}

pub asked : AsksBySteps
asked old new now epoch number name c was acts voter others goes terms at m shows s =
    subst (λ (k : Claim). MayAsk terms (client_of k.candidate.client) m at (asks (ask_of k.candidate.client number epoch at)) name
    × StandsFor terms now new (acted terms (client_of k.candidate.client) m at name (asks (ask_of k.candidate.client number epoch at))))
    (same_as old name acts.c c acts.was was)
    (did old new terms now at m name (asks (ask_of acts.c.candidate.client number epoch at)) shows s (acts_so old new now name at acts)
    voter others goes)

pub stopped : StopsBySteps
stopped old new now epoch name c was acts voter others goes terms at m shows s =
    let h = subst (λ (k : Claim). MayAsk terms (client_of k.candidate.client) m at (stops epoch) name
    × StandsFor terms now new (acted terms (client_of k.candidate.client) m at name (stops epoch)))
    (same_as old name acts.c c acts.was was)
    (did old new terms now at m name (stops epoch) shows s (acts_so old new now name at acts) voter others goes) in
    ((refl, h.0), h.1)

pub heard : HearsBySteps
heard old new now voter number name client hears_it kept others goes terms at m shows s =
    subst (λ (k : ClientId). MayAsk terms (client_of k) m at (hears voter (ask_at (client_of client) number 0 at)) name
    × StandsFor terms now new (acted terms (client_of k) m at name (hears voter (ask_at (client_of client) number 0 at)))) hears_it.own
    (did old new terms now at m name (hears voter (ask_at (client_of client) number 0 at)) shows s (record {
      c = hears_it.c;
      d = hears_it.d;
      was = hears_it.was;
      is = hears_it.is;
      same = hears_it.same;
      acts = λ clock v shown showing. hears_it.heard (ask_at (client_of client) number 0 at)
          (ap client_of (sym hears_it.own)) refl clock at v shown showing;
    }) kept others goes)

pub claimed : Staying → ClaimsByNone
claimed stay old new now user name begun counts voter others goes terms m s = record {
  are = are_still old new terms goes.terms s.are;
  process = s.process ∙ ap (λ (p : ℕ). Some p) (sym goes.process);
  voters = λ other. subst (λ (p : ℕ). Stands p now (voter_at new other) (m.voter other)) (sym goes.process)
      (by_test (Stands old.process now (voter_at new other) (m.voter other)) name other
      (λ same. subst (λ (n : Name). Stands old.process now (voter_at new n) (m.voter n)) same
      (subst (λ v. Stands old.process now v (m.voter name)) (sym voter) (s.voters name)))
      (λ differ. stay old.process now (voter_at old other) (voter_at new other) (m.voter other) (others other differ).0 (s.voters other)));
  clients = λ other k is. by_test (Shows (clock_of terms new) k.candidate (m.candidate k.candidate.client.number other)) name other
      (λ same. fresh other k same is)
      (λ differ. shows_still old new terms k.candidate (m.candidate k.candidate.client.number other) goes.terms goes.process
      (s.clients other k (sym (others other differ).1 ∙ is)));
  unused = λ number other less. s.unused number other (omega (arith, less, counts));
}
  where
    fresh : (other : Name) (k : Claim) → name ≡ other → claim_at new other ≡ Some k
        → Shows (clock_of terms new) k.candidate (m.candidate k.candidate.client.number other)
    fresh other k named is =
        let the_one : begun.c ≡ k = the_claim begun.c k (sym begun.is
        ∙ (subst (λ (n : Name). claim_at new name ≡ claim_at new n) named refl ∙ is)) in
        let number : begun.c.candidate.client.number ≡ old.claims + 1 = ap (λ (i : ClientId). i.number) begun.new.client in
        let unused : m.candidate begun.c.candidate.client.number other ≡ beginning =
        s.unused begun.c.candidate.client.number other (omega (arith, number)) in
        subst (λ (y : Claim). Shows (clock_of terms new) y.candidate (m.candidate y.candidate.client.number other)) the_one
        (rw unused (begun.new.begins (clock_of terms new)))

pub withdrawn : WithdrawsByNone
withdrawn old new now name nobody voter others goes terms m s = record {
  are = are_still old new terms goes.terms s.are;
  process = s.process ∙ ap (λ (p : ℕ). Some p) (sym goes.process);
  voters = voters_still old new terms now m name voter others goes s;
  clients = λ other k is. by_test (Shows (clock_of terms new) k.candidate (m.candidate k.candidate.client.number other)) name other
      (λ same. absurd (no_claim (claim_at new name) k nobody (subst (λ (n : Name). claim_at new n ≡ Some k) (sym same) is)))
      (λ differ. shows_still old new terms k.candidate (m.candidate k.candidate.client.number other) goes.terms goes.process
      (s.clients other k (sym (others other differ).1 ∙ is)));
  unused = λ number other less. s.unused number other (let more = goes.claims in omega (arith, less, more));
}
