-- What a machine shows as held.
use Rattle.std.proofs.Common.{◌≡◌, ℕ, ◌+◌, ◌<◌, true, Option, Some, None, refl, sym, ap, subst, ◌∙◌, arith}
use Rattle.std.specs.Prelude.{ltb}
use Rattle.lease_runs.specs.declared.candidate.Request.{Request}
use Rattle.lease_runs.specs.Voter.{Ask, Client}
use Rattle.lease_runs.specs.Candidate.{is_in_time}
use Rattle.lease_runs.specs.CandidateCode.{IsSent, by_clock, shown}
use Rattle.lease_runs.specs.Code.{client_of}
use Rattle.lease_network.specs.Network.{machines}
use Rattle.lease_network.specs.Laws.{up_to}
use Rattle.lease_machine.specs.declared.name_entry.Claim.{Claim}
use Rattle.lease_machine.specs.Kept.{IsOwn}
use Rattle.lease_steps.specs.StandsFor.{clock_of}
use Rattle.lease_steps.specs.Laws.{HeldIsHeld}
use Rattle.lease_steps.proofs.Entries.{own_at}

the_claim : (a b : Claim) → Some a ≡ Some b → a ≡ b
the_claim a b e = cc

the_ask : (a b : Ask) → Some a ≡ Some b → a ≡ b
the_ask a b e = cc

-- the model's request that the code keeps
pub record IsShown (clock : ℕ → ℕ) (client : Client) (r : Request) (a : Option Ask) : Type 0 where
  pub ask : Ask
  pub is : a ≡ Some ask
  pub same : shown clock ask ≡ by_clock client r

is_shown : (clock : ℕ → ℕ) (client : Client) (r : Request) (a : Option Ask) → IsSent clock client (Some r) a → IsShown clock client r a
is_shown clock client r None sent = absurd cc
is_shown clock client r (Some ask) sent = record { ask = ask; is = refl; same = the_ask (shown clock ask) (by_clock client r) sent }

ltb_is : (a b : ℕ) → a < b → ltb a b ≡ true
ltb_is a b less = grind (arith, less)

pub held_is_held : HeldIsHeld
held_is_held terms steps c now time name claim request shows s claimed relies = record {
  ask = x.ask;
  holds = record {
    running = subst (λ (n : ℕ). (machines terms (up_to time steps) n).process ≡ Some self.boot) (sym own.of_machine)
        (s.process ∙ ap (λ (p : ℕ). Some p) (sym own.of_process));
    lease = subst (λ (n : ℕ). ((machines terms (up_to time steps) n).candidate self.number name).lease ≡ Some x.ask)
        (sym own.of_machine) x.is;
    in_time = subst (λ (k : ℕ → ℕ). is_in_time terms.relies_for k time x.ask
        ≡ true) its_clock (ltb_is (clock_of terms c time) (clock_of terms c x.ask.sent + terms.relies_for)
        (let less = relies.in_time in omega (arith, shows, less, sent, time_is)));
  };
  number = ap (λ (a : Ask). a.number) x.same;
  epoch = ap (λ (a : Ask). a.epoch) x.same;
  sent = sent;
}
  where
    self : Client
    self = client_of claim.candidate.client

    own : IsOwn c.terms c.process c.claims claim.candidate
    own = own_at c name claim claimed

    the_one : relies.c ≡ claim
    the_one = the_claim relies.c claim (sym relies.is ∙ claimed)

    lease : claim.candidate.lease ≡ Some request
    lease = subst (λ (k : Claim). k.candidate.lease ≡ Some request) the_one relies.lease

    x : IsShown (clock_of terms c) self request ((machines terms (up_to time steps) c.terms.machine).candidate self.number name).lease
    x = is_shown (clock_of terms c) self request ((machines terms (up_to time steps) c.terms.machine).candidate self.number name).lease
        (subst (λ (r : Option Request). IsSent (clock_of terms c) self r
        ((machines terms (up_to time steps) c.terms.machine).candidate self.number name).lease) lease
        (s.clients name claim claimed).lease)

    sent : clock_of terms c x.ask.sent ≡ request.sent
    sent = ap (λ (a : Ask). a.sent) x.same

    time_is : relies.c.candidate.relies_for ≡ terms.relies_for
    time_is = ap (λ (k : Claim). k.candidate.relies_for) the_one ∙ (own.time ∙ sym s.are.relies_for)

    its_clock : clock_of terms c ≡ terms.clock self.machine self.boot
    its_clock = ap (λ (n : ℕ). terms.clock n c.process) (sym own.of_machine)
        ∙ ap (λ (p : ℕ). terms.clock self.machine p) (sym own.of_process)
