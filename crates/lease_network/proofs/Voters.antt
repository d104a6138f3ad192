-- What the steps of a machine are to the voter of one name.
use Rattle.std.proofs.Common.{◌≡◌, ℕ, ◌≤◌, Bool, true, false, List, [], ◌∷◌, ◌++◌, refl, sym, ◌∙◌, arith}
use Rattle.std.specs.Prelude.{◌==◌, if◌then◌else◌, map}
use Rattle.std.specs.Str.{bytes_eq}
use Rattle.std.proofs.lemmas.List.{append-nil}
use Rattle.std.proofs.lemmas.Bool.{eqb-true}
use Rattle.lease_runs.specs.Voter.{Client, VoterEvent, grants, releases, Moment, Voter, opening, IsPossible, after, Follows}
use Rattle.lease_runs.specs.Growing.{HistoryGoesOn, end, replay}
use Rattle.lease_network.specs.Network.{Name, request, release, Event, begins, reserves, sends, takes, Step, Terms, Machine}
use Rattle.lease_network.specs.Network.{at_name, MayDo, IsNext, AreSteps, ask_at, done, last_time, machines}
use Rattle.lease_network.specs.Projection.{asked_for, history, moment_at, voter_events, when}
use Rattle.lease_network.proofs.Steps.{name_is}

-- what one event at most does
abbrev Voted : ℕ → (ℕ → ℕ → ℕ) → ℕ → Voter → List VoterEvent → Voter → Type 0
Voted keeps clock at old [] new = new ≡ old
Voted keeps clock at old (what ∷ []) new = IsPossible keeps clock old at what × (new ≡ after keeps clock old at what)
Voted keeps clock at old (what ∷ more ∷ rest) new = ⊥

-- what an event of a name is to the voter of this one
voted_at : (keeps : ℕ) (clock : ℕ → ℕ → ℕ) (at : ℕ) (n name : Name) (voter : Name → Voter) (what : VoterEvent)
    → IsPossible keeps clock (voter n) at what → Voted keeps clock at (voter name) (when (bytes_eq n name) what)
    (at_name n (λ x. after keeps clock (voter x) at what) voter name)
voted_at keeps clock at n name voter what can = by_test (bytes_eq n name) refl
  where
    by_test : (b : Bool) → bytes_eq n name ≡ b → Voted keeps clock at (voter name) (when b what)
        (if b then after keeps clock (voter name) at what else voter name)
    by_test true is = (rw (name_is n name is) at can, refl)
    by_test false is = refl

-- what a process does is to the voter of the name one possible event at most
voted : (terms : Terms) (all : List Step) (name : Name) (self : Client) (m : Machine) (at : ℕ) (what : Event) → MayDo terms self m at what
    → Voted terms.keeps (terms.clock self.machine) at (m.voter name) (voter_events all name self what)
    ((done terms self m at what).voter name)
voted terms all name self m at (begins floor) may = (may name, refl)
voted terms all name self m at (reserves bound) may = (may name, refl)
voted terms all name self m at (takes (request n client number epoch)) may =
    voted_at terms.keeps (terms.clock self.machine) at n name m.voter
    (grants (ask_at client number epoch (asked_for all name client number).sent)) may
voted terms all name self m at (takes (release n client epoch)) may =
    voted_at terms.keeps (terms.clock self.machine) at n name m.voter (releases client epoch) may
voted terms all name self m at (sends (request n client number epoch)) may = refl
voted terms all name self m at _ may = refl

-- the moments are a history of the voter, and leave what it keeps
pub record IsHistory (keeps : ℕ) (clock : ℕ → ℕ → ℕ) (ms : List Moment) (v : Voter) (time : ℕ) : Type 0 where
  pub follows : Follows keeps clock 0 (opening clock) ms
  pub leaves : replay keeps clock (opening clock) ms ≡ v
  pub ends : end 0 ms ≤ time

ends_there : (time : ℕ) (ms : List Moment) (m : Moment) → end time (ms ++ m ∷ []) ≡ m.at
ends_there time [] m = refl
ends_there time (n ∷ ms) m = ends_there n.at ms m

module _ {keeps : ℕ} {clock : ℕ → ℕ → ℕ} {ms : List Moment} {old : Voter} {time : ℕ} (h : IsHistory keeps clock ms old time) (new : Voter)
    (at : ℕ) (le : time ≤ at) where
  unchanged : new ≡ old → IsHistory keeps clock (ms ++ []) new at
  unchanged same = rw append-nil (record { follows = h.follows; leaves = h.leaves ∙ sym same; ends = (let ends = h.ends in omega arith) })

  goes_on : HistoryGoesOn → (what : List VoterEvent) → Voted keeps clock at old what new
      → IsHistory keeps clock (ms ++ map (moment_at at) what) new at
  goes_on law [] is = unchanged is
  goes_on law (what ∷ []) is =
      let ends = h.ends in
      let more = law keeps clock 0 (opening clock) ms (moment_at at what) h.follows (omega arith) (rw h.leaves is.0) in record {
        follows = more.0;
        leaves = more.1 ∙ rw h.leaves (sym is.1);
        ends = (let there = ends_there 0 ms (moment_at at what) in omega (arith, there));
      }
  goes_on law (what ∷ more ∷ rest) is = absurd is

-- one step more
step_votes : HistoryGoesOn → (terms : Terms) (all : List Step) (name : Name) (n : ℕ) (p : Step) (past : List Step) → IsNext terms past p
    → IsHistory terms.keeps (terms.clock n) (history all name n past) ((machines terms past n).voter name) (last_time past)
    → IsHistory terms.keeps (terms.clock n) (history all name n (p ∷ past)) ((machines terms (p ∷ past) n).voter name) p.at
step_votes law terms all name n p past next h = by_machine (p.by.machine == n) refl
  where
    by_machine : (b : Bool) → (p.by.machine == n) ≡ b
        → IsHistory terms.keeps (terms.clock n) (history all name n past
        ++ (if b then map (moment_at p.at) (voter_events all name p.by p.what) else []))
        ((if b then done terms p.by (machines terms past p.by.machine) p.at p.what else machines terms past n).voter name) p.at
    by_machine true is =
        let same = eqb-true p.by.machine n is in
        rw (← same) (goes_on (rw (← same) at h) _ p.at next.time law (voter_events all name p.by p.what)
        (voted terms all name p.by (machines terms past p.by.machine) p.at p.what next.may))
    by_machine false other = unchanged h _ p.at next.time refl

pub votes : HistoryGoesOn → (terms : Terms) (all : List Step) (name : Name) (n : ℕ) (past : List Step) → AreSteps terms past
    → IsHistory terms.keeps (terms.clock n) (history all name n past) ((machines terms past n).voter name) (last_time past)
votes law terms all name n [] are = record { follows = tt; leaves = refl; ends = omega arith }
votes law terms all name n (p ∷ past) are = step_votes law terms all name n p past are.1 (votes law terms all name n past are.0)
