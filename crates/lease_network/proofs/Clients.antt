-- What the steps of machines are to a client of one name.
use Rattle.std.proofs.Common.{◌≡◌, ◌⊎◌, ℕ, ◌≤◌, ◌<◌, Bool, true, false, List, [], ◌∷◌, ◌++◌, Some, refl, sym, ◌∙◌, ap, inl, inr}
use Rattle.std.proofs.Common.{arith}
use Rattle.std.specs.Prelude.{◌==◌, if◌then◌else◌, map, leb}
use Rattle.std.specs.Str.{bytes_eq}
use Rattle.std.proofs.lemmas.Bool.{both_ways, cases_Bool, cond_both, eq-eqb, eqb-true, false_from_ne_true, leb-false, leb-true}
use Rattle.std.proofs.lemmas.List.{append-nil, append_assoc}
use Rattle.lease_runs.specs.Lists.{IsAmong}
use Rattle.lease_runs.specs.Voter.{Client}
use Rattle.lease_runs.specs.Run.{ClientEvent, asks, hears, stops, Act}
use Rattle.lease_runs.specs.Candidate.{ClientMoment, Candidate, beginning, MayAct, after_act, FollowsFrom, left}
use Rattle.lease_network.specs.Network.{Name, request, grant, release, Event, begins, sends, takes, Step, Terms, Machine, MayAsk}
use Rattle.lease_network.specs.Network.{MayDo, IsNext, AreSteps, acted, ask_at, candidate_then, done, last_time, machines}
use Rattle.lease_network.specs.Laws.{up_to}
use Rattle.lease_network.specs.Projection.{act_at, acts, asked_for, client_events, same_client, when}
use Rattle.lease_network.proofs.Steps.{IsBeginning, IsUnborn, among_both, asked_as, begins_or_runs, client_is, is_client}
use Rattle.lease_network.proofs.Steps.{name_is, process_stays, same_some, same_true}

abbrev pub at_moment : ℕ → ClientEvent → ClientMoment
at_moment at what = record { at = at; what = what }

-- the client's moments, of all acts
abbrev pub moments : Client → List Act → List ClientMoment
moments client [] = []
moments client (a ∷ rest) = if same_client a.client client then at_moment a.at a.what ∷ moments client rest else moments client rest

pub moments_more : (client : Client) (xs ys : List Act) → moments client (xs ++ ys) ≡ moments client xs ++ moments client ys
moments_more client [] ys = refl
moments_more client (a ∷ xs) ys = rw (moments_more client xs ys) (by_test (same_client a.client client))
  where
    by_test : (b : Bool) → (if b then at_moment a.at a.what ∷ (moments client xs ++ moments client ys)
        else moments client xs ++ moments client ys)
        ≡ (if b then at_moment a.at a.what ∷ moments client xs else moments client xs) ++ moments client ys
    by_test true = refl
    by_test false = refl

-- what one event at most does
abbrev Acted : ℕ → ℕ → (ℕ → ℕ) → Client → ℕ → Candidate → List ClientEvent → Candidate → Type 0
Acted nodes relies_for clock self at old [] new = new ≡ old
Acted nodes relies_for clock self at old (what ∷ []) new = MayAct nodes self old at what
    × (new ≡ after_act nodes relies_for clock old at what)
Acted nodes relies_for clock self at old (what ∷ more ∷ rest) new = ⊥

-- what a client does for a name is one event of it, and none of others
act_done : (terms : Terms) (name : Name) (self : Client) (m : Machine) (at : ℕ) (n : Name) (what said : ClientEvent)
    → MayAsk terms self m at what n
    → (MayAsk terms self m at what name → MayAct terms.nodes self (m.candidate self.number name) at said)
    → candidate_then terms self m at what name ≡ after_act terms.nodes terms.relies_for (terms.clock self.machine self.boot)
    (m.candidate self.number name) at said
    → Acted terms.nodes terms.relies_for (terms.clock self.machine self.boot) self at (m.candidate self.number name)
    (when (bytes_eq n name) said) ((acted terms self m at n what).candidate self.number name)
act_done terms name self m at n what said may so is = rw (same_true self.number) (by_test (bytes_eq n name) refl)
  where
    by_test : (b : Bool) → bytes_eq n name ≡ b → Acted terms.nodes terms.relies_for (terms.clock self.machine self.boot) self at
        (m.candidate self.number name) (when b said)
        (if b then candidate_then terms self m at what name else m.candidate self.number name)
    by_test true same = (so (rw (name_is n name same) at may), is)
    by_test false other = refl

-- what is done but a beginning is to the client of the name one event at most that it may do
did : (terms : Terms) (all : List Step) (name : Name) (self : Client) (m : Machine) (at : ℕ) (what : Event) → MayDo terms self m at what
    → ((floor : ℕ) → what ≡ begins floor → ⊥)
    → Acted terms.nodes terms.relies_for (terms.clock self.machine self.boot) self at (m.candidate self.number name)
    (client_events all name at what) ((done terms self m at what).candidate self.number name)
did terms all name self m at (begins floor) may goes_on = absurd (goes_on floor refl)
did terms all name self m at (sends (request n client number epoch)) may goes_on =
    act_done terms name self m at n (asks (ask_at client number epoch at)) (asks (ask_at client number epoch at)) may (λ x. x) refl
did terms all name self m at (sends (grant n client number voter)) may goes_on = absurd may
did terms all name self m at (sends (release n client epoch)) may goes_on =
    act_done terms name self m at n (stops epoch) (stops epoch) tt (λ x. x) refl
did terms all name self m at (takes (grant n client number voter)) may goes_on =
    act_done terms name self m at n (hears voter (ask_at client number 0 at)) (hears voter (asked_for all name client number)) may
    (λ x. ((asked_as all name client number).0 ∙ x.0, x.1)) (rw (asked_as all name client number).1)
did terms all name self m at (takes (request n client number epoch)) may goes_on = refl
did terms all name self m at _ may goes_on = refl

-- other clients keep what they kept
others_stay : (terms : Terms) (name : Name) (self : Client) (m : Machine) (at : ℕ) (what : Event) (other : ℕ)
    → (self.number == other) ≡ false → ((floor : ℕ) → what ≡ begins floor → ⊥)
    → m.candidate other name ≡ (done terms self m at what).candidate other name
others_stay terms name self m at (begins floor) other different goes_on = absurd (goes_on floor refl)
others_stay terms name self m at (sends (request n client number epoch)) other different goes_on = rw different
others_stay terms name self m at (sends (release n client epoch)) other different goes_on = rw different
others_stay terms name self m at (takes (grant n client number voter)) other different goes_on = rw different
others_stay terms name self m at (takes (request n client number epoch)) other different goes_on = refl
others_stay terms name self m at _ other different goes_on = refl

-- ---- moments that follow

abbrev last_moment : ℕ → List ClientMoment → ℕ
last_moment time [] = time
last_moment time (m ∷ ms) = last_moment m.at ms

last_there : (time : ℕ) (ms : List ClientMoment) (m : ClientMoment) → last_moment time (ms ++ m ∷ []) ≡ m.at
last_there time [] m = refl
last_there time (n ∷ ms) m = last_there n.at ms m

follows_on : (nodes relies_for : ℕ) (clock : ℕ → ℕ) (self : Client) (time : ℕ) (c : Candidate) (ms : List ClientMoment) (m : ClientMoment)
    → FollowsFrom nodes relies_for clock self time c ms
    → last_moment time ms ≤ m.at → MayAct nodes self (left nodes relies_for clock c ms) m.at m.what
    → FollowsFrom nodes relies_for clock self time c (ms ++ m ∷ [])
    × (left nodes relies_for clock c (ms ++ m ∷ []) ≡ after_act nodes relies_for clock (left nodes relies_for clock c ms) m.at m.what)
follows_on nodes relies_for clock self time c [] m follows le may = ((le, may, tt), refl)
follows_on nodes relies_for clock self time c (n ∷ ms) m follows le may =
    let rest = follows_on nodes relies_for clock self n.at (after_act nodes relies_for clock c n.at n.what) ms m follows.2 le may in
    ((follows.0, follows.1, rest.0), rest.1)

-- the moments are those of a client, and leave what it keeps
pub record IsClients (nodes relies_for : ℕ) (clock : ℕ → ℕ) (self : Client) (ms : List ClientMoment) (c : Candidate) (time : ℕ) :
    Type 0 where
  pub follows : FollowsFrom nodes relies_for clock self 0 beginning ms
  pub leaves : left nodes relies_for clock beginning ms ≡ c
  pub ends : last_moment 0 ms ≤ time

module _ {nodes relies_for : ℕ} {clock : ℕ → ℕ} {self : Client} {ms : List ClientMoment} {old : Candidate} {time : ℕ}
    (h : IsClients nodes relies_for clock self ms old time) (new : Candidate) (at : ℕ) (le : time ≤ at) where
  unchanged : new ≡ old → IsClients nodes relies_for clock self ms new at
  unchanged same = record { follows = h.follows; leaves = h.leaves ∙ sym same; ends = (let ends = h.ends in omega arith) }

  goes_on : (what : List ClientEvent) → Acted nodes relies_for clock self at old what new
      → IsClients nodes relies_for clock self (ms ++ map (at_moment at) what) new at
  goes_on [] is = rw append-nil (unchanged is)
  goes_on (what ∷ []) is =
      let ends = h.ends in
      let more = follows_on nodes relies_for clock self 0 beginning ms (at_moment at what) h.follows (omega arith) (rw h.leaves is.0) in
      record {
        follows = more.0;
        leaves = more.1 ∙ rw h.leaves (sym is.1);
        ends = (let there = last_there 0 ms (at_moment at what) in omega (arith, there));
      }
  goes_on (what ∷ more ∷ rest) is = absurd is

-- ---- the moments of a process

own_moments : (client : Client) (at : ℕ) (what : List ClientEvent)
    → moments client (map (act_at at client) what) ≡ map (at_moment at) what
own_moments client at [] = refl
own_moments client at (e ∷ rest) = rw (is_client client, own_moments client at rest)

others_moments : (client : Client) (at : ℕ) (what : List ClientEvent) (self : Client) → same_client self client ≡ false
    → moments client (map (act_at at self) what) ≡ []
others_moments client at [] self other = refl
others_moments client at (e ∷ rest) self other = rw (other, others_moments client at rest self other)

-- Where the client's process runs, what its moments leave is what its machine keeps; before its process began it has none; in any case they
-- follow one another.
pub record OfClient (terms : Terms) (name : Name) (client : Client) (past : List Step) (ms : List ClientMoment) : Type 0 where
  pub left_there : Candidate
  pub clients : IsClients terms.nodes terms.relies_for (terms.clock client.machine client.boot) client ms left_there (last_time past)
  pub runs : (machines terms past client.machine).process ≡ Some client.boot
      → left_there ≡ (machines terms past client.machine).candidate client.number name
  pub unborn : IsUnborn past client → ms ≡ []

-- a step of another client, in this process or elsewhere
step_elsewhere : (terms : Terms) (name : Name) (client : Client) (p : Step) (past : List Step) (ms : List ClientMoment)
    → IsNext terms past p → same_client p.by client ≡ false
    → OfClient terms name client past ms → OfClient terms name client (p ∷ past) ms
step_elsewhere terms name client p past ms next other h = record {
  left_there = h.left_there;
  clients = unchanged h.clients h.left_there p.at next.time refl;
  runs = cond_both (p.by.machine == client.machine) (done terms p.by m p.at p.what) (machines terms past client.machine)
      (λ (x : Machine). x.process ≡ Some client.boot → h.left_there ≡ x.candidate client.number name)
      (λ same. by_running (eqb-true p.by.machine client.machine same) (begins_or_runs past p.by m.process p.what next.running))
      (λ elsewhere. h.runs);
  unborn = λ none. h.unborn (λ q i. none q (inr i));
}
  where
    m : Machine
    m = machines terms past p.by.machine

    apart : p.by.machine ≡ client.machine → p.by.boot ≡ client.boot → (p.by.number == client.number) ≡ false
    apart machine boot = false_from_ne_true (p.by.number == client.number) (λ is. both_ways (same_client p.by client) other
        (rw (eq-eqb p.by.machine client.machine machine, eq-eqb p.by.boot client.boot boot) is))

    by_running : p.by.machine ≡ client.machine
        → IsBeginning past p.by p.what ⊎ ((m.process ≡ Some p.by.boot) × ((floor : ℕ) → p.what ≡ begins floor → ⊥))
        → (done terms p.by m p.at p.what).process ≡ Some client.boot
        → h.left_there ≡ (done terms p.by m p.at p.what).candidate client.number name
    by_running same (inl begun) running =
        let boot : p.by.boot ≡ client.boot = same_some p.by.boot client.boot (rw begun.1 at running) in
        let none = h.unborn (λ q i machine at_boot. begun.2 q i (machine ∙ sym same) (at_boot ∙ sym boot)) in
        rw begun.1 (sym h.clients.leaves ∙ rw none)
    by_running same (inr (run, goes_on)) running =
        let still : m.process ≡ Some client.boot = sym (process_stays terms p.by m p.at p.what goes_on) ∙ running in
        let boot : p.by.boot ≡ client.boot = same_some p.by.boot client.boot (sym run ∙ still) in
        let old : h.left_there ≡ m.candidate client.number name = rw (← same) at h.runs still in
        old ∙ others_stay terms name p.by m p.at p.what client.number (apart same boot) goes_on

-- a step of the client
step_here : (terms : Terms) (all : List Step) (name : Name) (p : Step) (past : List Step) (ms : List ClientMoment) → IsNext terms past p
    → OfClient terms name p.by past ms
    → OfClient terms name p.by (p ∷ past) (ms ++ map (at_moment p.at) (client_events all name p.at p.what))
step_here terms all name p past ms next h = record {
  left_there = new;
  clients = by_running (begins_or_runs past p.by (machines terms past p.by.machine).process p.what next.running);
  runs = λ running. rw (same_true p.by.machine);
  unborn = λ none. absurd (none p (inl refl) refl refl);
}
  where
    new : Candidate
    new = (done terms p.by (machines terms past p.by.machine) p.at p.what).candidate p.by.number name

    by_running : IsBeginning past p.by p.what ⊎ (((machines terms past p.by.machine).process ≡ Some p.by.boot)
        × ((floor : ℕ) → p.what ≡ begins floor → ⊥))
        → IsClients terms.nodes terms.relies_for (terms.clock p.by.machine p.by.boot) p.by
        (ms ++ map (at_moment p.at) (client_events all name p.at p.what)) new p.at
    by_running (inl x) = rw (x.1, h.unborn x.2) (record { follows = tt; leaves = refl; ends = omega arith })
    by_running (inr x) = goes_on (rw (h.runs x.0) at h.clients) new p.at next.time (client_events all name p.at p.what)
        (did terms all name p.by (machines terms past p.by.machine) p.at p.what next.may x.1)

-- one step more
step_acts : (terms : Terms) (all : List Step) (name : Name) (client : Client) (p : Step) (past : List Step) → IsNext terms past p
    → OfClient terms name client past (moments client (acts all name past))
    → OfClient terms name client (p ∷ past) (moments client (acts all name (p ∷ past)))
step_acts terms all name client p past next h =
    rw (moments_more client (acts all name past) (map (act_at p.at p.by) (client_events all name p.at p.what)))
    (by_test (cases_Bool (same_client p.by client)))
  where
    by_test : (same_client p.by client ≡ true) ⊎ (same_client p.by client ≡ false) → OfClient terms name client (p ∷ past)
        (moments client (acts all name past) ++ moments client (map (act_at p.at p.by) (client_events all name p.at p.what)))
    by_test (inl is) =
        let same = client_is p.by client is in
        rw (← same, own_moments p.by p.at (client_events all name p.at p.what))
        (step_here terms all name p past (moments p.by (acts all name past)) next (rw (← same) at h))
    by_test (inr is) = rw (others_moments client p.at (client_events all name p.at p.what) p.by is, append-nil)
        (step_elsewhere terms name client p past (moments client (acts all name past)) next is h)

pub clients : (terms : Terms) (all : List Step) (name : Name) (client : Client) (past : List Step) → AreSteps terms past
    → OfClient terms name client past (moments client (acts all name past))
clients terms all name client [] are =
    record {
      left_there = beginning;
      clients = record { follows = tt; leaves = refl; ends = omega arith };
      runs = λ running. refl;
      unborn = λ none. refl;
    }
clients terms all name client (p ∷ past) are = step_acts terms all name client p past are.1 (clients terms all name client past are.0)

-- ---- moments are acts

pub moment_of_act : (client : Client) (rest : List Act) (at : ℕ) (what : ClientEvent) → IsAmong (act_at at client what) rest
    → IsAmong (at_moment at what) (moments client rest)
moment_of_act client [] at what i = absurd i
moment_of_act client (a ∷ rest) at what (inl e) = rw (← e, is_client client) (inl refl)
moment_of_act client (a ∷ rest) at what (inr i) =
    cond_both (same_client a.client client) (at_moment a.at a.what ∷ moments client rest) (moments client rest)
    (IsAmong (at_moment at what)) (λ same. inr (moment_of_act client rest at what i)) (λ other. moment_of_act client rest at what i)

same_act : (a : Act) (client : Client) (at : ℕ) (what : ClientEvent) → a.client ≡ client → at_moment at what ≡ at_moment a.at a.what
    → act_at at client what ≡ a
same_act a client at what same is =
    let of = sym same in
    λ i. record { at = (is i).at; client = of i; what = (is i).what }

pub act_of_moment : (client : Client) (rest : List Act) (at : ℕ) (what : ClientEvent) → IsAmong (at_moment at what) (moments client rest)
    → IsAmong (act_at at client what) rest
act_of_moment client [] at what i = absurd i
act_of_moment client (a ∷ rest) at what i =
    cond_both (same_client a.client client) (at_moment a.at a.what ∷ moments client rest) (moments client rest)
    (λ (l : List ClientMoment). IsAmong (at_moment at what) l → IsAmong (act_at at client what) (a ∷ rest))
    (λ is j. elim j [
      | inl e ↦ inl (same_act a client at what (client_is a.client client is) e)
      | inr k ↦ inr (act_of_moment client rest at what k)
    ]) (λ other j. inr (act_of_moment client rest at what j)) i

last_after : (nodes relies_for : ℕ) (clock : ℕ → ℕ) (self : Client) (time : ℕ) (c : Candidate) (ms : List ClientMoment)
    → FollowsFrom nodes relies_for clock self time c ms → time ≤ last_moment time ms
last_after nodes relies_for clock self time c [] follows = omega arith
last_after nodes relies_for clock self time c (n ∷ ms) follows =
    (let rest = last_after nodes relies_for clock self n.at (after_act nodes relies_for clock c n.at n.what) ms follows.2 in
    omega (arith, rest, follows.0))

moment_before : (nodes relies_for : ℕ) (clock : ℕ → ℕ) (self : Client) (time : ℕ) (c : Candidate) (ms : List ClientMoment)
    → FollowsFrom nodes relies_for clock self time c ms
    → (m : ClientMoment) → IsAmong m ms → m.at ≤ last_moment time ms
moment_before nodes relies_for clock self time c [] follows m i = absurd i
moment_before nodes relies_for clock self time c (n ∷ ms) follows m (inl e) =
    (let rest = last_after nodes relies_for clock self n.at (after_act nodes relies_for clock c n.at n.what) ms follows.2 in
    let same : m.at ≡ n.at = ap (λ (x : ClientMoment). x.at) e in omega (arith, rest, same))
moment_before nodes relies_for clock self time c (n ∷ ms) follows m (inr i) =
    moment_before nodes relies_for clock self n.at (after_act nodes relies_for clock c n.at n.what) ms follows.2 m i

-- no moment is later than the last step
pub moments_before : (terms : Terms) (name : Name) (client : Client) (past : List Step) (ms : List ClientMoment)
    → OfClient terms name client past ms → (m : ClientMoment) → IsAmong m ms → m.at ≤ last_time past
moments_before terms name client past ms h m i =
    let ends = h.clients.ends in
    let le = moment_before terms.nodes terms.relies_for (terms.clock client.machine client.boot) client 0 beginning ms h.clients.follows m i
    in omega (arith, ends, le)

-- ---- up to a true time

later_moments : (client : Client) (at : ℕ) (what : List ClientEvent) (self : Client) (m : ClientMoment)
    → IsAmong m (moments client (map (act_at at self) what)) → m.at ≡ at
later_moments client at [] self m i = absurd i
later_moments client at (e ∷ rest) self m i =
    cond_both (same_client self client) (at_moment at e ∷ moments client (map (act_at at self) rest))
    (moments client (map (act_at at self) rest)) (λ (l : List ClientMoment). IsAmong m l → m.at ≡ at)
    (λ same j. elim j [ inl is ↦ ap (λ (x : ClientMoment). x.at) is | inr k ↦ later_moments client at rest self m k ])
    (λ other j. later_moments client at rest self m j) i

-- the steps that are kept are those up to a true time; what the client did later, it did behind that
pub record IsCut (terms : Terms) (all : List Step) (name : Name) (client : Client) (time : ℕ) (steps kept : List Step) : Type 0 where
  pub are : AreSteps terms kept
  pub by : last_time kept ≤ time
  pub later : List ClientMoment
  pub parts : moments client (acts all name steps) ≡ moments client (acts all name kept) ++ later
  pub behind : (m : ClientMoment) → IsAmong m later → time < m.at

step_cut : (terms : Terms) (all : List Step) (name : Name) (client : Client) (time : ℕ) (p : Step) (past : List Step)
    → AreSteps terms (p ∷ past)
    → IsCut terms all name client time past (up_to time past) → (b : Bool) → leb p.at time ≡ b
    → IsCut terms all name client time (p ∷ past) (if b then p ∷ past else up_to time past)
step_cut terms all name client time p past are h true le = record {
  are = are;
  by = leb-true p.at time le;
  later = [];
  parts = sym (append-nil (moments client (acts all name (p ∷ past))));
  behind = λ m i. absurd i;
}
step_cut terms all name client time p past are h false less =
    let new = moments client (map (act_at p.at p.by) (client_events all name p.at p.what)) in record {
      are = h.are;
      by = h.by;
      later = h.later ++ new;
      parts = moments_more client (acts all name past) (map (act_at p.at p.by) (client_events all name p.at p.what))
          ∙ (ap (λ (x : List ClientMoment). x ++ new) h.parts ∙ append_assoc (moments client (acts all name (up_to time past))) h.later
          new);
      behind = λ m i. elim (among_both m h.later new i) [
        | inl j ↦ h.behind m j
        | inr j ↦ at_end (leb-false p.at time less) (later_moments client p.at (client_events all name p.at p.what) p.by m j)
      ];
    }
  where
    at_end : {s t : ℕ} → time < s → t ≡ s → time < t
    at_end le is = omega (arith, le, is)

pub cut : (terms : Terms) (all : List Step) (name : Name) (client : Client) (time : ℕ) (steps : List Step) → AreSteps terms steps
    → IsCut terms all name client time steps (up_to time steps)
cut terms all name client time [] are = record { are = tt; by = omega arith; later = []; parts = refl; behind = λ m i. absurd i }
cut terms all name client time (p ∷ past) are = step_cut terms all name client time p past are (cut terms all name client time past are.0)
    (leb p.at time) refl
