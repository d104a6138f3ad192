-- Steps, one by one: when they come, who does them, and that a request has a number of its own.
use Rattle.std.proofs.Common.{◌≡◌, ◌⊎◌, ℕ, ◌<◌, ◌≤◌, true, false, List, [], ◌∷◌, ◌++◌, Option, Some, None, refl, sym, ◌∙◌, ap, subst}
use Rattle.std.proofs.Common.{inl, inr, arith}
use Rattle.std.specs.Prelude.{◌==◌, ◌&&◌}
use Rattle.std.specs.Str.{bytes_eq}
use Rattle.std.proofs.lemmas.Bool.{and_parts, cond_both, eqb-true, eq-eqb}
use Rattle.std.proofs.lemmas.Slice.Eq.{bytes_eq-Decides}
use Rattle.lease_runs.specs.Lists.{IsAmong}
use Rattle.lease_runs.specs.Voter.{Client, Ask}
use Rattle.lease_runs.specs.Run.{ClientEvent, asks, hears, stops}
use Rattle.lease_runs.specs.Candidate.{Candidate, taken, voted, with_vote}
use Rattle.lease_network.specs.Network.{Name, request, grant, release, Event, begins, reserves, sends, takes, Step, Terms, Machine, MayDo}
use Rattle.lease_network.specs.Network.{IsRunning, IsNext, AreSteps, ask_at, at_client, acted, at_name, candidate_then, done}
use Rattle.lease_network.specs.Network.{last_time, machines}
use Rattle.lease_network.specs.Projection.{asked_for, or_before, same_client}

-- ---- equal names, clients

pub name_is : (n name : Name) → bytes_eq n name ≡ true → n ≡ name
name_is n name same = (bytes_eq-Decides n name).0 same

pub is_name : (name : Name) → bytes_eq name name ≡ true
is_name name = (bytes_eq-Decides name name).1 refl

pub client_is : (c d : Client) → same_client c d ≡ true → c ≡ d
client_is c d same =
    let first = and_parts (c.machine == d.machine) ((c.boot == d.boot) && (c.number == d.number)) same in
    let rest = and_parts (c.boot == d.boot) (c.number == d.number) first.1 in
    let machine = eqb-true c.machine d.machine first.0 in
    let boot = eqb-true c.boot d.boot rest.0 in
    let number = eqb-true c.number d.number rest.1 in λ i. record { machine = machine i; boot = boot i; number = number i }

pub same_true : (n : ℕ) → (n == n) ≡ true
same_true n = eq-eqb n n refl

pub is_client : (c : Client) → same_client c c ≡ true
is_client c = rw (same_true c.machine, same_true c.boot, same_true c.number)

-- ---- of the name, and of others

pub by_name : {A : Type 0} (P : A → Type 0) (name other : Name) (new old : Name → A) → (bytes_eq name other ≡ true → P (new other))
    → (bytes_eq name other ≡ false → P (old other))
    → P (at_name name new old other)
by_name P name other new old = cond_both (bytes_eq name other) (new other) (old other) P

pub by_client : (P : Candidate → Type 0) (number other : ℕ) (new : Name → Candidate) (old : ℕ → Name → Candidate) (name : Name)
    → (number ≡ other → P (new name))
    → ((number == other) ≡ false → P (old other name)) → P (at_client number new old other name)
by_client P number other new old name same = cond_both (number == other) (new name) (old other name) P
    (λ is. same (eqb-true number other is))

-- ---- where a step stands

pub among_both : {A : Type 0} (x : A) (xs ys : List A) → IsAmong x (xs ++ ys) → IsAmong x xs ⊎ IsAmong x ys
among_both x [] ys i = inr i
among_both x (y ∷ xs) ys (inl e) = inl (inl e)
among_both x (y ∷ xs) ys (inr i) = elim (among_both x xs ys i) [ inl j ↦ inl (inr j) | inr j ↦ inr j ]

pub record Placed (terms : Terms) (steps : List Step) (s : Step) : Type 0 where
  pub past : List Step
  pub are : AreSteps terms past
  pub next : IsNext terms past s
  pub within : (p : Step) → IsAmong p past → IsAmong p steps

pub placed : (terms : Terms) (steps : List Step) (s : Step) → AreSteps terms steps → IsAmong s steps → Placed terms steps s
placed terms [] s are i = absurd i
placed terms (p ∷ past) s are (inl e) =
    record { past = past; are = are.0; next = subst (λ (x : Step). IsNext terms past x) (sym e) are.1; within = λ q i. inr i }
placed terms (p ∷ past) s are (inr i) =
    let rest = placed terms past s are.0 i in
    record { past = rest.past; are = rest.are; next = rest.next; within = λ q j. inr (rest.within q j) }

pub before : (terms : Terms) (past : List Step) → AreSteps terms past → (s : Step) → IsAmong s past → s.at ≤ last_time past
before terms [] are s i = absurd i
before terms (p ∷ past) are s (inl e) = (let same : s.at ≡ p.at = ap (λ (x : Step). x.at) e in omega (arith, same))
before terms (p ∷ past) are s (inr i) = (let rest = before terms past are.0 s i in let next = are.1.time in omega (arith, rest, next))

-- who asks is the client of the request
pub asker : (terms : Terms) (past : List Step) (s : Step) → IsNext terms past s → (name : Name) (client : Client) (number epoch : ℕ)
    → s.what ≡ sends (request name client number epoch)
    → client ≡ s.by
asker terms past s next name client number epoch is = (rw is at next.may).0

pub releaser : (terms : Terms) (past : List Step) (s : Step) → IsNext terms past s → (name : Name) (client : Client) (epoch : ℕ)
    → s.what ≡ sends (release name client epoch) → client ≡ s.by
releaser terms past s next name client epoch is = (rw is at next.may).0

-- ---- a request has a number of its own

pub same_some : (x y : ℕ) → Some x ≡ Some y → x ≡ y
same_some x y e = cc

number_voted : (nodes relies_for : ℕ) (clock : ℕ → ℕ) (at voter number : ℕ) (c : Candidate) (req : Option Ask)
    → (voted nodes relies_for clock at voter number c req).number ≡ c.number
number_voted nodes relies_for clock at voter number c None = refl
number_voted nodes relies_for clock at voter number c (Some o) = cond_both (o.number == number)
    (record c { votes = with_vote voter c.votes; lease = taken nodes relies_for clock at (with_vote voter c.votes) o c.lease }) c
    (λ (d : Candidate). d.number ≡ c.number) (λ same. refl) (λ other. refl)

act_rises : (terms : Terms) (self : Client) (m : Machine) (at : ℕ) (n name : Name) (other : ℕ) (what : ClientEvent)
    → (n ≡ name → (m.candidate self.number name).number ≤ (candidate_then terms self m at what name).number)
    → (m.candidate other name).number ≤ ((acted terms self m at n what).candidate other name).number
act_rises terms self m at n name other what rises =
    by_client (λ (c : Candidate). (m.candidate other name).number ≤ c.number) self.number other
    (at_name n (candidate_then terms self m at what) (m.candidate self.number)) m.candidate name
    (λ same. subst (λ (k : ℕ). (m.candidate k name).number ≤
    (at_name n (candidate_then terms self m at what) (m.candidate self.number) name).number) same
    (by_name (λ (c : Candidate). (m.candidate self.number name).number ≤ c.number) n name (candidate_then terms self m at what)
    (m.candidate self.number)
    (λ is. rises (name_is n name is)) (λ not. omega arith)))
    (λ different. omega arith)

-- what a process does but begin keeps the number of the last request of a client for a name, or raises it
number_rises : (terms : Terms) (self : Client) (m : Machine) (at : ℕ) (what : Event) (name : Name) (other : ℕ) → MayDo terms self m at what
    → ((floor : ℕ) → what ≡ begins floor → ⊥)
    → (m.candidate other name).number ≤ ((done terms self m at what).candidate other name).number
number_rises terms self m at (begins floor) name other may goes_on = absurd (goes_on floor refl)
number_rises terms self m at (sends (request n client number epoch)) name other may goes_on =
    act_rises terms self m at n name other (asks (ask_at client number epoch at)) (λ is. (let less = rw is at may.2 in omega (arith, less)))
number_rises terms self m at (sends (release n client epoch)) name other may goes_on =
    act_rises terms self m at n name other (stops epoch) (λ is. omega arith)
number_rises terms self m at (takes (grant n client number voter)) name other may goes_on =
    act_rises terms self m at n name other (hears voter (ask_at client number 0 at)) (λ is.
    rw (number_voted terms.nodes terms.relies_for (terms.clock self.machine self.boot) at voter number (m.candidate self.number name)
    (m.candidate self.number name).asked) (omega arith))
number_rises terms self m at (takes (request n client number epoch)) name other may goes_on = omega arith
number_rises terms self m at _ name other may goes_on = omega arith

-- what a process does but begin leaves it running
pub process_stays : (terms : Terms) (self : Client) (m : Machine) (at : ℕ) (what : Event) → ((floor : ℕ) → what ≡ begins floor → ⊥)
    → (done terms self m at what).process ≡ m.process
process_stays terms self m at (begins floor) goes_on = absurd (goes_on floor refl)
process_stays terms self m at (sends (request n client number epoch)) goes_on = refl
process_stays terms self m at (takes (request n client number epoch)) goes_on = refl
process_stays terms self m at _ goes_on = refl

-- nothing before was done in this process
abbrev pub IsUnborn : List Step → Client → Type 0
IsUnborn past self = (s : Step) → IsAmong s past → s.by.machine ≡ self.machine → s.by.boot ≡ self.boot → ⊥

abbrev pub IsBeginning : List Step → Client → Event → Type 0
IsBeginning past self what = (floor : ℕ) × (what ≡ begins floor) × IsUnborn past self

-- a process begins, or is the one that runs
pub begins_or_runs : (past : List Step) (self : Client) (process : Option ℕ) (what : Event) → IsRunning past self process what
    → IsBeginning past self what ⊎ ((process ≡ Some self.boot) × ((floor : ℕ) → what ≡ begins floor → ⊥))
begins_or_runs past self process (begins floor) running = inl (floor, refl, running)
begins_or_runs past self process (reserves bound) running = inr (running, λ floor is. cc)
begins_or_runs past self process _ running = inr (running, λ floor is. cc)

abbrev Numbered : ℕ → Name → Client → Machine → Type 0
Numbered number name client m = m.process ≡ Some client.boot → number ≤ (m.candidate client.number name).number

-- one step more
numbered_later : (terms : Terms) (p : Step) (past : List Step) → AreSteps terms (p ∷ past) → (s : Step) → IsAmong s past
    → (name : Name) (client : Client) (number epoch : ℕ)
    → s.what ≡ sends (request name client number epoch) → Numbered number name client (machines terms past client.machine)
    → Numbered number name client (machines terms (p ∷ past) client.machine)
numbered_later terms p past are s i name client number epoch is rest =
    cond_both (p.by.machine == client.machine) (done terms p.by m p.at p.what) (machines terms past client.machine)
    (Numbered number name client) (λ same. by_running (eqb-true p.by.machine client.machine same)
    (begins_or_runs past p.by m.process p.what are.1.running)) (λ elsewhere. rest)
  where
    m : Machine
    m = machines terms past p.by.machine

    by_running : p.by.machine ≡ client.machine
        → IsBeginning past p.by p.what ⊎ ((m.process ≡ Some p.by.boot) × ((floor : ℕ) → p.what ≡ begins floor → ⊥))
        → Numbered number name client (done terms p.by m p.at p.what)
    by_running same (inl begun) running =
        let of = placed terms past s are.0 i in
        let own : client ≡ s.by = asker terms of.past s of.next name client number epoch is in
        let began : Some p.by.boot ≡ Some client.boot = rw begun.1 at running in
        absurd (begun.2 s i (cc (sym own)) (cc (sym own)))
    by_running same (inr (run, goes_on)) running =
        let rises = number_rises terms p.by m p.at p.what name client.number are.1.may goes_on in
        let low = rw (← same) at rest (sym (process_stays terms p.by m p.at p.what goes_on) ∙ running) in omega (arith, rises, low)

number_now : (terms : Terms) (p : Step) (past : List Step) (name : Name) (number epoch : ℕ)
    → p.what ≡ sends (request name p.by number epoch) → Numbered number name p.by (machines terms (p ∷ past) p.by.machine)
number_now terms p past name number epoch what running =
    rw (same_true p.by.machine, what, same_true p.by.number, is_name name) (omega arith)

-- the client that asked keeps the number, or a greater one
numbered : (terms : Terms) (past : List Step) → AreSteps terms past → (s : Step) → IsAmong s past
    → (name : Name) (client : Client) (number epoch : ℕ)
    → s.what ≡ sends (request name client number epoch) → Numbered number name client (machines terms past client.machine)
numbered terms [] are s i name client number epoch is = absurd i
numbered terms (p ∷ past) are s (inl e) name client number epoch is =
    let what : p.what ≡ sends (request name client number epoch) = rw e at is in
    let own : client ≡ p.by = asker terms past p are.1 name client number epoch what in
    rw own (number_now terms p past name number epoch (rw own at what))
numbered terms (p ∷ past) are s (inr i) name client number epoch is =
    numbered_later terms p past are s i name client number epoch is (numbered terms past are.0 s i name client number epoch is)

-- no later step asks so again
asked_before : (terms : Terms) (p : Step) (past : List Step) → AreSteps terms (p ∷ past) → (s : Step) → IsAmong s past
    → (name : Name) (client : Client) (number epoch : ℕ)
    → s.what ≡ sends (request name client number epoch) → asked_for past name client number ≡ ask_at client number epoch s.at
    → asked_for (p ∷ past) name client number ≡ ask_at client number epoch s.at
asked_before terms p past are s i name client number epoch is rest = by_what p.what refl
  where
    again : (e : ℕ) → p.what ≡ sends (request name client number e) → ⊥
    again e what =
        let own : client ≡ p.by = asker terms past p are.1 name client number e what in
        let up : ((machines terms past client.machine).candidate client.number name).number < number = rw own (rw what at are.1.may).2 in
        let run : (machines terms past client.machine).process ≡ Some client.boot = rw own (rw what at are.1.running) in
        let low = numbered terms past are.0 s i name client number epoch is run in omega (arith, up, low)

    by_what : (what : Event) → p.what ≡ what → or_before name client number p.at what (asked_for past name client number)
        ≡ ask_at client number epoch s.at
    by_what (sends (request n c k e)) what = cond_both (bytes_eq n name && (same_client c client && (k == number)))
        (ask_at client number e p.at) (asked_for past name client number) (λ (a : Ask). a ≡ ask_at client number epoch s.at) (λ same.
        let first = and_parts (bytes_eq n name) (same_client c client && (k == number)) same in
        let second = and_parts (same_client c client) (k == number) first.1 in
        let named = name_is n name first.0 in
        let own = client_is c client second.0 in
        let numbered = eqb-true k number second.1 in
        absurd (again e cc)) (λ other. rest)
    by_what (sends (grant n c k voter)) is = rest
    by_what _ is = rest

-- what is looked up is the request
pub asked_is : (terms : Terms) (steps : List Step) → AreSteps terms steps → (s : Step) → IsAmong s steps
    → (name : Name) (client : Client) (number epoch : ℕ)
    → s.what ≡ sends (request name client number epoch) → asked_for steps name client number ≡ ask_at client number epoch s.at
asked_is terms [] are s i name client number epoch is = absurd i
asked_is terms (p ∷ past) are s (inl e) name client number epoch is =
    rw (e, rw e at is, is_name name, is_client client, same_true number) refl
asked_is terms (p ∷ past) are s (inr i) name client number epoch is =
    asked_before terms p past are s i name client number epoch is (asked_is terms past are.0 s i name client number epoch is)

abbrev IsOf : Client → ℕ → Ask → Type 0
IsOf client number a = (a.client ≡ client) × (a.number ≡ number)

asked_so : (name : Name) (client : Client) (number at : ℕ) (what : Event) (rest : Ask) → IsOf client number rest
    → IsOf client number (or_before name client number at what rest)
asked_so name client number at (sends (request n c k e)) rest is =
    cond_both (bytes_eq n name && (same_client c client && (k == number))) (ask_at client number e at) rest (IsOf client number)
    (λ same. (refl, refl)) (λ other. is)
asked_so name client number at (sends (grant n c k voter)) rest is = is
asked_so name client number at _ rest is = is

-- whatever it is, it is this client's and has this number
pub asked_as : (steps : List Step) (name : Name) (client : Client) (number : ℕ) → IsOf client number (asked_for steps name client number)
asked_as [] name client number = (refl, refl)
asked_as (s ∷ past) name client number = asked_so name client number s.at s.what (asked_for past name client number)
    (asked_as past name client number)
