-- Whether a list is one of steps: a test, which proves it.
use Rattle.std.proofs.Common.{◌≡◌, ℕ, ◌+◌, ◌<◌, ◌≤◌, Bool, true, false, List, [], ◌∷◌, Option, Some, None, is_some, refl, ap, inl, inr}
use Rattle.std.proofs.Common.{arith}
use Rattle.std.specs.Prelude.{◌==◌, ◌&&◌, not, leb, ltb, option_and_then, option_map}
use Rattle.std.specs.Str.{bytes_eq}
use Rattle.std.proofs.lemmas.Bool.{and_from, cond_both, eq-eqb, eqb-true, leb-true, ltb-true}
use Rattle.lease_runs.specs.Voter.{Client, Voter, Ask, grants, releases, MayGrant}
use Rattle.lease_network.specs.Network.{Name, Message, request, grant, release, Event, begins, reserves, sends, takes, Step, Terms, Machine}
use Rattle.lease_network.specs.Network.{MayDo, Sends, WasSent, IsRunning, AreSteps, ask_at, done, last_time, machines, voter_then}
use Rattle.lease_network.specs.Projection.{same_client}
use Rattle.lease_network.proofs.Steps.{IsUnborn, by_name, client_is, name_is}

-- ---- tests that prove what they tell

infixl 10 ◌>>=◌
abbrev ◌>>=◌ : {A B : Type 0} → Option A → (A → Option B) → Option B
o >>= f = option_and_then f o

abbrev test : {A : Type 0} (b : Bool) → (b ≡ true → A) → Option A
test true proof = Some (proof refl)
test false proof = None

abbrev or_else : {A : Type 0} → Option A → Option A → Option A
or_else (Some a) other = Some a
or_else None other = other

abbrev at_most : (a b : ℕ) → Option (a ≤ b)
at_most a b = test (leb a b) (leb-true a b)

abbrev below : (a b : ℕ) → Option (a < b)
below a b = test (ltb a b) (ltb-true a b)

abbrev equal : (a b : ℕ) → Option (a ≡ b)
equal a b = test (a == b) (eqb-true a b)

abbrev one_client : (c d : Client) → Option (c ≡ d)
one_client c d = test (same_client c d) (client_is c d)

abbrev filled : {A : Type 0} → ((a b : A) → Option (a ≡ b)) → (o : Option A) (b : A) → Option (o ≡ Some b)
filled same None b = None
filled same (Some a) b = option_map (λ (is : a ≡ b). ap Some is) (same a b)

-- ---- what went before

pub same_request : {n name : Name} {d c : Client} {k number e epoch : ℕ} → n ≡ name → d ≡ c → k ≡ number → e ≡ epoch
    → request n d k e ≡ request name c number epoch
same_request named own numbered is = cc

pub same_release : {n name : Name} {d c : Client} {e epoch : ℕ} → n ≡ name → d ≡ c → e ≡ epoch → release n d e ≡ release name c epoch
same_release named own is = cc

abbrev one_message : (a b : Message) → Option (a ≡ b)
one_message (request n d k e) (request name c number epoch) = do
  named ← test (bytes_eq n name) (name_is n name)
  own ← one_client d c
  numbered ← equal k number
  is ← equal e epoch
  Some (same_request named own numbered is)
one_message (release n d e) (release name c epoch) = do
  named ← test (bytes_eq n name) (name_is n name)
  own ← one_client d c
  is ← equal e epoch
  Some (same_release named own is)
one_message _ _ = None

abbrev sent : (message : Message) (what : Event) → Option (what ≡ sends message)
sent message (sends other) = option_map (λ (is : other ≡ message). ap sends is) (one_message other message)
sent message _ = None

abbrev granted : (name : Name) (c : Client) (number : ℕ) (what : Event)
    → Option ((epoch : ℕ) × (what ≡ takes (request name c number epoch)))
granted name c number (takes (request n d k e)) =
    option_map (λ (is : request n d k e ≡ request name c number e). (e, ap takes is))
    (one_message (request n d k e) (request name c number e))
granted name c number _ = None

abbrev said : (message : Message) (s : Step) → Option (Sends s message)
said (request name c number epoch) s = sent (request name c number epoch) s.what
said (release name c epoch) s = sent (release name c epoch) s.what
said (grant name c number voter) s = do
  there ← equal s.by.machine voter
  took ← granted name c number s.what
  Some (there, took)

abbrev was_sent : (message : Message) (past : List Step) → Option (WasSent past (takes message))
was_sent message [] = None
was_sent message (s ∷ past) = or_else (option_map (λ (here : Sends s message). (s, inl refl, here)) (said message s))
    (option_map (λ (before : WasSent past (takes message)). (before.0, inr before.1, before.2)) (was_sent message past))

pub apart : (m n b o : ℕ) → not ((m == n) && (b == o)) ≡ true → m ≡ n → b ≡ o → ⊥
apart m n b o differ machine boot = (let same = and_from (m == n) (b == o) (eq-eqb m n machine) (eq-eqb b o boot) in cc)

pub fresh : (self : Client) (p : Step) (past : List Step) → IsUnborn past self
    → (p.by.machine ≡ self.machine → p.by.boot ≡ self.boot → ⊥) → IsUnborn (p ∷ past) self
fresh self p past before new s (inl e) machine boot = (let x : (p.by.machine ≡ self.machine) × (p.by.boot ≡ self.boot) = (cc, cc) in
    new x.0 x.1)
fresh self p past before new s (inr i) machine boot = before s i machine boot

abbrev is_unborn : (self : Client) (past : List Step) → Option (IsUnborn past self)
is_unborn self [] = Some (λ s i machine boot. i)
is_unborn self (p ∷ past) = do
  before ← is_unborn self past
  new ← test (not ((p.by.machine == self.machine) && (p.by.boot == self.boot))) (apart p.by.machine self.machine p.by.boot self.boot)
  Some (fresh self p past before new)

-- ---- which epochs a process allows

abbrev AllowsUpTo : ℕ → Event → Type 0
AllowsUpTo most (begins floor) = floor ≤ most
AllowsUpTo most (reserves bound) = bound ≤ most
AllowsUpTo most _ = Unit {0}

abbrev allows : (most : ℕ) (what : Event) → Option (AllowsUpTo most what)
allows most (begins floor) = at_most floor most
allows most (reserves bound) = at_most bound most
allows most _ = Some tt

abbrev Bounded : Terms → ℕ → List Step → Type 0
Bounded terms most past = (n : ℕ) (name : Name) → ((machines terms past n).voter name).bound ≤ most

bounded_here : (terms : Terms) (most : ℕ) (self : Client) (m : Machine) (at : ℕ) (what : Event) (name : Name) → AllowsUpTo most what
    → (m.voter name).bound ≤ most → ((done terms self m at what).voter name).bound ≤ most
bounded_here terms most self m at (begins floor) name is old = is
bounded_here terms most self m at (reserves bound) name is old = is
bounded_here terms most self m at (takes (request n c number epoch)) name is old =
    by_name (λ (v : Voter). v.bound ≤ most) n name (voter_then terms self m at (grants (ask_at c number epoch at))) m.voter (λ same. old)
    (λ other. old)
bounded_here terms most self m at (takes (release n c epoch)) name is old =
    by_name (λ (v : Voter). v.bound ≤ most) n name (voter_then terms self m at (releases c epoch)) m.voter (λ same. old) (λ other. old)
bounded_here terms most self m at (sends (grant n c number voter)) name is old = old
bounded_here terms most self m at _ name is old = old

pub bounded_first : (terms : Terms) (most : ℕ) → Bounded terms most []
bounded_first terms most n name = omega arith

pub bounded_next : (terms : Terms) (most : ℕ) (p : Step) (past : List Step) → Bounded terms most past → AllowsUpTo most p.what
    → Bounded terms most (p ∷ past)
bounded_next terms most p past before allowed n name =
    cond_both (p.by.machine == n) (done terms p.by (machines terms past p.by.machine) p.at p.what) (machines terms past n)
    (λ (m : Machine). (m.voter name).bound ≤ most)
    (λ here. bounded_here terms most p.by (machines terms past p.by.machine) p.at p.what name allowed (before p.by.machine name))
    (λ elsewhere. before n name)

abbrev is_bounded : (terms : Terms) (most : ℕ) (past : List Step) → Option (Bounded terms most past)
is_bounded terms most [] = Some (bounded_first terms most)
is_bounded terms most (p ∷ past) = do
  before ← is_bounded terms most past
  allowed ← allows most p.what
  Some (bounded_next terms most p past before allowed)

-- ---- steps

abbrev is_free : (holder : Option Client) → Option (holder ≡ None)
is_free None = Some refl
is_free (Some c) = None

abbrev may_grant : (v : Voter) (now : ℕ) (ask : Ask) → Option (MayGrant v now ask)
may_grant v now ask = do
  greater ← below v.last ask.epoch
  free ← or_else (option_map (λ (none : v.holder ≡ None). inl none) (is_free v.holder))
      (option_map (λ (over : v.ends ≤ now). inr (inl over)) (at_most v.ends now))
  Some (inl (greater, free))

abbrev here : Terms → List Step → Client → Machine
here terms past self = machines terms past self.machine

abbrev clock_of : Terms → List Step → Client → Name → ℕ → ℕ
clock_of terms past self name at = terms.clock self.machine ((here terms past self).voter name).boot at

abbrev is_running : (terms : Terms) (past : List Step) (self : Client) → Option ((here terms past self).process ≡ Some self.boot)
is_running terms past self = filled equal (here terms past self).process self.boot

abbrev Allowed : Terms → List Step → Client → ℕ → Event → Type 0
Allowed terms past self at what =
    IsRunning past self (here terms past self).process what × MayDo terms self (here terms past self) at what × WasSent past what

abbrev allowed : (terms : Terms) (past : List Step) (self : Client) (at : ℕ) (what : Event) → Option (Allowed terms past self at what)
allowed terms past self at (begins floor) = do
  new ← is_unborn self past
  bounded ← is_bounded terms floor past
  Some (new, bounded self.machine, tt)
allowed terms past self at (reserves bound) = do
  running ← is_running terms past self
  bounded ← is_bounded terms bound past
  Some (running, bounded self.machine, tt)
allowed terms past self at (sends (request name c number epoch)) = do
  running ← is_running terms past self
  own ← one_client c self
  more ← below ((here terms past self).candidate self.number name).number number
  greater ← below ((here terms past self).candidate self.number name).given_up epoch
  Some (running, (own, refl, more, greater), tt)
allowed terms past self at (sends (release name c epoch)) = do
  running ← is_running terms past self
  own ← one_client c self
  Some (running, (own, tt), tt)
allowed terms past self at (takes (request name c number epoch)) = do
  running ← is_running terms past self
  waited ← at_most (((here terms past self).voter name).began + terms.keeps) (clock_of terms past self name at)
  durable ← at_most epoch ((here terms past self).voter name).bound
  may ← may_grant ((here terms past self).voter name) (clock_of terms past self name at) (ask_at c number epoch at)
  sent ← was_sent (request name c number epoch) past
  Some (running, (waited, durable, may), sent)
allowed terms past self at (takes (grant name c number voter)) = do
  running ← is_running terms past self
  own ← one_client c self
  one ← below voter terms.nodes
  sent ← was_sent (grant name c number voter) past
  Some (running, (own, one), sent)
allowed terms past self at (takes (release name c epoch)) = do
  running ← is_running terms past self
  held ← filled one_client ((here terms past self).voter name).holder c
  last ← equal ((here terms past self).voter name).last epoch
  sent ← was_sent (release name c epoch) past
  Some (running, (held, last), sent)
allowed terms past self at _ = None

-- whether each step may follow those before it
abbrev pub are_steps : (terms : Terms) (steps : List Step) → Option (AreSteps terms steps)
are_steps terms [] = Some tt
are_steps terms (s ∷ past) = do
  are ← are_steps terms past
  time ← at_most (last_time past) s.at
  may ← allowed terms past s.by s.at s.what
  Some (are, record { time = time; running = may.0; may = may.1; sent = may.2 })

-- what the test proved
pub proof : {A : Type 0} (o : Option A) → is_some o ≡ true → A
proof (Some a) is = a
proof None is = absurd cc

-- ---- who takes part

abbrev pub ann : Client
ann = record { machine = 0; boot = 0; number = 1 }

abbrev pub bob : Client
bob = record { machine = 1; boot = 0; number = 1 }

abbrev pub cid : Client
cid = record { machine = 2; boot = 0; number = 1 }

-- what follows Bob on his machine
abbrev pub new : Client
new = record { machine = 1; boot = 1; number = 1 }

abbrev pub x : Name
x = 120 ∷ []

abbrev pub y : Name
y = 121 ∷ []

-- a step of a client at a time
abbrev pub on : ℕ → Client → Event → Step
on at by what = record { at = at; by = by; what = what }
