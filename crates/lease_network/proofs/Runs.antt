-- All steps of machines are runs of each name.
use Rattle.std.proofs.Common.{◌≡◌, ℕ, ◌≤◌, Bool, true, false, List, [], ◌∷◌, ◌++◌, refl, sym, ◌∙◌, ap, subst, inl, inr, arith}
use Rattle.std.specs.Prelude.{◌==◌, if◌then◌else◌, map}
use Rattle.std.specs.Str.{bytes_eq}
use Rattle.std.proofs.lemmas.Bool.{cond_both, eqb-true, eq-eqb}
use Rattle.lease_runs.specs.Lists.{IsAmong}
use Rattle.lease_runs.specs.Voter.{Client, Ask, VoterEvent, grants, releases, Moment}
use Rattle.lease_runs.specs.Run.{ClientEvent, asks, hears, stops, Act, Grants, Releases, Does}
use Rattle.lease_runs.specs.Growing.{HistoryGoesOn}
use Rattle.lease_network.specs.Network.{Name, request, grant, release, Event, begins, reserves, sends, takes, Step, Terms, AreSteps, ask_at}
use Rattle.lease_network.specs.Network.{WasSent}
use Rattle.lease_network.specs.Projection.{StepsAreRuns, act_at, acts, asked_for, client_events, history, moment_at, run_of, voter_events}
use Rattle.lease_network.specs.Projection.{when}
use Rattle.lease_network.proofs.Steps.{among_both, asked_is, asker, before, is_name, name_is, placed, releaser}
use Rattle.lease_network.proofs.Voters.{votes}

-- ---- where a moment or an act comes from

among_one : {A : Type 0} (b : Bool) (x y : A) → IsAmong y (when b x) → (b ≡ true) × (y ≡ x)
among_one true x y (inl e) = (refl, e)
among_one true x y (inr i) = absurd i
among_one false x y i = absurd i

one_among : {A : Type 0} (b : Bool) (x : A) → b ≡ true → IsAmong x (when b x)
one_among b x is = rw is (inl refl)

among_first : {A : Type 0} (x : A) (xs ys : List A) → IsAmong x xs → IsAmong x (xs ++ ys)
among_first x [] ys i = absurd i
among_first x (y ∷ xs) ys (inl e) = inl e
among_first x (y ∷ xs) ys (inr i) = inr (among_first x xs ys i)

among_second : {A : Type 0} (x : A) (xs ys : List A) → IsAmong x ys → IsAmong x (xs ++ ys)
among_second x [] ys i = i
among_second x (y ∷ xs) ys i = inr (among_second x xs ys i)

mapped : {A B : Type 0} (f : A → B) (x : A) (xs : List A) → IsAmong x xs → IsAmong (f x) (map f xs)
mapped f x [] i = absurd i
mapped f x (y ∷ xs) (inl e) = inl (ap f e)
mapped f x (y ∷ xs) (inr i) = inr (mapped f x xs i)

-- a moment of the voter is one of a step of its machine
record IsVoted (all : List Step) (name : Name) (n : ℕ) (past : List Step) (at : ℕ) (what : VoterEvent) : Type 0 where
  pub step : Step
  pub among : IsAmong step past
  pub by : step.by.machine ≡ n
  pub then_at : at ≡ step.at
  pub event : IsAmong what (voter_events all name step.by step.what)

voted_here : (time at : ℕ) (what : VoterEvent) (whats : List VoterEvent) → IsAmong (moment_at at what) (map (moment_at time) whats)
    → (at ≡ time) × IsAmong what whats
voted_here time at what [] i = absurd i
voted_here time at what (w ∷ whats) (inl e) = (ap (λ (m : Moment). m.at) e, inl (ap (λ (m : Moment). m.what) e))
voted_here time at what (w ∷ whats) (inr i) = (let rest = voted_here time at what whats i in (rest.0, inr rest.1))

is_voted : (all : List Step) (name : Name) (n : ℕ) (past : List Step) (at : ℕ) (what : VoterEvent)
    → IsAmong (moment_at at what) (history all name n past) → IsVoted all name n past at what
is_voted all name n [] at what i = absurd i
is_voted all name n (p ∷ past) at what i =
    elim (among_both (moment_at at what) (history all name n past) (if p.by.machine == n
    then map (moment_at p.at) (voter_events all name p.by p.what) else []) i) [
      | inl j ↦ (let v = is_voted all name n past at what j in
          record { step = v.step; among = inr v.among; by = v.by; then_at = v.then_at; event = v.event })
      | inr j ↦ here j
    ]
  where
    here : IsAmong (moment_at at what) (if p.by.machine == n then map (moment_at p.at) (voter_events all name p.by p.what) else [])
        → IsVoted all name n (p ∷ past) at what
    here = cond_both (p.by.machine == n) (map (moment_at p.at) (voter_events all name p.by p.what)) []
        (λ (l : List Moment). IsAmong (moment_at at what) l → IsVoted all name n (p ∷ past) at what)
        (λ is j. (let x = voted_here p.at at what (voter_events all name p.by p.what) j in
        record { step = p; among = inl refl; by = eqb-true p.by.machine n is; then_at = x.0; event = x.1 })) (λ is j. absurd j)

votes_there : (all : List Step) (name : Name) (n : ℕ) (past : List Step) (s : Step) (what : VoterEvent) → IsAmong s past → s.by.machine ≡ n
    → IsAmong what (voter_events all name s.by s.what)
    → IsAmong (moment_at s.at what) (history all name n past)
votes_there all name n [] s what i by event = absurd i
votes_there all name n (p ∷ past) s what (inr i) by event =
    among_first (moment_at s.at what) (history all name n past) _ (votes_there all name n past s what i by event)
votes_there all name n (p ∷ past) s what (inl e) by event = among_second (moment_at s.at what) (history all name n past) _
    (rw (← e, eq-eqb s.by.machine n by) (mapped (moment_at s.at) what (voter_events all name s.by s.what) event))

-- an act of a client is one of a step of its process
pub record IsDone (all : List Step) (name : Name) (past : List Step) (at : ℕ) (client : Client) (what : ClientEvent) : Type 0 where
  pub step : Step
  pub among : IsAmong step past
  pub by : client ≡ step.by
  pub then_at : at ≡ step.at
  pub event : IsAmong what (client_events all name step.at step.what)

done_here : (p : Step) (at : ℕ) (client : Client) (what : ClientEvent) (whats : List ClientEvent)
    → IsAmong (act_at at client what) (map (act_at p.at p.by) whats)
    → (client ≡ p.by) × (at ≡ p.at) × IsAmong what whats
done_here p at client what [] i = absurd i
done_here p at client what (w ∷ whats) (inl e) = (ap (λ (a : Act). a.client) e, ap (λ (a : Act). a.at) e, inl (ap (λ (a : Act). a.what) e))
done_here p at client what (w ∷ whats) (inr i) = (let rest = done_here p at client what whats i in (rest.0, rest.1, inr rest.2))

pub is_done : (all : List Step) (name : Name) (past : List Step) (at : ℕ) (client : Client) (what : ClientEvent)
    → IsAmong (act_at at client what) (acts all name past) → IsDone all name past at client what
is_done all name [] at client what i = absurd i
is_done all name (p ∷ past) at client what i =
    elim (among_both (act_at at client what) (acts all name past) (map (act_at p.at p.by) (client_events all name p.at p.what)) i) [
      | inl j ↦ (let d = is_done all name past at client what j in
          record { step = d.step; among = inr d.among; by = d.by; then_at = d.then_at; event = d.event })
      | inr j ↦ (let x = done_here p at client what (client_events all name p.at p.what) j in
          record { step = p; among = inl refl; by = x.0; then_at = x.1; event = x.2 })
    ]

pub does_there : (all : List Step) (name : Name) (past : List Step) (s : Step) (what : ClientEvent) → IsAmong s past
    → IsAmong what (client_events all name s.at s.what)
    → IsAmong (act_at s.at s.by what) (acts all name past)
does_there all name [] s what i event = absurd i
does_there all name (p ∷ past) s what (inr i) event = among_first (act_at s.at s.by what)
    (acts all name past) _ (does_there all name past s what i event)
does_there all name (p ∷ past) s what (inl e) event = among_second (act_at s.at s.by what) (acts all name past) _
    (rw (← e) (mapped (act_at s.at s.by) what (client_events all name s.at s.what) event))

-- ---- which event it was

-- a grant of a voter is of a request that its machine took, and a release one that it took
abbrev IsVoteOf : List Step → Name → VoterEvent → Event → Type 0
IsVoteOf all name (grants ask) what = (client : Client) × (number : ℕ) × (epoch : ℕ) × (what ≡ takes (request name client number epoch))
    × (ask ≡ ask_at client number epoch (asked_for all name client number).sent)
IsVoteOf all name (releases client epoch) what = what ≡ takes (release name client epoch)
IsVoteOf all name _ what = Unit {0}

is_vote : (all : List Step) (name : Name) (self : Client) (vote : VoterEvent) (what : Event)
    → IsAmong vote (voter_events all name self what) → IsVoteOf all name vote what
is_vote all name self vote (begins floor) (inl e) = rw e tt
is_vote all name self vote (begins floor) (inr i) = absurd i
is_vote all name self vote (reserves bound) (inl e) = rw e tt
is_vote all name self vote (reserves bound) (inr i) = absurd i
is_vote all name self vote (takes (request n c k epoch)) i =
    let x = among_one (bytes_eq n name) (grants (ask_at c k epoch (asked_for all name c k).sent)) vote i in
    rw (x.1, name_is n name x.0) (c, k, epoch, refl, refl)
is_vote all name self vote (takes (release n c epoch)) i =
    let x = among_one (bytes_eq n name) (releases c epoch) vote i in
    rw (x.1, name_is n name x.0) refl
is_vote all name self vote (takes (grant n c k voter)) i = absurd i
is_vote all name self vote (sends message) i = absurd i

grant_is : (all : List Step) (name : Name) (self client : Client) (number epoch : ℕ) (what : Event)
    → what ≡ takes (request name client number epoch)
    → IsAmong (grants (ask_at client number epoch (asked_for all name client number).sent)) (voter_events all name self what)
grant_is all name self client number epoch what is = rw (is, is_name name) (inl refl)

-- a request of a client is one that its process sent, what it hears is a grant that its process took, and where it gives up, it sent a
-- release
abbrev pub IsActOf : List Step → Name → ℕ → ClientEvent → Event → Type 0
IsActOf all name at (asks ask) what = (client : Client) × (number : ℕ) × (epoch : ℕ) × (what ≡ sends (request name client number epoch))
    × (ask ≡ ask_at client number epoch at)
IsActOf all name at (hears voter ask) what = (client : Client) × (number : ℕ) × (what ≡ takes (grant name client number voter))
    × (ask ≡ asked_for all name client number)
IsActOf all name at (stops epoch) what = (client : Client) × (what ≡ sends (release name client epoch))

pub is_act : (all : List Step) (name : Name) (at : ℕ) (act : ClientEvent) (what : Event) → IsAmong act (client_events all name at what)
    → IsActOf all name at act what
is_act all name at act (sends (request n c k e)) i =
    let x = among_one (bytes_eq n name) (asks (ask_at c k e at)) act i in
    rw (x.1, name_is n name x.0) (c, k, e, refl, refl)
is_act all name at act (sends (release n c e)) i =
    let x = among_one (bytes_eq n name) (stops e) act i in
    rw (x.1, name_is n name x.0) (c, refl)
is_act all name at act (takes (grant n c k voter)) i =
    let x = among_one (bytes_eq n name) (hears voter (asked_for all name c k)) act i in
    rw (x.1, name_is n name x.0) (c, k, refl, refl)
is_act all name at act (takes (request n c k e)) i = absurd i
is_act all name at act _ i = absurd i

asks_is : (all : List Step) (name : Name) (client : Client) (number epoch at : ℕ) (what : Event)
    → what ≡ sends (request name client number epoch)
    → IsAmong (asks (ask_at client number epoch at)) (client_events all name at what)
asks_is all name client number epoch at what is = rw (is, is_name name) (inl refl)

pub stops_is : (all : List Step) (name : Name) (client : Client) (epoch at : ℕ) (what : Event) → what ≡ sends (release name client epoch)
    → IsAmong (stops epoch) (client_events all name at what)
stops_is all name client epoch at what is = rw (is, is_name name) (inl refl)

-- ---- a run

-- the request that a step takes was sent, by its client, no later, and is what is looked up
record WasAsked (terms : Terms) (all : List Step) (name : Name) (client : Client) (number epoch at : ℕ) : Type 0 where
  pub sender : Step
  pub among : IsAmong sender all
  pub own : client ≡ sender.by
  pub sent : sender.what ≡ sends (request name client number epoch)
  pub no_later : sender.at ≤ at
  pub found : asked_for all name client number ≡ ask_at client number epoch sender.at

was_asked : (terms : Terms) (all : List Step) → AreSteps terms all → (name : Name) (client : Client) (number epoch : ℕ) (s : Step)
    → IsAmong s all → s.what ≡ takes (request name client number epoch)
    → WasAsked terms all name client number epoch s.at
was_asked terms all are name client number epoch s i took =
    let at = placed terms all s are i in
    let sent = subst (λ (x : Event). WasSent at.past x) took at.next.sent in
    let from = placed terms all sent.0 are (at.within sent.0 sent.1) in
    let last = before terms at.past at.are sent.0 sent.1 in
    let next = at.next.time in record {
      sender = sent.0;
      among = at.within sent.0 sent.1;
      own = asker terms from.past sent.0 from.next name client number epoch sent.2;
      sent = sent.2;
      no_later = omega (arith, last, next);
      found = asked_is terms all are sent.0 (at.within sent.0 sent.1) name client number epoch sent.2;
    }

asked : (terms : Terms) (all : List Step) → AreSteps terms all → (name : Name) (voter at : ℕ) (ask : Ask)
    → Grants (run_of terms name all) voter at ask
    → (ask.sent ≤ at) × Does (run_of terms name all) ask.sent ask.client (asks ask)
asked terms all are name voter at ask i =
    let v = is_voted all name voter all at (grants ask) i in
    let (client, number, epoch, took, is) = is_vote all name v.step.by (grants ask) v.step.what v.event in
    let w = was_asked terms all are name client number epoch v.step v.among took in
    let same : ask ≡ ask_at client number epoch w.sender.at = is ∙ ap (λ (x : Ask). ask_at client number epoch x.sent) w.found in
    let came = v.then_at in
    let le = w.no_later in
    subst (λ (x : Ask). (x.sent ≤ at) × Does (run_of terms name all) x.sent x.client (asks x)) (sym same) (
      omega (arith, came, le),
      subst (λ (c : Client). Does (run_of terms name all) w.sender.at c (asks (ask_at client number epoch w.sender.at))) (sym w.own)
          (does_there all name all w.sender (asks (ask_at client number epoch w.sender.at)) w.among
          (asks_is all name client number epoch w.sender.at w.sender.what w.sent)),
    )

answered : (terms : Terms) (all : List Step) → AreSteps terms all → (name : Name) (voter time : ℕ) (client : Client) (ask : Ask)
    → Does (run_of terms name all) time client (hears voter ask)
    → (at : ℕ) × (at ≤ time) × Grants (run_of terms name all) voter at ask
answered terms all are name voter time client ask i =
    let d = is_done all name all time client (hears voter ask) i in
    let (asker, number, took, is) = is_act all name d.step.at (hears voter ask) d.step.what d.event in
    let at = placed terms all d.step are d.among in
    let sent = subst (λ (x : Event). WasSent at.past x) took at.next.sent in
    let giver = sent.0 in
    let epoch = sent.2.1.0 in
    let w = was_asked terms all are name asker number epoch giver (at.within giver sent.1) sent.2.1.1 in
    let same : ask_at asker number epoch (asked_for all name asker number).sent ≡ ask =
    ap (λ (x : Ask). ask_at asker number epoch x.sent) w.found ∙ (sym w.found ∙ sym is) in
    let last = before terms at.past at.are giver sent.1 in
    let next = at.next.time in
    let came = d.then_at in (
      giver.at,
      omega (arith, last, next, came),
      subst (λ (x : Ask). Grants (run_of terms name all) voter giver.at x) same
          (votes_there all name voter all giver (grants (ask_at asker number epoch (asked_for all name asker number).sent))
          (at.within giver sent.1) sent.2.0
          (grant_is all name giver.by asker number epoch giver.what sent.2.1.1)),
    )

released : (terms : Terms) (all : List Step) → AreSteps terms all → (name : Name) (voter time : ℕ) (client : Client) (epoch : ℕ)
    → Releases (run_of terms name all) voter time client epoch
    → (at : ℕ) × (at ≤ time) × Does (run_of terms name all) at client (stops epoch)
released terms all are name voter time client epoch i =
    let v = is_voted all name voter all time (releases client epoch) i in
    let took = is_vote all name v.step.by (releases client epoch) v.step.what v.event in
    let at = placed terms all v.step are v.among in
    let sent = subst (λ (x : Event). WasSent at.past x) took at.next.sent in
    let from = placed terms all sent.0 are (at.within sent.0 sent.1) in
    let own : client ≡ sent.0.by = releaser terms from.past sent.0 from.next name client epoch sent.2 in
    let last = before terms at.past at.are sent.0 sent.1 in
    let next = at.next.time in
    let came = v.then_at in (
      sent.0.at,
      omega (arith, last, next, came),
      subst (λ (c : Client). Does (run_of terms name all) sent.0.at c (stops epoch)) (sym own)
          (does_there all name all sent.0 (stops epoch) (at.within sent.0 sent.1)
          (stops_is all name client epoch sent.0.at sent.0.what sent.2)),
    )

pub steps_are_runs : HistoryGoesOn → StepsAreRuns
steps_are_runs law terms steps are name = (
  record {
    voters = λ voter below. (votes law terms steps name voter steps are).follows;
    asked = λ voter below at ask i. asked terms steps are name voter at ask i;
    answered = λ voter below time client ask i. answered terms steps are name voter time client ask i;
  },
  λ clocks. record {
    clocks = clocks.rates;
    margin = clocks.margin;
    released = λ voter below time client epoch i. released terms steps are name voter time client epoch i;
  },
)

abbrev asking : Name → Client → Ask → Step
asking name client ask = record { at = ask.sent; by = client; what = sends (request name client ask.number ask.epoch) }

abbrev step_of : ℕ → Client → Event → Step
step_of at by what = record { at = at; by = by; what = what }

-- a request of a run is a step
pub was_sent : (terms : Terms) (all : List Step) → AreSteps terms all → (name : Name) (ask : Ask)
    → Does (run_of terms name all) ask.sent ask.client (asks ask) → IsAmong (asking name ask.client ask) all
was_sent terms all are name ask i =
    let d = is_done all name all ask.sent ask.client (asks ask) i in
    let (client, number, epoch, sent, is) = is_act all name d.step.at (asks ask) d.step.what d.event in
    let what = sent ∙ ap (λ (x : Ask). sends (request name x.client x.number x.epoch)) (sym is) in
    let at = sym d.then_at in
    let by = sym d.by in
    subst (λ (x : Step). IsAmong x all) (λ j. record { at = at j; by = by j; what = what j }) d.among
