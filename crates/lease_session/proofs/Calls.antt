-- Calls of a process's machine, as turns.
use Rattle.std.proofs.Common.{◌≡◌, ℕ, ◌+◌, ◌<◌, ◌≤◌, Bool, true, false, List, [], ◌∷◌, ◌++◌, Option, Some, None, ◌⊎◌, refl, sym, ◌∙◌, ap}
use Rattle.std.proofs.Common.{subst, inl, inr, arith}
use Rattle.std.proofs.lemmas.List.{append-nil}
use Rattle.std.specs.Prelude.{is_some}
use Rattle.lease_runs.specs.Lists.{IsAmong}
use Rattle.lease_runs.specs.declared.client_id.ClientId.{ClientId}
use Rattle.lease_runs.specs.declared.candidate.Request.{Request}
use Rattle.lease_runs.specs.Voter.{Ask, Client, Voter, after, raises, restarts}
use Rattle.lease_runs.specs.Candidate.{Candidate, beginning}
use Rattle.lease_runs.specs.CandidateCode.{IsSent, Shows, by_clock, shown}
use Rattle.lease_runs.specs.Code.{client_of, view}
use Rattle.lease_runs.specs.Run.{stops}
use Rattle.lease_network.specs.Network.{Name, Message, request, grant, release, Event, begins, reserves, sends, takes, Terms, Machine}
use Rattle.lease_network.specs.Network.{MayDo, at_name, candidate_then, done}
use Rattle.lease_message.specs.declared.message.LeaseBody.TheVariants as body
use Rattle.lease_message.specs.declared.message.LeaseBody.{LeaseBody}
use Rattle.lease_message.specs.declared.message.LeaseClient.{LeaseClient}
use Rattle.lease_message.specs.declared.message.LeaseMessage.{LeaseMessage}
use Rattle.lease_machine.specs.declared.voting.Vote.{Vote}
use Rattle.lease_machine.specs.declared.voting.Vote.TheVariants as vote
use Rattle.lease_machine.specs.declared.name_entry.Claim.{Claim}
use Rattle.lease_machine.specs.declared.state.LeaseMachine.{LeaseMachine}
use Rattle.lease_machine.specs.declared.terms.LeaseTerms.{LeaseTerms}
use Rattle.lease_machine.specs.Kept.{IsOwn}
use Rattle.lease_machine.specs.Machine.{AllStay, GoesOn, OthersSame, claim_at, voter_at}
use Rattle.lease_machine.specs.Claims.{Hears, Relies}
use Rattle.lease_steps.specs.StandsFor.{AreOf, Did, DidNothing, StandsFor, clock_of}
use Rattle.lease_session.specs.declared.process.LeaseProcess.{LeaseProcess}
use Rattle.lease_session.specs.declared.process.Start.{Start}
use Rattle.lease_session.specs.Rows.{asker, held, lost, row_text, said, said_by}
use Rattle.lease_session.specs.Telling.{NoneUpTo, told_of, told_row, without}
use Rattle.lease_session.specs.declared.told.Told.{Told}
use Rattle.lease_session.specs.declared.refusing.Halt.TheVariants.{NoMemory}
use Rattle.std.specs.Global.{Vec}
use Rattle.lease_session.specs.Holding.{AreHoldersTold, IsHolderTold, last_told, news_of}
use Rattle.lease_session.specs.Marks.{did, wrote}
use Rattle.lease_session.specs.Turns.{claim_of, Follow, GaveUp, GoesTo, IsClientOf, Requested, IsAt, IsBefore, IsHeld, IsTheClients, Stood}
use Rattle.lease_session.specs.Turns.{TellsUser, SaysHeld, IsOut, IsQuiet, Turn, Voted, Who, key_of, sent_in, who}
use Rattle.lease_session.proofs.Machines.{by_client, by_name, own_at, shows_still}
use Rattle.lease_session.proofs.Leases.{Keeps, LeasesKept, same_name}
use Rattle.lease_session.proofs.News.{epoch_told, other_without, told_now, told_other}
use Rattle.lease_session.proofs.Turns.{Rest, action, action_told, is_at_quiet, is_there, itself, its_machine, no_action, nothing_had}
use Rattle.lease_session.proofs.Turns.{sends_still, sent_still, stands, text_same, then_had}
use Rattle.lease_session.proofs.Turns.{who_is}

pub by_bool : {P : Type 0} (b : Bool) → (b ≡ true → P) → (b ≡ false → P) → P
by_bool true positive negative = positive refl
by_bool false positive negative = negative refl

pub none_is : {A : Type 0} (o : Option A) {b : Bool} → b ≡ is_some o → b ≡ false → o ≡ None
none_is None is none = refl
none_is (Some x) is none = absurd cc

-- ---- where nothing changes

pub all_still : {x y : LeaseMachine} {now : ℕ} → AllStay x y → GoesOn x y → DidNothing x y now
all_still {x = x} {y = y} {now = now} still goes terms m s = record {
  are = rw goes.terms s.are;
  process = s.process ∙ ap (λ (p : ℕ). Some p) (sym goes.process);
  voters = λ name. rw (goes.process, (still name).0) (s.voters name);
  clients = λ name claim is. shows_still x y terms claim.candidate (m.candidate claim.candidate.client.number name) goes.terms goes.process
      (s.clients name claim (sym (still name).1 ∙ is));
  unused = λ number name less. s.unused number name (let more = goes.claims in omega (arith, less, more));
}

-- ---- votes and releases

pub voted : {client : Client} {epoch now : ℕ} {a b : LeaseProcess} {x y : LeaseMachine} (result : Vote) (name : Name) (number : ℕ)
    → Rest a b → a.machine ≡ Some x → b.machine ≡ Some y
    → (result ≡ vote.Granted → Did x y now (itself a) (takes (request name client number epoch)))
    → (result ≡ vote.Refused → DidNothing x y now)
    → (result ≡ vote.Full → DidNothing x y now) → LeasesKept x y → Voted result name client number epoch now a b
voted {client = client} {epoch = epoch} {a = a} vote.Granted name number r was is granted refused full kept =
    record {
      turn = action (itself a) (takes (request name client number epoch)) r was is (granted refl) refl refl (λ p h. h)
          (inl (inl refl)) tt kept;
      grants = λ e. inl refl;
    }
voted vote.Refused name number r was is granted refused full kept =
    record { turn = no_action r was is (refused refl) kept; grants = λ e. absurd cc }
voted vote.Full name number r was is granted refused full kept =
    record { turn = no_action r was is (full refl) kept; grants = λ e. absurd cc }

pub release_said : (m : LeaseMessage) → m.body ≡ body.Release → (client : Client) → client ≡ asker m.client
    → IsAmong (release m.name client m.epoch) (said m)
release_said m is client same = subst (λ (b : LeaseBody). IsAmong (release m.name client m.epoch) (said_by m b)) (sym is)
    (inl (ap (λ (c : Client). release m.name c m.epoch) same))

-- ---- grants that are heard

hears_own : {client : ClientId} {now voter number : ℕ} (x y : LeaseMachine) (name : Name)
    → (h : Hears (claim_at x name) (claim_at y name) client now voter number)
    → IsOwn x.terms x.process x.claims h.c.candidate
hears_own x y name h = own_at x name h.c h.was

pub hears_of_machine : {client : ClientId} {now voter number : ℕ} (p : LeaseProcess) (x y : LeaseMachine) (name : Name) → p.machine ≡ Some x
    → Hears (claim_at x name) (claim_at y name) client now voter number → client.machine ≡ p.terms.machine
hears_of_machine p x y name has h = ap (λ (c : ClientId). c.machine) (sym h.own)
    ∙ ((hears_own x y name h).of_machine ∙ sym (its_machine p x has))

pub hears_of_process : {client : ClientId} {now voter number : ℕ} (p : LeaseProcess) (x y : LeaseMachine) (name : Name) → p.machine ≡ Some x
    → Hears (claim_at x name) (claim_at y name) client now voter number → client.boot ≡ p.start.process
hears_of_process p x y name has h = ap (λ (c : ClientId). c.boot) (sym h.own)
    ∙ ((hears_own x y name h).of_process ∙ (p.own x has).own_process)

-- ---- what is held

the_ask : (a b : Ask) → Some a ≡ Some b → a ≡ b
the_ask a b e = cc

pub record IsShown (clock : ℕ → ℕ) (client : Client) (r : Request) (a : Option Ask) : Type 0 where
  pub ask : Ask
  pub is : a ≡ Some ask
  pub same : shown clock ask ≡ by_clock client r

is_shown : (clock : ℕ → ℕ) (client : Client) (r : Request) (a : Option Ask) → IsSent clock client (Some r) a → IsShown clock client r a
is_shown clock client r None sent = absurd cc
is_shown clock client r (Some ask) sent = record { ask = ask; is = refl; same = the_ask (shown clock ask) (by_clock client r) sent }

-- the request by which a client relies, as the network has it
pub record IsLease (terms : Terms) (x : LeaseMachine) (m : Machine) (name : Name) (now : ℕ) (r : Request) : Type 0 where
  pub number : ℕ
  pub ask : Ask
  pub lease : (m.candidate number name).lease ≡ Some ask
  pub of_epoch : ask.epoch ≡ r.epoch
  pub sent : clock_of terms x ask.sent ≡ r.sent
  pub in_time : now < r.sent + terms.relies_for

pub held_so : {now : ℕ} {name : Name} {r : Request} (terms : Terms) (x : LeaseMachine) (m : Machine) → StandsFor terms now x m
    → Relies (claim_at x name) now r
    → IsLease terms x m name now r
held_so {now = now} {name = name} {r = r} terms x m s h = record {
  number = h.c.candidate.client.number;
  ask = is.ask;
  lease = is.is;
  of_epoch = ap (λ (a : Ask). a.epoch) is.same;
  sent = ap (λ (a : Ask). a.sent) is.same;
  in_time = let less = h.in_time in let same : h.c.candidate.relies_for ≡ terms.relies_for = own.time ∙ sym s.are.relies_for in
      omega (arith, less, same);
}
  where
    own : IsOwn x.terms x.process x.claims h.c.candidate
    own = own_at x name h.c h.is

    is : IsShown (clock_of terms x) (client_of h.c.candidate.client) r (m.candidate h.c.candidate.client.number name).lease
    is = is_shown (clock_of terms x) (client_of h.c.candidate.client) r (m.candidate h.c.candidate.client.number name).lease
        (subst (λ (o : Option Request). IsSent (clock_of terms x) (client_of h.c.candidate.client) o
        (m.candidate h.c.candidate.client.number name).lease) h.lease
        (s.clients name h.c h.is).lease)

-- ---- the start

pub no_claim : {o : Option Claim} (k : Claim) → o ≡ None → o ≡ Some k → ⊥
no_claim {o = o} k none is = absurd (let bad : None ≡ Some k = sym none ∙ is in cc)

pub begun : {now : ℕ} {a b : LeaseProcess} {y : LeaseMachine} {bound : ℕ} → Rest a b → a.machine ≡ None → b.machine ≡ Some y
    → y.terms ≡ a.terms → y.process ≡ a.start.process
    → ((by : Client) → by.machine ≡ y.terms.machine → by.boot ≡ y.process → y.claims ≡ 0 → a.start.floor ≤ bound
    → ((name : Name) (old : Voter) (clock : ℕ → ℕ → ℕ) (boot at : ℕ) → clock boot at ≡ now
    → view boot (voter_at y name) ≡ after y.terms.keeps clock (after y.terms.keeps clock old at (restarts boot a.start.floor)) at
    (raises bound))
    → ((name : Name) → claim_at y name ≡ None)
    → (terms : Terms) (at : ℕ) (m : Machine) → clock_of terms y at ≡ now → AreOf y.terms terms
    → ((name : Name) → (m.voter name).bound ≤ a.start.floor)
    → MayDo terms by m at (begins a.start.floor) × MayDo terms by (done terms by m at (begins a.start.floor)) at (reserves bound)
    × StandsFor terms now y (done terms by (done terms by m at (begins a.start.floor)) at (reserves bound)))
    → y.claims ≡ 0 → a.start.floor ≤ bound
    → ((name : Name) (old : Voter) (clock : ℕ → ℕ → ℕ) (boot at : ℕ) → clock boot at ≡ now
    → view boot (voter_at y name) ≡ after a.terms.keeps clock (after a.terms.keeps clock old at (restarts boot a.start.floor)) at
    (raises bound))
    → ((name : Name) → claim_at y name ≡ None) → Turn [] [] now a b
begun {now = now} {a = a} {b = b} {y = y} {bound = bound} r was is of_terms of_process law none fits begins_so nobody = record {
  marks = did (itself a) (begins a.start.floor) ∷ did (itself a) (reserves bound) ∷ [];
  terms = r.terms;
  start = r.start;
  key = ap key_of r.seal;
  halts = λ out. r.halt ∙ out;
  goes_on = λ none. sym r.halt ∙ none;
  holders = λ none h. subst (λ (o : Option LeaseMachine). AreHoldersTold o b.told.items) (sym is)
      (λ name c request claimed. absurd (no_claim c (nobody name) claimed));
  text = λ goes. text_same r ∙ sym (append-nil a.text.items);
  told = λ goes. ap (λ t. t.items) r.told;
  careful = λ goes. (tt, (tt, tt));
  goes = λ terms at m clock at_old. steps terms at m clock
      (subst (λ (o : Option LeaseMachine). Stood a.terms a.start o terms now m) was at_old);
}
  where
    steps : (terms : Terms) (at : ℕ) (m : Machine) → terms.clock a.terms.machine a.start.process at ≡ now → IsBefore a.terms a.start terms m
        → Follow terms (who a) at [] [] m (did (itself a) (begins a.start.floor) ∷ did (itself a) (reserves bound) ∷ [])
        × IsAt terms now b (done terms (itself a) (done terms (itself a) m at (begins a.start.floor)) at (reserves bound))
    steps terms at m clock before =
        let keeps = ap (λ (t : LeaseTerms). t.keeps) of_terms in
        let h = law (itself a) (sym (ap (λ (t : LeaseTerms). t.machine) of_terms)) (sym of_process) none fits
        (λ name old clocks boot time is. subst (λ (k : ℕ). view boot (voter_at y name)
        ≡ after k clocks (after k clocks old time (restarts boot a.start.floor)) time (raises bound)) (sym keeps)
        (begins_so name old clocks boot time is)) nobody terms at m
        (ap (λ (t : LeaseTerms). terms.clock t.machine y.process at) of_terms
        ∙ (ap (λ (p : ℕ). terms.clock a.terms.machine p at) of_process ∙ clock))
        (subst (λ (t : LeaseTerms). AreOf t terms) (sym of_terms) before.are) before.floor in (
          (
            record { machine = refl; process = refl; runs = before.no_process; may = h.0; had = tt },
            (record { machine = refl; process = refl; runs = refl; may = h.1; had = tt }, tt),
          ),
          is_there b y terms now (done terms (itself a) (done terms (itself a) m at (begins a.start.floor)) at (reserves bound)) is h.2,
        )

-- ---- lines

clock_is : (p : LeaseProcess) (x : LeaseMachine) (terms : Terms) (at : ℕ) → p.machine ≡ Some x
    → clock_of terms x at ≡ terms.clock p.terms.machine p.start.process at
clock_is p x terms at has = ap (λ (t : LeaseTerms). terms.clock t.machine x.process at) (p.own x has).own_terms
    ∙ ap (λ (n : ℕ). terms.clock p.terms.machine n at) (p.own x has).own_process

pub held_row : {now until : ℕ} {name : Name} {r : Request} (p : LeaseProcess) (x : LeaseMachine) → p.machine ≡ Some x
    → Relies (claim_at x name) now r
    → until ≡ r.sent + p.terms.relies_for → (terms : Terms) (at : ℕ) (m : Machine) → terms.clock p.terms.machine p.start.process at ≡ now
    → IsAt terms now p m
    → IsHeld terms (who p) at m name r.epoch until
held_row {now = now} {until = until} {name = name} {r = r} p x has relies ends terms at m clock is =
    let s = stands p x terms now m has is in
    let l = held_so terms x m s relies in
    let long : terms.relies_for ≡ p.terms.relies_for = s.are.relies_for ∙ ap (λ (t : LeaseTerms). t.relies_for) (p.own x has).own_terms in
    let sent : terms.clock p.terms.machine p.start.process l.ask.sent ≡ r.sent = sym (clock_is p x terms l.ask.sent has) ∙ l.sent in
    record {
      number = l.number;
      ask = l.ask;
      running = s.process ∙ ap (λ (n : ℕ). Some n) (p.own x has).own_process;
      lease = l.lease;
      of_epoch = l.of_epoch;
      ends = omega (arith, ends, long, sent);
      in_time = let less = l.in_time in omega (arith, ends, long, sent, less, clock);
    }

pub goes_to : (m : LeaseMessage) (self to : ℕ) → IsTheClients m.body → m.client.machine ≡ self → m.voter ≡ to → GoesTo self to m m.body
goes_to m self to own client voter = by_body m.body own
  where
    by_body : (b : LeaseBody) → IsTheClients b → GoesTo self to m b
    by_body (body.Request number keeps list) h = (client, voter)
    by_body (body.Grant number) h = absurd h
    by_body (body.Refusal number reason lasts) h = absurd h
    by_body body.Release h = (client, voter)

pub said_anew : (m : LeaseMessage) (voter : ℕ) → IsTheClients m.body → said (record m { voter = voter }) ≡ said m
said_anew m voter own = by_body m.body own
  where
    by_body : (b : LeaseBody) → IsTheClients b → said_by (record m { voter = voter }) b ≡ said_by m b
    by_body (body.Request number keeps list) h = refl
    by_body (body.Grant number) h = absurd h
    by_body (body.Refusal number reason lasts) h = absurd h
    by_body body.Release h = refl

-- ---- giving up

pub claim_there : {x : LeaseMachine} {o : Option LeaseMachine} {r : Option Claim} (name : Name) → o ≡ Some x → claim_of o name ≡ r
    → claim_at x name ≡ r
claim_there {r = r} name has is = subst (λ (o : Option LeaseMachine). claim_of o name ≡ r) has is

pub gave_up : {now : ℕ} {a b : LeaseProcess} {x y : LeaseMachine} (client : Client) (name : Name) (epoch : ℕ) → Rest a b
    → a.machine ≡ Some x → b.machine ≡ Some y
    → Did x y now client (sends (release name client epoch)) → client.machine ≡ a.terms.machine → client.boot ≡ a.start.process
    → NoneUpTo name epoch a.told.items
    → LeasesKept x y → GaveUp name client epoch now a b
gave_up client name epoch r was is did_it machine process none kept =
    record {
      turn = action client (sends (release name client epoch)) r was is did_it machine process (λ p h. h) tt (inl none) kept;
      sends =
          inl refl;
    }

-- and its user is told
pub gave_up_lost : {now told : ℕ} {a b c : LeaseProcess} {x y : LeaseMachine} (client : Client) (name : Name) (epoch : ℕ) → Rest a b
    → a.machine ≡ Some x → b.machine ≡ Some y
    → Did x y now client (sends (release name client epoch)) → client.machine ≡ a.terms.machine → client.boot ≡ a.start.process
    → told ≤ epoch → a.halt ≡ None
    → TellsUser (lost name told) b c → (AreHoldersTold (Some x) a.told.items
    → AreHoldersTold (Some y) (told_row a.told.items (lost name told))) → GaveUp name client epoch now a c
gave_up_lost {now = now} {told = told} {a = a} {b = b} {c = c} {x = x} {y =
    y} client name epoch r was is did_it machine process covers going tells holders = record {
      turn = action_told client (sends (release name client epoch))
          (wrote (lost name told) ∷ []) r was is did_it machine process (λ p h. h) tt tells.quiet
          (λ out. absurd (let bad : None ≡ Some NoMemory = sym going ∙ out in cc)) (λ none. going)
          (λ goes. elim tells.said [
            | inl out ↦ absurd (goes out)
            | inr said ↦ said.1 ∙ ap (λ (t : List ℕ). t ++ row_text (lost name told)) (text_same r)
                ∙ ap (λ (t : List ℕ). a.text.items ++ t) (sym (append-nil (row_text (lost name told))))
          ])
          (λ goes. its_told (λ out. goes out)) (λ goes. (inr refl, tt))
          (λ none h. subst (λ (o : Option LeaseMachine). AreHoldersTold o c.told.items) (sym (tells.quiet.machine ∙ is))
          (subst (λ (ts : List Told). AreHoldersTold (Some y) ts) (sym
          (its_told (λ out. absurd (let bad : None ≡ Some NoMemory = sym none ∙ out in cc))))
          (holders (subst (λ (o : Option LeaseMachine). AreHoldersTold o a.told.items) was h))))
          (λ terms at m clock there. ((record { client = client; up_to = epoch; covers = covers; released = inl refl }, tt), refl));
      sends = inl refl;
    }
  where
    its_told : (IsOut c → ⊥) → c.told.items ≡ told_row a.told.items (lost name told)
    its_told goes = elim tells.said [
      | inl out ↦ absurd (goes out)
      | inr said ↦ said.2 ∙ ap (λ (t : Vec Told). told_row t.items (lost name told)) r.told
    ]

-- whom the line tells of no longer keeps a lease of the name
pub lost_holders : {told epoch : ℕ} (x y : LeaseMachine) (ts : List Told) (name : Name) → told_of name ts ≡ Some told → told ≤ epoch
    → ((d : Claim) (r : Request) → claim_at y name ≡ Some d → d.candidate.lease ≡ Some r
    → Keeps x name d.user d.candidate.relies_for r × (epoch < r.epoch))
    → OthersSame name x y → AreHoldersTold (Some x) ts → AreHoldersTold (Some y) (without name ts)
lost_holders {told = told} {epoch = epoch} x y ts name was covers keeps others h other = elim (same_name name other) [
  | inl e ↦ subst (λ (n : Name). IsHolderTold n y (without name ts)) e (λ d r is lease. absurd (gone d r (keeps d r is lease)))
  | inr differ ↦ λ d r is lease. other_without other name ts (λ e. differ (sym e)) ∙ h other d r (sym (others other differ).1 ∙ is) lease
]
  where
    gone : (d : Claim) (r : Request) → Keeps x name d.user d.candidate.relies_for r × (epoch < r.epoch) → ⊥
    gone d r k =
        let said = epoch_told name ts (news_of name k.0.claim r) (h name k.0.claim r k.0.is k.0.lease) in
        let same : told ≡ r.epoch = cc in
        absurd (let above = k.1 in omega (arith, covers, same, above))

pub of_machine : (p : LeaseProcess) (x : LeaseMachine) (name : Name) (k : Claim) → p.machine ≡ Some x → claim_at x name ≡ Some k
    → k.candidate.client.machine ≡ p.terms.machine
of_machine p x name k has is = (own_at x name k is).of_machine ∙ sym (its_machine p x has)

pub of_process : (p : LeaseProcess) (x : LeaseMachine) (name : Name) (k : Claim) → p.machine ≡ Some x → claim_at x name ≡ Some k
    → k.candidate.client.boot ≡ p.start.process
of_process p x name k has is = (own_at x name k is).of_process ∙ (p.own x has).own_process

pub client_same : (p : LeaseProcess) (x : LeaseMachine) (name : Name) (k : Claim) → p.machine ≡ Some x → claim_at x name ≡ Some k
    → (client : Client)
    → client.machine ≡ p.terms.machine → client.boot ≡ p.start.process → k.candidate.client.number ≡ client.number
    → client_of k.candidate.client ≡ client
client_same p x name k has is client machine process number =
    let m = of_machine p x name k has is ∙ sym machine in
    let b = of_process p x name k has is ∙ sym process in
    λ i. record { machine = m i; boot = b i; number = number i }

-- who doesn't ask any more gives up without a call
pub stop_unasked : {now : ℕ} (x : LeaseMachine) (client : Client) (name : Name) (epoch : ℕ) → client.number ≤ x.claims
    → ((k : Claim) → claim_at x name ≡ Some k → k.candidate.client.number ≡ client.number → ⊥)
    → Did x x now client (sends (release name client epoch))
stop_unasked {now = now} x client name epoch counted unasked terms at m clock s = (
  (refl, tt),
  record {
    are = s.are;
    process = s.process;
    voters = s.voters;
    clients = λ other k is. by_client (λ (v : Candidate). Shows (clock_of terms x) k.candidate v) client.number k.candidate.client.number
        (at_name name (candidate_then terms client m at (stops epoch)) (m.candidate client.number)) m.candidate other
        (λ same. by_name (λ (v : Candidate). Shows (clock_of terms x) k.candidate v) name other
        (candidate_then terms client m at (stops epoch)) (m.candidate client.number)
        (λ named. absurd (unasked k (subst (λ (n : Name). claim_at x n ≡ Some k) (sym named) is) (sym same)))
        (λ away. subst (λ (n : ℕ). Shows (clock_of terms x) k.candidate (m.candidate n other)) (sym same) (s.clients other k is)))
        (λ differ. s.clients other k is);
    unused = λ number other less. by_client (λ (v : Candidate). v ≡ beginning) client.number number
        (at_name name (candidate_then terms client m at (stops epoch)) (m.candidate client.number)) m.candidate other
        (λ same. absurd (omega (arith, counted, less, same))) (λ differ. s.unused number other less);
  },
)

-- ---- a request

pub requested_of : {message other : Message} → other ≡ message → (x : Message) → IsAmong x (other ∷ []) → IsAmong x (message ∷ [])
requested_of same x (inl e) = inl (e ∙ same)
requested_of same x (inr i) = absurd i

one_of : {message : Message} (sent : List Message) → IsAmong message sent → (x : Message) → IsAmong x (message ∷ []) → IsAmong x sent
one_of sent h x (inl e) = subst (λ (y : Message). IsAmong y sent) (sym e) h
one_of sent h x (inr i) = absurd i

pub named_machine : (p : LeaseProcess) (x : LeaseMachine) (name : Name) → p.machine ≡ Some x → {asks : ClientId}
    → IsClientOf p.machine name asks → (it : LeaseClient)
    → asker it ≡ client_of asks → it.machine ≡ p.terms.machine
named_machine p x name has h it same = ap (λ (c : Client). c.machine) same
    ∙ (ap (λ (c : ClientId). c.machine) (sym h.as_client) ∙ of_machine p x name h.claim has (claim_there name has h.claimed))

-- who asks here is of this machine
pub client_of_machine : (p : LeaseProcess) (name : Name) {asks : ClientId} → IsClientOf p.machine name asks → asks.machine ≡ p.terms.machine
client_of_machine p name {asks = asks} h = by_machine p.machine refl h.claimed
  where
    by_machine : (o : Option LeaseMachine) → p.machine ≡ o → claim_of o name ≡ Some h.claim → asks.machine ≡ p.terms.machine
    by_machine None is none = absurd cc
    by_machine (Some x) is claimed = ap (λ (c : ClientId). c.machine) (sym h.as_client) ∙ of_machine p x name h.claim is claimed

pub requested : {now : ℕ} {a b c : LeaseProcess} {x y : LeaseMachine} (name : Name) (asks : ClientId) (number epoch : ℕ) → Rest a b
    → a.machine ≡ Some x → b.machine ≡ Some y
    → (h : IsClientOf a.machine name asks) → Did x y now (client_of h.claim.candidate.client)
    (sends (request name (client_of h.claim.candidate.client) number epoch))
    → (it : LeaseClient) → asker it ≡ client_of asks → Turn (request name (asker it) number epoch ∷ []) [] now b c → LeasesKept x y
    → Requested name asks number epoch now a c
requested {now = now} {a = a} {x = x} {y = y} name asks number epoch r was is h did_it it same sends_it kept =
    let by = client_of asks in
    let message = request name by number epoch in
    let at = claim_there name was h.claimed in
    let its : Did x y now by (sends message) = subst (λ (c : ClientId).
    Did x y now (client_of c) (sends (request name (client_of c) number epoch))) h.as_client did_it in
    let t = action {sent = []} {brought = []} by (sends message) r was is its (ap (λ (c : ClientId). c.machine) (sym h.as_client)
    ∙ of_machine a x name h.claim was at)
    (ap (λ (c : ClientId). c.boot) (sym h.as_client) ∙ of_process a x name h.claim was at) (λ p g. g) tt tt kept in
    record {
      turn = then_had t sends_it (requested_of (ap (λ (c : Client). request name c number epoch) same)) (nothing_had [] (message ∷ []));
      sends = sent_still (message ∷ []) sends_it.marks message (inl refl);
    }

pub gave_up_sent : {now : ℕ} {a b c : LeaseProcess} {name : Name} {client : Client} {epoch : ℕ} → GaveUp name client epoch now a b
    → Turn (release name client epoch ∷ []) [] now b c → Turn [] [] now a c
gave_up_sent g t = then_had g.turn t (one_of (sent_in [] g.turn.marks) g.sends) (nothing_had [] (sent_in [] g.turn.marks))

-- with the own vote, and the messages to others
pub gave_up_told : {now : ℕ} {a b d e : LeaseProcess} {name : Name} {client other : Client} {epoch : ℕ} → other ≡ client
    → GaveUp name client epoch now a b
    → Turn [] (release name other epoch ∷ []) now b d → Turn (release name other epoch ∷ []) [] now d e → Turn [] [] now a e
gave_up_told {a = a} {name = name} {client = client} {other = other} {epoch = epoch} same g takes_it sends_it =
    let e = ap (λ (k : Client). release name k epoch) same in
    let sent : IsAmong (release name other epoch) (sent_in [] g.turn.marks) =
    subst (λ (m : Message). IsAmong m (sent_in [] g.turn.marks)) (sym e) g.sends in
    let u = then_had g.turn takes_it (λ x i. absurd i) (λ x i. inr (one_of (sent_in [] g.turn.marks) sent x i)) in
    then_had u sends_it (one_of (sent_in [] u.marks) (sends_still (release name other epoch) [] g.turn.marks takes_it.marks sent))
    (nothing_had [] (sent_in [] u.marks))

pub some_is : {A : Type 0} (o : Option A) {b : Bool} → b ≡ is_some o → b ≡ true → (x : A) × (o ≡ Some x)
some_is None is some = absurd cc
some_is (Some x) is some = (x, refl)

pub the_claim : (a b : Claim) → Some a ≡ Some b → a ≡ b
the_claim a b e = cc

-- ---- who holds is told

said_news : {now : ℕ} {b c : LeaseProcess} {x : LeaseMachine} {name : Name} → SaysHeld now name b c → b.machine ≡ Some x
    → IsHolderTold name x c.told.items
said_news {c = c} {name = name} t is d r claimed lease =
    let s = t.is_so _ d r is claimed lease in
    ap (λ (ts : List Told). last_told name ts) t.told
    ∙ (told_now _ (record { name = name; user = t.user; epoch = t.epoch; until = t.until })
    ∙ (λ i. Some (record { name = name; user = s.0 i; epoch = s.1 i; until = s.2 i })))

-- of the name by the line, of others as before
said_all : {now : ℕ} {b c : LeaseProcess} (x : LeaseMachine) {y : LeaseMachine} {name : Name} → SaysHeld now name b c → b.machine ≡ Some y
    → OthersSame name x y
    → ((name : Name) → IsHolderTold name x b.told.items) → AreHoldersTold (Some y) c.told.items
said_all {b = b} {c = c} x {y = y} {name = name} t is others h other = elim (same_name name other) [
  | inl e ↦ subst (λ (n : Name). IsHolderTold n y c.told.items) e (said_news t is)
  | inr differ ↦ λ d r claimed lease. ap (λ (ts : List Told). last_told other ts) t.told
      ∙ (told_other other b.told.items (record { name = name; user = t.user; epoch = t.epoch; until = t.until }) (λ e. differ (sym e))
      ∙ h other d r (sym (others other differ).1 ∙ claimed) lease)
]

pub said_turn : {now : ℕ} {name : Name} (b c : LeaseProcess) → IsQuiet b c → SaysHeld now name b c → Turn [] [] now b c
said_turn {now = now} {name = name} b c quiet s = record {
  marks = wrote (held name s.user s.epoch s.until) ∷ [];
  terms = quiet.terms;
  start = quiet.start;
  key = quiet.key;
  halts = λ out. absurd (let bad : None ≡ Some NoMemory = sym s.going ∙ out in cc);
  goes_on = λ none. s.going;
  text = λ goes. s.text ∙ ap (λ (t : List ℕ). b.text.items ++ t) (sym (append-nil (row_text (held name s.user s.epoch s.until))));
  told = λ goes. s.told;
  careful = λ goes. tt;
  holders = λ none h. by_machine b.machine refl h;
  goes = λ terms at m clock is. ((s.holds terms at m clock is, tt), is_at_quiet b c terms now m quiet is);
}
  where
    by_machine : (o : Option LeaseMachine) → b.machine ≡ o → AreHoldersTold o b.told.items → AreHoldersTold c.machine c.told.items
    by_machine None is h = subst (λ (o : Option LeaseMachine). AreHoldersTold o c.told.items) (sym (quiet.machine ∙ is)) tt
    by_machine (Some x) is h = subst (λ (o : Option LeaseMachine). AreHoldersTold o c.told.items) (sym (quiet.machine ∙ is))
        (said_all x s is (λ other differ. (refl, refl)) h)

-- a grant that is heard, and what its user is told
pub heard : {now voter number : ℕ} {a b c : LeaseProcess} {x y : LeaseMachine} (client : ClientId) (name : Name) → Rest a b
    → a.machine ≡ Some x → b.machine ≡ Some y
    → Did x y now (client_of client) (takes (grant name (client_of client) number voter)) → client.machine ≡ a.terms.machine
    → client.boot ≡ a.start.process
    → ((d : Claim) (r : Request) → claim_at y name ≡ Some d → d.candidate.lease ≡ Some r
    → Keeps x name d.user d.candidate.relies_for r ⊎ (now < r.sent + d.candidate.relies_for))
    → OthersSame name x y → IsQuiet b c → IsOut c ⊎ SaysHeld now name b c
    → Turn [] (grant name (client_of client) number voter ∷ []) now a c
heard {now = now} {voter = voter} {number = number} {a = a} {b = b} {c = c} {x = x} {y =
    y} client name r was is did_it machine process kept others quiet said = elim said [
      | inl out ↦ action_told by what [] r was is did_it machine process (λ p h. h) (inl (inl refl)) quiet (λ before. out)
          (λ none. not_out out none) (λ goes. absurd (goes out))
          (λ goes. absurd (goes out)) (λ goes. absurd (goes out)) (λ none. not_out out none) (λ terms at m clock there. (tt, refl))
      | inr s ↦ action_told by what (wrote (held name s.user s.epoch s.until) ∷ []) r was is did_it machine process (λ p h. h)
          (inl (inl refl)) quiet
          (λ out. absurd (let bad : None ≡ Some NoMemory = sym (sym r.halt ∙ s.going) ∙ out in cc)) (λ none. sym r.halt ∙ s.going)
          (λ goes. s.text ∙ (ap (λ (u : List ℕ). u ++ row_text (held name s.user s.epoch s.until)) (text_same r)
          ∙ ap (λ (u : List ℕ). a.text.items ++ u) (sym (append-nil (row_text (held name s.user s.epoch s.until))))))
          (λ goes. s.told ∙ ap (λ (u : Vec Told). told_row u.items (held name s.user s.epoch s.until)) r.told) (λ goes. (tt, tt))
          (λ none h. subst (λ (o : Option LeaseMachine). AreHoldersTold o c.told.items) (sym (quiet.machine ∙ is))
          (said_all x s is others (its h)))
          (λ terms at m clock there. (
            (
              subst (λ (w : Who). IsHeld terms w at m name s.epoch s.until) (who_is a b r.terms r.start (ap key_of r.seal))
                  (s.holds terms at m (clock_so terms at clock) there),
              tt,
            ),
            refl,
          ))
    ]
  where
    by : Client
    by = client_of client

    what : Event
    what = takes (grant name (client_of client) number voter)

    not_out : {P : Type 0} → IsOut c → c.halt ≡ None → P
    not_out out none = absurd (let bad : None ≡ Some NoMemory = sym none ∙ out in cc)

    its : AreHoldersTold a.machine a.told.items → (other : Name) → IsHolderTold other x b.told.items
    its h other = subst (λ (u : Vec Told). IsHolderTold other x u.items) (sym r.told)
        (subst (λ (o : Option LeaseMachine). AreHoldersTold o a.told.items) was h other)

    clock_so : (terms : Terms) (at : ℕ) → terms.clock a.terms.machine a.start.process at ≡ now
        → terms.clock b.terms.machine b.start.process at ≡ now
    clock_so terms at clock = ap (λ (u : LeaseTerms). terms.clock u.machine b.start.process at) r.terms
        ∙ (ap (λ (u : Start). terms.clock a.terms.machine u.process at) r.start ∙ clock)
