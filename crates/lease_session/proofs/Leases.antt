-- The leases that clients of a machine keep, behind its calls.
use Rattle.std.proofs.Common.{◌≡◌, ◌≢◌, ◌⊎◌, ℕ, ◌+◌, ◌<◌, Bool, true, false, List, Option, Some, None, refl, sym, ◌∙◌}
use Rattle.std.proofs.Common.{ap, subst, inl, inr, arith}
use Rattle.std.specs.Prelude.{◌==◌, ◌&&◌, not, get_or, if◌then◌else◌, leb, option_map}
use Rattle.std.specs.Str.{bytes_eq}
use Rattle.std.proofs.lemmas.Slice.Eq.{bytes_eq-Decides}
use Rattle.lease_runs.specs.declared.client_id.ClientId.{ClientId}
use Rattle.lease_runs.specs.declared.candidate.LeaseCandidate.{LeaseCandidate}
use Rattle.lease_runs.specs.declared.candidate.Request.{Request}
use Rattle.lease_runs.specs.Voter.{Ask, Client}
use Rattle.lease_runs.specs.Candidate.{Candidate, above, beginning, is_in_time, is_most, is_taken, is_too_late, taken, voted}
use Rattle.lease_runs.specs.Candidate.{with_vote}
use Rattle.lease_runs.specs.CandidateCode.{IsActed, IsSent, Shows, by_clock, shown}
use Rattle.lease_runs.specs.Code.{ask_of, client_of}
use Rattle.lease_runs.specs.Run.{asks, hears, stops}
use Rattle.lease_network.specs.Network.{Name, ask_at}
use Rattle.lease_machine.specs.declared.name_entry.Claim.{Claim}
use Rattle.lease_machine.specs.declared.state.LeaseMachine.{LeaseMachine}
use Rattle.lease_machine.specs.Machine.{AllStay, OthersSame, OthersStay, claim_at}
use Rattle.lease_machine.specs.Claims.{Acts, Hears, IsBegun}
use Rattle.lease_session.specs.declared.told.Told.{Told}
use Rattle.lease_session.specs.Holding.{IsHolderTold, last_told}
use Rattle.lease_session.proofs.Machines.{not_name}

-- ---- what they keep

-- who asks for the name keeps this request as its lease
pub record Keeps (x : LeaseMachine) (name : Name) (user relies_for : ℕ) (r : Request) : Type 0 where
  pub claim : Claim
  pub is : claim_at x name ≡ Some claim
  pub used : claim.user ≡ user
  pub time : claim.candidate.relies_for ≡ relies_for
  pub lease : claim.candidate.lease ≡ Some r

-- each lease of the name was one before
abbrev pub KeptOf : LeaseMachine → LeaseMachine → Name → Type 0
KeptOf x y name = (d : Claim) (r : Request) → claim_at y name ≡ Some d → d.candidate.lease ≡ Some r
    → Keeps x name d.user d.candidate.relies_for r

-- so it is of each name
abbrev pub LeasesKept : LeaseMachine → LeaseMachine → Type 0
LeasesKept x y = (name : Name) → KeptOf x y name

pub same_name : (name other : Name) → (name ≡ other) ⊎ (other ≢ name)
same_name name other = test (bytes_eq name other) refl
  where
    test : (b : Bool) → bytes_eq name other ≡ b → (name ≡ other) ⊎ (other ≢ name)
    test true is = inl ((bytes_eq-Decides name other).0 is)
    test false is = inr (not_name name other is)

abbrev pub the_news : ℕ → ℕ → Name → ℕ → ℕ → Told
the_news user relies_for name epoch sent = record { name = name; user = user; epoch = epoch; until = sent + relies_for }

pub keeps_news : {x : LeaseMachine} {user relies_for : ℕ} {r : Request} (name : Name) (ts : List Told) → Keeps x name user relies_for r
    → IsHolderTold name x ts
    → last_told name ts ≡ Some (the_news user relies_for name r.epoch r.sent)
keeps_news {user = user} {r = r} name ts k told =
    told k.claim r k.is k.lease
    ∙ (ap (λ (n : ℕ). Some (the_news n k.claim.candidate.relies_for name r.epoch r.sent)) k.used
    ∙ ap (λ (n : ℕ). Some (the_news user n name r.epoch r.sent)) k.time)

pub kept_told : (x y : LeaseMachine) (ts : List Told) (name : Name) → KeptOf x y name → IsHolderTold name x ts → IsHolderTold name y ts
kept_told x y ts name kept told d r is lease = keeps_news name ts (kept d r is lease) told

pub leases_same : (x y : LeaseMachine) (name : Name) → claim_at y name ≡ claim_at x name → KeptOf x y name
leases_same x y name same d r is lease = record { claim = d; is = sym same ∙ is; used = refl; time = refl; lease = lease }

pub leases_still : (x y : LeaseMachine) → AllStay x y → LeasesKept x y
leases_still x y still name = leases_same x y name (still name).1

pub leases_other : (x y : LeaseMachine) (name : Name) → KeptOf x y name → OthersSame name x y → LeasesKept x y
leases_other x y name own others other = elim (same_name name other) [
  | inl e ↦ subst (λ (n : Name). KeptOf x y n) e own
  | inr differ ↦ leases_same x y other (others other differ).1
]

pub leases_beside : (x y : LeaseMachine) (now : ℕ) (name : Name) → KeptOf x y name → OthersStay now name x y → LeasesKept x y
leases_beside x y now name own others other = elim (same_name name other) [
  | inl e ↦ subst (λ (n : Name). KeptOf x y n) e own
  | inr differ ↦ leases_same x y other (others other differ).1
]

-- ---- what a client does

-- what the code keeps, where the clock is the time
model : LeaseCandidate → Candidate
model c = record {
  number = c.number;
  given_up = c.given_up;
  asked = option_map (by_clock (client_of c.client)) c.asked;
  votes = λ voter. get_or c.votes voter false;
  lease = option_map (by_clock (client_of c.client)) c.lease;
}

is_sent : (client : Client) (r : Option Request) → IsSent (λ t. t) client r (option_map (by_clock client) r)
is_sent client None = refl
is_sent client (Some r) = refl

shows_model : (c : LeaseCandidate) → Shows (λ t. t) c (model c)
unfolding model
shows_model c = record {
  number = refl;
  given_up = refl;
  asked = is_sent (client_of c.client) c.asked;
  votes = λ voter less. refl;
  lease = is_sent (client_of c.client) c.lease;
}

the_request : ℕ → ℕ → ℕ → Request
the_request number epoch sent = record { number = number; epoch = epoch; sent = sent }

same_request : (a b : Request) (j k : Client) → by_clock j a ≡ by_clock k b → a ≡ b
unfolding the_request
same_request a b j k e = ap (λ (n : ℕ). the_request n a.epoch a.sent) (ap (λ (x : Ask). x.number) e)
    ∙ (ap (λ (n : ℕ). the_request b.number n a.sent) (ap (λ (x : Ask). x.epoch) e)
    ∙ ap (λ (n : ℕ). the_request b.number b.epoch n) (ap (λ (x : Ask). x.sent) e))

some_ask : (a b : Ask) → Some a ≡ Some b → a ≡ b
some_ask a b e = cc

some_request : (a b : Request) → Some a ≡ Some b → a ≡ b
some_request a b e = cc

-- the request that the model keeps is the one that the code does
was_request : (j k : Client) (o : Option Request) (r : Request)
    → option_map (shown (λ t. t)) (option_map (by_clock j) o) ≡ Some (by_clock k r) → o ≡ Some r
was_request j k None r e = absurd cc
was_request j k (Some q) r e = ap (λ (p : Request). Some p) (same_request q r j k (some_ask (by_clock j q) (by_clock k r) e))

-- a client that asks keeps its lease
pub asks_kept : {now epoch number : ℕ} (c d : LeaseCandidate) (r : Request) → IsActed c d now (λ at. asks (ask_of c.client number epoch at))
    → d.lease ≡ Some r → c.lease ≡ Some r
unfolding model
asks_kept {now = now} c d r acted is =
    was_request (client_of c.client) (client_of d.client) c.lease r
    ((acted (λ t. t) now (model c) refl (shows_model c)).1.lease
    ∙ ap (λ (o : Option Request). option_map (by_clock (client_of d.client)) o) is)

above_was : (epoch : ℕ) (o : Option Ask) (a : Ask) → option_map (shown (λ t. t)) (above epoch o) ≡ Some a → (o ≡ Some a) × (epoch < a.epoch)
above_was epoch None a e = absurd cc
above_was epoch (Some q) a e = by_test (leb q.epoch epoch) refl e
  where
    less : leb q.epoch epoch ≡ false → epoch < q.epoch
    less is = grind (arith, is)

    by_test : (b : Bool) → leb q.epoch epoch ≡ b → option_map (shown (λ t. t)) (if b then None else Some q) ≡ Some a
        → (Some q ≡ Some a) × (epoch < a.epoch)
    by_test true is e = absurd cc
    by_test false is e = (e, subst (λ (k : Ask). epoch < k.epoch) (some_ask q a e) (less is))

-- one that gives up keeps a greater one
pub stops_kept : {now epoch : ℕ} (c d : LeaseCandidate) (r : Request) → IsActed c d now (λ at. stops epoch) → d.lease ≡ Some r
    → (c.lease ≡ Some r) × (epoch < r.epoch)
unfolding model
stops_kept {now = now} {epoch = epoch} c d r acted is =
    let was = above_was epoch (option_map (by_clock (client_of c.client)) c.lease) (by_clock (client_of d.client) r)
    ((acted (λ t. t) now (model c) refl (shows_model c)).1.lease
    ∙ ap (λ (o : Option Request). option_map (by_clock (client_of d.client)) o) is) in
    (was_request (client_of c.client) (client_of d.client) c.lease r (ap (λ (o : Option Ask). option_map (shown (λ t. t)) o) was.0), was.1)

-- with one vote more it keeps what it did, or a request in time
lease_voted : (nodes relies_for : ℕ) (clock : ℕ → ℕ) (at voter number : ℕ) (v : Candidate) (o : Option Ask)
    → ((voted nodes relies_for clock at voter number v o).lease ≡ v.lease)
    ⊎ ((a : Ask) × ((voted nodes relies_for clock at voter number v o).lease ≡ Some a) × (is_in_time relies_for clock at a ≡ true))
lease_voted nodes relies_for clock at voter number v None = inl refl
lease_voted nodes relies_for clock at voter number v (Some a) = by_number (a.number == number) refl
  where
    votes : ℕ → Bool
    votes = with_vote voter v.votes

    by_parts : (m t l : Bool) → (m && (t && not l)) ≡ true → t ≡ true
    by_parts true true l is = refl
    by_parts true false l is = is
    by_parts false t l is = absurd cc

    by_taken : (b : Bool) → is_taken nodes relies_for clock at votes a v.lease ≡ b → ((if b then Some a else v.lease) ≡ v.lease)
        ⊎ ((q : Ask) × ((if b then Some a else v.lease) ≡ Some q) × (is_in_time relies_for clock at q ≡ true))
    by_taken true is = inr (
      a,
      refl,
      by_parts (is_most nodes votes) (is_in_time relies_for clock at a)
          (is_too_late relies_for clock at a v.lease) is,
    )
    by_taken false is = inl refl

    by_number : (b : Bool) → (a.number == number) ≡ b
        → ((if b then record v { votes = votes; lease = taken nodes relies_for clock at votes a v.lease } else v).lease ≡ v.lease)
        ⊎ ((q : Ask) × ((if b then record v { votes = votes; lease = taken nodes relies_for clock at votes a v.lease } else v).lease
        ≡ Some q) × (is_in_time relies_for clock at q ≡ true))
    by_number true is = by_taken (is_taken nodes relies_for clock at votes a v.lease) refl
    by_number false is = inl refl

-- a client that hears keeps what it did, or a request in time
pub hears_kept : {now voter : ℕ} (a : Ask) (c d : LeaseCandidate) (r : Request) → IsActed c d now (λ at. hears voter a) → d.lease ≡ Some r
    → (c.lease ≡ Some r) ⊎ (now < r.sent + c.relies_for)
unfolding model
hears_kept {now = now} {voter = voter} a c d r acted is =
    by_voted (lease_voted c.voters c.relies_for (λ t. t) now voter a.number (model c) (model c).asked)
  where
    after : Candidate
    after = voted c.voters c.relies_for (λ t. t) now voter a.number (model c) (model c).asked

    shows : option_map (shown (λ t. t)) after.lease ≡ Some (by_clock (client_of d.client) r)
    shows = (acted (λ t. t) now (model c) refl (shows_model c)).1.lease
        ∙ ap (λ (o : Option Request). option_map (by_clock (client_of d.client)) o) is

    in_time : (q : Ask) → is_in_time c.relies_for (λ t. t) now q ≡ true → q.sent ≡ r.sent → now < r.sent + c.relies_for
    in_time q less same = grind (arith, less, same)

    by_voted : (after.lease ≡ (model c).lease) ⊎ ((q : Ask) × (after.lease ≡ Some q) × (is_in_time c.relies_for (λ t. t) now q ≡ true))
        → (c.lease ≡ Some r) ⊎ (now < r.sent + c.relies_for)
    by_voted (inl same) =
        inl (was_request (client_of c.client) (client_of d.client) c.lease r
        (ap (λ (o : Option Ask). option_map (shown (λ t. t)) o) (sym same) ∙ shows))
    by_voted (inr (q, took, less)) =
        inr (in_time q less (ap (λ (k : Ask). k.sent) (some_ask (shown (λ t. t) q) (by_clock (client_of d.client) r)
        (ap (λ (o : Option Ask). option_map (shown (λ t. t)) o) (sym took) ∙ shows))))

-- ---- what calls of a machine leave

the_claim : (a b : Claim) → Some a ≡ Some b → a ≡ b
the_claim a b e = cc

pub kept_asking : (x y : LeaseMachine) {now epoch number : ℕ} (name : Name)
    → Acts (claim_at x name) (claim_at y name) now (λ client at. asks (ask_of client number epoch at))
    → KeptOf x y name
kept_asking x y name a d r is lease = of_it (the_claim a.d d (sym a.is ∙ is))
  where
    of_it : a.d ≡ d → Keeps x name d.user d.candidate.relies_for r
    of_it e = subst (λ (k : Claim). Keeps x name k.user k.candidate.relies_for r) e (record {
      claim = a.c;
      is = a.was;
      used = sym a.same.user;
      time = sym a.same.terms.same_time;
      lease = asks_kept a.c.candidate a.d.candidate r a.acted (ap (λ (k : Claim). k.candidate.lease) e ∙ lease);
    })

pub kept_stopping : (x y : LeaseMachine) {now epoch : ℕ} (name : Name)
    → Acts (claim_at x name) (claim_at y name) now (λ client at. stops epoch)
    → (d : Claim) (r : Request) → claim_at y name ≡ Some d → d.candidate.lease ≡ Some r
    → Keeps x name d.user d.candidate.relies_for r × (epoch < r.epoch)
kept_stopping x y {epoch = epoch} name a d r is lease = of_it (the_claim a.d d (sym a.is ∙ is))
  where
    of_it : a.d ≡ d → Keeps x name d.user d.candidate.relies_for r × (epoch < r.epoch)
    of_it e =
        let was = stops_kept a.c.candidate a.d.candidate r a.acted (ap (λ (k : Claim). k.candidate.lease) e ∙ lease) in (
          subst (λ (k : Claim). Keeps x name k.user k.candidate.relies_for r) e (record {
            claim = a.c;
            is = a.was;
            used = sym a.same.user;
            time = sym a.same.terms.same_time;
            lease = was.0;
          }),
          was.1,
        )

pub kept_hearing : (x y : LeaseMachine) {client : ClientId} {now voter number : ℕ} (name : Name)
    → Hears (claim_at x name) (claim_at y name) client now voter number
    → (d : Claim) (r : Request) → claim_at y name ≡ Some d → d.candidate.lease ≡ Some r
    → Keeps x name d.user d.candidate.relies_for r ⊎ (now < r.sent + d.candidate.relies_for)
kept_hearing x y {now = now} {number = number} name a d r is lease = of_it (the_claim a.d d (sym a.is ∙ is))
  where
    q : Ask
    q = ask_at (client_of a.c.candidate.client) number 0 0

    of_it : a.d ≡ d → Keeps x name d.user d.candidate.relies_for r ⊎ (now < r.sent + d.candidate.relies_for)
    of_it e = subst (λ (k : Claim). Keeps x name k.user k.candidate.relies_for r ⊎ (now < r.sent + k.candidate.relies_for)) e
        (elim (hears_kept q a.c.candidate a.d.candidate r (a.heard q refl refl) (ap (λ (k : Claim). k.candidate.lease) e ∙ lease)) [
          | inl was ↦ inl (record { claim = a.c; is = a.was; used = sym a.same.user; time = sym a.same.terms.same_time; lease = was })
          | inr less ↦ inr (subst (λ (n : ℕ). now < r.sent + n) (sym a.same.terms.same_time) less)
        ])

-- who begins to ask keeps none
pub kept_begun : (x y : LeaseMachine) {process number user : ℕ} (name : Name) → IsBegun x.terms process number user (claim_at y name)
    → KeptOf x y name
kept_begun x y name b d r is lease = absurd (none_sent d r lease
    (subst (λ (k : Claim). Shows (λ t. t) k.candidate beginning) (the_claim b.c d (sym b.is ∙ is)) (b.new.begins (λ t. t))))
  where
    none_sent : (d : Claim) (r : Request) → d.candidate.lease ≡ Some r → Shows (λ t. t) d.candidate beginning → ⊥
    none_sent d r lease s = absurd (let bad = s.lease ∙ ap (λ (o : Option Request). option_map (by_clock (client_of d.candidate.client)) o)
        lease in cc)

pub kept_nobody : (x y : LeaseMachine) (name : Name) → claim_at y name ≡ None → KeptOf x y name
kept_nobody x y name none d r is lease = absurd (let bad : None ≡ Some d = sym none ∙ is in cc)
