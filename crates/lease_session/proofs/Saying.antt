-- What a user is told of its lease.
use Rattle.std.proofs.Common.{◌≡◌, ◌⊎◌, ℕ, ◌+◌, ◌<◌, [], ◌∷◌, Option, Some, inl, inr, refl, sym, ◌∙◌, ap, subst, arith}
use Rattle.std.proofs.lemmas.List.{append-nil}
use Rattle.std.specs.Global.{Vec}
use Rattle.lease_runs.specs.declared.client_id.ClientId.{ClientId}
use Rattle.lease_runs.specs.Code.{client_of}
use Rattle.lease_network.specs.Network.{grant, takes}
use Rattle.lease_steps.specs.StandsFor.{Did}
use Rattle.lease_session.specs.Saying.{TellsNews, TellsNone}
use Rattle.lease_session.specs.Turns.{Turn}
use Rattle.lease_session.proofs.Calls.{heard, said_turn}
use Rattle.lease_session.proofs.Leases.{Keeps, keeps_news, kept_told, leases_same, same_name}
use Rattle.lease_session.proofs.Turns.{Rest, action_told, failed, stayed, text_same}
use Rattle.lease_runs.specs.declared.candidate.Request.{Request}
use Rattle.lease_network.specs.Network.{Name}
use Rattle.lease_machine.specs.declared.name_entry.Claim.{Claim}
use Rattle.lease_machine.specs.declared.state.LeaseMachine.{LeaseMachine}
use Rattle.lease_machine.specs.declared.terms.LeaseTerms.{LeaseTerms}
use Rattle.lease_machine.specs.Claims.{Relies, ReliesNot}
use Rattle.lease_machine.specs.Machine.{OthersSame, claim_at}
use Rattle.lease_session.specs.declared.process.LeaseProcess.{LeaseProcess}
use Rattle.lease_session.specs.declared.told.Told.{Told}
use Rattle.lease_session.specs.Holding.{AreHoldersTold, IsHolderTold, IsToldNow, last_told}
use Rattle.lease_session.proofs.Machines.{own_at}

the_claim : (a b : Claim) → Some a ≡ Some b → a ≡ b
the_claim a b e = cc

the_machine : (a b : LeaseMachine) → Some a ≡ Some b → a ≡ b
the_machine a b e = cc

some_request : (a b : Request) → Some a ≡ Some b → a ≡ b
some_request a b e = cc

abbrev the_news : Name → ℕ → ℕ → ℕ → Told
the_news name user epoch until = record { name = name; user = user; epoch = epoch; until = until }

-- nothing is held
pub none_held : (now : ℕ) (name : Name) (p : LeaseProcess) (x : LeaseMachine) → p.machine ≡ Some x → ReliesNot (claim_at x name) now
    → IsToldNow now name p.machine p.told.items
none_held now name p x has none = subst (λ (o : Option LeaseMachine). IsToldNow now name o p.told.items) (sym has)
    (λ c r claimed lease less. absurd (let over = none c claimed r lease in omega (arith, over, less)))

-- what is told is what the client keeps
pub news_so : (now : ℕ) (name : Name) (p : LeaseProcess) (x : LeaseMachine) (k : Claim) (q : Request) (until : ℕ) → p.machine ≡ Some x
    → claim_at x name ≡ Some k
    → Relies (claim_at x name) now q → until ≡ q.sent + p.terms.relies_for → (c : Claim) (r : Request) → claim_at x name ≡ Some c
    → c.candidate.lease ≡ Some r
    → (k.user ≡ c.user) × (q.epoch ≡ r.epoch) × (until ≡ r.sent + c.candidate.relies_for)
news_so now name p x k q until has claimed h ends c r is lease =
    let asked = some_request q r (sym h.lease ∙ (ap (λ (d : Claim). d.candidate.lease) (the_claim h.c c (sym h.is ∙ is)) ∙ lease)) in
    let time : c.candidate.relies_for ≡ p.terms.relies_for = (own_at x name c is).time
    ∙ ap (λ (t : LeaseTerms). t.relies_for) (p.own x has).own_terms in
    let sent : q.sent ≡ r.sent = ap (λ (a : Request). a.sent) asked in
    (ap (λ (d : Claim). d.user) (the_claim k c (sym claimed ∙ is)), ap (λ (a : Request). a.epoch) asked, omega (arith, ends, time, sent))

pub news_of_it : (now : ℕ) (name : Name) (p : LeaseProcess) (x : LeaseMachine) (k : Claim) (q : Request) (until : ℕ) → p.machine ≡ Some x
    → claim_at x name ≡ Some k
    → Relies (claim_at x name) now q → until ≡ q.sent + p.terms.relies_for → (y : LeaseMachine) (c : Claim) (r : Request)
    → p.machine ≡ Some y → claim_at y name ≡ Some c
    → c.candidate.lease ≡ Some r → (k.user ≡ c.user) × (q.epoch ≡ r.epoch) × (until ≡ r.sent + c.candidate.relies_for)
news_of_it now name p x k q until has claimed h ends y c r also is lease =
    news_so now name p x k q until has claimed h ends c r (subst (λ (m : LeaseMachine). claim_at m name
    ≡ Some c) (the_machine y x (sym also ∙ has)) is) lease

-- it was told before
pub told_held : (now : ℕ) (name : Name) (p : LeaseProcess) (x : LeaseMachine) (k : Claim) (q : Request) (until : ℕ) → p.machine ≡ Some x
    → claim_at x name ≡ Some k
    → Relies (claim_at x name) now q → until ≡ q.sent + p.terms.relies_for
    → last_told name p.told.items ≡ Some (record { name = name; user = k.user; epoch = q.epoch; until = until })
    → IsToldNow now name p.machine p.told.items
told_held now name p x k q until has claimed h ends last = subst (λ (o : Option LeaseMachine). IsToldNow now name o p.told.items) (sym has)
    (λ c r is lease less. let s = news_so now name p x k q until has claimed h ends c r is lease in
    last ∙ (ap (λ (n : ℕ). Some (the_news name n q.epoch until)) s.0
    ∙ (ap (λ (n : ℕ). Some (the_news name c.user n until)) s.1 ∙ ap (λ (n : ℕ). Some (the_news name c.user r.epoch n)) s.2)))

-- ---- as turns

pub told_so : {now : ℕ} {name : Name} {b c : LeaseProcess} → TellsNews now name b c → Turn [] [] now b c
told_so {b = b} {c = c} t = elim t.said [
  | inl out ↦ failed t.quiet out
  | inr (inl n) ↦ stayed (record {
    machine = t.quiet.machine;
    terms = t.quiet.terms;
    start = t.quiet.start;
    key = t.quiet.key;
    told =
        n.same_told;
  })
      (λ out. n.same_halt ∙ out) (λ none. sym n.same_halt ∙ none) (ap (λ u. u.items) n.same_text)
  | inr (inr s) ↦ said_turn b c t.quiet s
]

pub heard_so : {now voter number : ℕ} {a b c : LeaseProcess} {x y : LeaseMachine} (client : ClientId) (name : Name) → Rest a b
    → a.machine ≡ Some x → b.machine ≡ Some y
    → Did x y now (client_of client) (takes (grant name (client_of client) number voter)) → client.machine ≡ a.terms.machine
    → client.boot ≡ a.start.process
    → ((d : Claim) (r : Request) → claim_at y name ≡ Some d → d.candidate.lease ≡ Some r
    → Keeps x name d.user d.candidate.relies_for r ⊎ (now < r.sent + d.candidate.relies_for))
    → OthersSame name x y → TellsNews now name b c → Turn [] (grant name (client_of client) number voter ∷ []) now a c
heard_so {now = now} {voter = voter} {number = number} {a = a} {b = b} {c = c} {x = x} {y =
    y} client name r was is did_it machine process kept others t = elim t.said [
      | inl out ↦ heard client name r was is did_it machine process kept others t.quiet (inl out)
      | inr (inl n) ↦ action_told (client_of client) (takes (grant name (client_of client) number voter)) [] r was is did_it machine process
          (λ p h. h) (inl (inl refl)) t.quiet
          (λ out. n.same_halt ∙ (r.halt ∙ out)) (λ none. sym r.halt ∙ (sym n.same_halt ∙ none))
          (λ goes. ap (λ u. u.items) n.same_text ∙ (text_same r ∙ sym (append-nil a.text.items)))
          (λ goes. ap (λ u. u.items) n.same_told ∙ ap (λ u. u.items) r.told)
          (λ goes. (tt, tt))
          (λ none h. subst (λ (o : Option LeaseMachine). AreHoldersTold o c.told.items) (sym (t.quiet.machine ∙ is))
          (λ other. subst (λ (u : Vec Told). IsHolderTold other y u.items) (sym n.same_told) (no_news n (n.is_so none) (its h) other)))
          (λ terms at m clock there. (tt, refl))
      | inr (inr s) ↦ heard client name r was is did_it machine process kept others t.quiet (inr s)
    ]
  where
    its : AreHoldersTold a.machine a.told.items → (other : Name) → IsHolderTold other x b.told.items
    its h other = subst (λ (u : Vec Told). IsHolderTold other x u.items) (sym r.told)
        (subst (λ (o : Option LeaseMachine). AreHoldersTold o a.told.items) was h other)

    told_here : TellsNone now name b c → IsToldNow now name c.machine c.told.items → IsToldNow now name (Some y) b.told.items
    told_here n told = subst (λ (o : Option LeaseMachine). IsToldNow now name o b.told.items) (t.quiet.machine ∙ is)
        (subst (λ (u : Vec Told). IsToldNow now name c.machine u.items) n.same_told told)

    no_news : TellsNone now name b c → IsToldNow now name c.machine c.told.items → ((other : Name) → IsHolderTold other x b.told.items)
        → (other : Name) → IsHolderTold other y b.told.items
    no_news n told h other = elim (same_name name other) [
      | inl e ↦ subst (λ (k : Name). IsHolderTold k y b.told.items) e (λ d q claimed lease. elim (kept d q claimed lease) [
        | inl k ↦ keeps_news name b.told.items k (h name)
        | inr less ↦ told_here n told d q claimed lease less
      ])
      | inr differ ↦ kept_told x y b.told.items other (leases_same x y other (others other differ).1) (h other)
    ]
