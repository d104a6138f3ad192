-- What a call leaves of each name.
use Rattle.std.proofs.Common.{◌≡◌, ◌≢◌, ℕ, ◌+◌, ◌≤◌, ◌<◌, Bool, true, false, cond, List, [], ◌∷◌, ◌++◌, length, get_or, refl, sym, ap}
use Rattle.std.proofs.Common.{subst, ◌∙◌, inl, inr, arith}
use Rattle.std.specs.Prelude.{◌⊎◌, ◌&&◌, All, IfSome, IsNone, is_none, Option, Some, None, option_map, map, set}
use Rattle.std.proofs.lemmas.List.{length-append, length-map, length-set}
use Rattle.std.proofs.lemmas.List.Elements.{All-get_or, All-head, All-map, All-push, All-set, All-tail, All-weaker}
use Rattle.std.specs.Option.{ForSome}
use Rattle.lease_runs.specs.declared.candidate.LeaseCandidate.{LeaseCandidate}
use Rattle.lease_runs.specs.CandidateCode.{HasTerms, IsActed}
use Rattle.lease_runs.specs.declared.candidate.Request.{Request}
use Rattle.lease_runs.specs.Run.{asks}
use Rattle.lease_runs.specs.declared.client_id.ClientId.{ClientId}
use Rattle.lease_runs.specs.declared.voter.LeaseVoter.{LeaseVoter}
use Rattle.lease_runs.specs.Voter.{Client, Voter, grants, raises, releases}
use Rattle.lease_runs.specs.Code.{IsStep, ask_of, client_of, view}
use Rattle.lease_machine.specs.declared.name_entry.TheConstants.{NAMES}
use Rattle.lease_machine.specs.declared.name_entry.Claim.{Claim}
use Rattle.lease_machine.specs.declared.name_entry.NameEntry.{NameEntry}
use Rattle.lease_machine.specs.declared.terms.LeaseTerms.{LeaseTerms}
use Rattle.lease_machine.specs.Names.{are_apart, is_same, is_free, is_dead, entry_of, place_from, dead_from, raised}
use Rattle.lease_machine.specs.Kept.{IsEntry, IsOwn, AreKept}
use Rattle.lease_machine.specs.Claims.{Acts, IsSameClaim, Relies}
use Rattle.lease_machine.specs.Machine.{AllStay, IsForgotten, Stays, claim_in, unknown, voter_at, voter_in}
use Rattle.lease_machine.specs.declared.state.LeaseMachine.{LeaseMachine}
use Rattle.lease_machine.proofs.Names.{IsFound, placed, dead_placed, same_name, self_same, set_found, unlike, AreApart, apart_from}
use Rattle.lease_machine.proofs.Names.{apart_to, IsAt, at_get, found, set_other, set_gone, IsFitting, set_apart, push_apart, map_of}
use Rattle.lease_machine.proofs.Names.{map_apart, unplaced}
use Rattle.std.proofs.lemmas.Bool.{both_ways, cases_Bool}

-- ---- voters by what is shown of them

some_client : (a b : Client) → Some a ≡ Some b → a ≡ b
some_client a b e = cc

same_client : (a b : ClientId) → client_of a ≡ client_of b → a ≡ b
same_client a b e = λ i. record { machine = (e i).machine; boot = (e i).boot; number = (e i).number }

same_holder : (a b : Option ClientId) → option_map client_of a ≡ option_map client_of b → a ≡ b
same_holder None None e = refl
same_holder None (Some b) e = absurd cc
same_holder (Some a) None e = absurd cc
same_holder (Some a) (Some b) e = ap (λ (c : ClientId). Some c) (same_client a b (some_client (client_of a) (client_of b) e))

pub voter_same : (v w : LeaseVoter) → v.keeps ≡ w.keeps → view 0 v ≡ view 0 w → v ≡ w
voter_same v w keeps e =
    let holder = same_holder v.holder w.holder (ap (λ (x : Voter). x.holder) e) in
    λ i. record { keeps = keeps i; bound = (e i).bound; began = (e i).began; last = (e i).last; holder = holder i; ends = (e i).ends }

-- a raise changes the bound alone
pub raised_is : (v w : LeaseVoter) (bound : ℕ) → IsStep v w 0 (raises bound) → w ≡ record v { bound = bound }
raised_is v w bound step =
    let h = step (λ boot at. 0) 0 0 refl in
    voter_same w (record v { bound = bound }) h.2 h.1

-- ---- in place of a name that may be forgotten

dead_parts : (now : ℕ) (d : NameEntry) → is_dead now d ≡ true → (d.claim ≡ None) × (is_free now d.voter ≡ true)
dead_parts now d h = parts d.claim (is_free now d.voter) h
  where
    parts : (o : Option Claim) (b : Bool) → (is_none o && b) ≡ true → (o ≡ None) × (b ≡ true)
    parts None b g = (refl, g)
    parts (Some c) b g = absurd cc

abbrev pub IsLeft : ℕ → LeaseVoter → LeaseVoter → Option NameEntry → Option NameEntry → Type 0
IsLeft now none none' old new = Stays now (voter_in none old) (voter_in none' new) × (claim_in new ≡ claim_in old)

pub same_left : (now : ℕ) (none none' : LeaseVoter) (old new : Option NameEntry) → Stays now none none' → new ≡ old
    → IsLeft now none none' old new
same_left now none none' old new stays same = subst (λ (e : Option NameEntry). IsLeft now none none' old e) (sym same) (by_entry old)
  where
    by_entry : (e : Option NameEntry) → IsLeft now none none' e e
    by_entry None = (stays, refl)
    by_entry (Some e) = (inl refl, refl)

pub replaced_left : (now : ℕ) (none none' : LeaseVoter) (es : List NameEntry) (k : ℕ) (d x : NameEntry) (other : List ℕ) → IsAt k d es
    → AreApart es → entry_of x.name es ≡ None → is_dead now d ≡ true
    → other ≢ x.name → Stays now none none' → (is_free now d.voter ≡ true → IsForgotten now d.voter none')
    → IsLeft now none none' (entry_of other es) (entry_of other (set es k x))
replaced_left now none none' es k d x other at apart new dead differ stays forgot = by_test (is_same d.name other) refl
  where
    gone : other ≡ d.name → IsLeft now none none' (entry_of other es) (entry_of other (set es k x))
    gone is =
        let parts = dead_parts now d dead in
        subst (λ (n : List ℕ). IsLeft now none none' (entry_of n es) (entry_of n (set es k x))) (sym is)
        (subst (λ (e : Option NameEntry). IsLeft now none none' e (entry_of d.name (set es k x))) (sym (found k d es at apart))
        (subst (λ (e : Option NameEntry). IsLeft now none none' (Some d) e) (sym (set_gone k d x es at apart new))
        (inr (forgot parts.1), sym parts.0)))

    by_test : (b : Bool) → is_same d.name other ≡ b → IsLeft now none none' (entry_of other es) (entry_of other (set es k x))
    by_test false away = same_left now none none' (entry_of other es)
        (entry_of other (set es k x)) stays (set_other k d x other es at away (unlike x.name other (λ s. differ (sym s))))
    by_test true same = gone (sym (same_name d.name other same))

-- a place that was found
pub record IsPlace (place : ℕ) (es : List NameEntry) (test : NameEntry → Bool) : Type 0 where
  pub d : NameEntry
  pub at : IsAt place d es
  pub passes : test d ≡ true
  pub within : place < length es

pub place_found : (place : ℕ) (es : List NameEntry) (test : NameEntry → Bool) → IsFound 0 place es test → IsPlace place es test
place_found place es test f =
    let is : f.k ≡ place = omega (arith, f.place-is) in
    let at = subst (λ (n : ℕ). IsAt n f.d es) is f.at in
    record { d = f.d; at = at; passes = f.passes; within = (at_get place f.d es f.d at).0 }

pub dead_found : (now : ℕ) {place : ℕ} {seen es : List NameEntry} {r : Option ℕ} → seen ≡ es → r ≡ dead_from 0 now seen → r ≡ Some place
    → IsPlace place es (is_dead now)
dead_found now {place} {seen} {es} same is some = place_found place es (is_dead now)
    (dead_placed 0 now es place (ap (dead_from 0 now) (sym same) ∙ sym is ∙ some))

-- a name that is kept needs no room
pub kept_needs_none : {e : NameEntry} (o : Option NameEntry) → o ≡ Some e → o ≡ None → ⊥
kept_needs_none {e = e} o some none = absurd (let bad : None ≡ Some e = sym none ∙ some in cc)

-- an entry that was read there, and what is found once another one of its name is written in its place
pub record IsRead (name : List ℕ) (es : List NameEntry) (place : ℕ) (e x : NameEntry) : Type 0 where
  pub at : IsAt place e es
  pub old : entry_of name es ≡ Some e
  pub new : entry_of name (set es place x) ≡ Some x
  pub others : (other : List ℕ) → other ≢ name → entry_of other (set es place x) ≡ entry_of other es

pub name_within : (name : List ℕ) (seen : List NameEntry) {place : ℕ} {r : Option ℕ} → r ≡ place_from 0 name seen → r ≡ Some place
    → place < length seen
name_within name seen {place} is some =
    (place_found place seen (λ y. is_same y.name name) (placed 0 name seen place (sym is ∙ some))).within

pub name_read : (name : List ℕ) {place : ℕ} {seen es : List NameEntry} {r : Option ℕ} → seen ≡ es → r ≡ place_from 0 name seen
    → r ≡ Some place → are_apart es ≡ true → (e x : NameEntry) → e ≡ get_or es place e → x.name ≡ e.name → IsRead name es place e x
name_read name {place} {seen} {es} same is some apart e x read like =
    let p = place_found place es (λ y. is_same y.name name)
    (placed 0 name es place (ap (place_from 0 name) (sym same) ∙ sym is ∙ some)) in
    let here : e ≡ p.d = read ∙ (at_get place p.d es e p.at).1 in
    let at : IsAt place e es = rw here p.at in
    let named : e.name ≡ name = same_name e.name name (rw here p.passes) in
    let all = apart_from es apart in
    record {
      at = at;
      old = subst (λ (n : List ℕ). entry_of n es ≡ Some e) named (found place e es at all);
      new = subst (λ (n : List ℕ). entry_of n (set es place x) ≡ Some x) named (set_found place e x es at all like);
      others = λ other differ. set_other place e x other es at (unlike e.name other (λ s. differ (sym s ∙ named)))
          (unlike x.name other (λ s. differ (sym s ∙ like ∙ named)));
    }

pub not_kept : (name : List ℕ) {seen es : List NameEntry} {r : Option ℕ} → seen ≡ es → r ≡ place_from 0 name seen → r ≡ None
    → entry_of name es ≡ None
not_kept name {es = es} same is none = unplaced 0 name es (ap (place_from 0 name) (sym same) ∙ sym is ∙ none)

-- of such a name nobody here asks, and nobody has a grant
pub nobody_asks : {o : Option NameEntry} {c : Claim} → o ≡ None → claim_in o ≡ Some c → ⊥
nobody_asks none is = absurd (let bad = rw none at is in cc)

pub nobody_holds : {o : Option NameEntry} (u : LeaseVoter) {c : ClientId} → o ≡ None → u.holder ≡ None → (voter_in u o).holder ≡ Some c → ⊥
nobody_holds u none free is = absurd (let bad = rw none at is in cc)

-- what no answer changes, and the epoch is allowed
pub record IsLike (v w : LeaseVoter) : Type 0 where
  pub keeps : w.keeps ≡ v.keeps
  pub began : w.began ≡ v.began
  pub bound : w.bound ≡ v.bound
  pub last : v.last ≤ v.bound → w.last ≤ v.bound

pub like_same : (v w : LeaseVoter) → w ≡ v → IsLike v w
like_same v w is = subst (λ (x : LeaseVoter). IsLike v x) (sym is) (record { keeps = refl; began = refl; bound = refl; last = λ h. h })

pub asked_like : (v w : LeaseVoter) (now : ℕ) (client : ClientId) (epoch : ℕ) (b : Bool)
    → (b ≡ true → (number sent : ℕ) → IsStep v w now (grants (ask_of client number epoch sent))) → (b ≡ false → w ≡ v) → IsLike v w
asked_like v w now client epoch false granted same = like_same v w (same refl)
asked_like v w now client epoch true granted same =
    let h = granted refl 0 0 (λ boot at. now) 0 0 refl in
    record {
      keeps = h.2;
      began = ap (λ (x : Voter). x.began) h.1;
      bound = ap (λ (x : Voter). x.bound) h.1;
      last = λ _. omega (arith, h.0.1, ap (λ (x : Voter). x.last) h.1);
    }

pub released_like : (v w : LeaseVoter) (client : ClientId) (epoch : ℕ) (b : Bool)
    → (b ≡ true → (now : ℕ) → IsStep v w now (releases (client_of client) epoch)) → (b ≡ false → w ≡ v) → IsLike v w
released_like v w client epoch false freed same = like_same v w (same refl)
released_like v w client epoch true freed same =
    let h = freed refl 0 (λ boot at. 0) 0 0 refl in
    record {
      keeps = h.2;
      began = ap (λ (x : Voter). x.began) h.1;
      bound = ap (λ (x : Voter). x.bound) h.1;
      last = λ less. omega (arith, less, ap (λ (x : Voter). x.last) h.1);
    }

-- ---- all voters are raised

pub raised_entry : (name : List ℕ) (es after : List NameEntry) (higher : ℕ) → after ≡ map (raised higher) es
    → entry_of name after ≡ option_map (raised higher) (entry_of name es)
raised_entry name es after higher is = ap (entry_of name) is ∙ map_of (raised higher) (λ e. refl) name es

pub raised_claim : (name : List ℕ) (es after : List NameEntry) (higher : ℕ) → after ≡ map (raised higher) es
    → claim_in (entry_of name after) ≡ claim_in (entry_of name es)
raised_claim name es after higher is = ap claim_in (raised_entry name es after higher is) ∙ by_entry (entry_of name es)
  where
    by_entry : (o : Option NameEntry) → claim_in (option_map (raised higher) o) ≡ claim_in o
    by_entry None = refl
    by_entry (Some e) = refl

the_entry : (a b : NameEntry) → Some a ≡ Some b → a ≡ b
the_entry a b e = cc

-- what is true of all is true of the one that is found
pub of_found : (P : NameEntry → Type 0) (name : List ℕ) (es : List NameEntry) (d : NameEntry) → All P es → entry_of name es ≡ Some d → P d
of_found P name [] d all h = absurd cc
of_found P name (e ∷ es) d all h = by_test (is_same e.name name) (All-head P e es all) (λ g. of_found P name es d (All-tail P e es all) g) h
  where
    by_test : (b : Bool) → P e → (entry_of name es ≡ Some d → P d) → cond b (Some e) (entry_of name es) ≡ Some d → P d
    by_test true mine rest g = subst P (the_entry e d g) mine
    by_test false mine rest g = rest g

raises_from : (v : LeaseVoter) (higher now : ℕ) → v.bound ≤ higher → IsStep v (record v { bound = higher }) now (raises higher)
raises_from v higher now less clock boot at shows = (less, refl, refl)

pub raises_step : (name : List ℕ) (u : LeaseVoter) (es : List NameEntry) (o : Option NameEntry) (now bound higher : ℕ)
    → All (λ e. e.voter.bound ≡ bound) es → u.bound ≡ bound → bound ≤ higher
    → o ≡ option_map (raised higher) (entry_of name es) → IsStep (voter_in u (entry_of name es))
    (voter_in (record u { bound = higher }) o) now (raises higher)
raises_step name u es o now bound higher all mine less is =
    subst (λ (x : Option NameEntry). IsStep (voter_in u (entry_of name es)) (voter_in (record u { bound = higher }) x) now (raises higher))
    (sym is) (by_entry (entry_of name es) refl)
  where
    by_entry : (x : Option NameEntry) → entry_of name es ≡ x
        → IsStep (voter_in u x) (voter_in (record u { bound = higher }) (option_map (raised higher) x)) now (raises higher)
    by_entry None e = raises_from u higher now (omega (arith, mine, less))
    by_entry (Some e) found = raises_from e.voter higher now (omega (
      arith,
      of_found (λ x. x.voter.bound ≡ bound) name es e all found,
      less,
    ))

-- ---- who asks

pub same_own : (terms : LeaseTerms) (process claims : ℕ) (c d : LeaseCandidate) → IsOwn terms process claims c
    → HasTerms c.client c.voters c.relies_for d → IsOwn terms process claims d
same_own terms process claims c d own same =
    let client = same.same_client in
    record {
      of_machine = ap (λ (k : ClientId). k.machine) client ∙ own.of_machine;
      of_process = ap (λ (k : ClientId). k.boot) client ∙ own.of_process;
      numbered = omega (arith, own.numbered, ap (λ (k : ClientId). k.number) client);
      voters = same.same_voters ∙ own.voters;
      time = same.same_time ∙ own.time;
    }

pub the_claim : (a b : Claim) → Some a ≡ Some b → a ≡ b
the_claim a b e = cc

-- where the entry that is written is as it was
pub unchanged : {name : List ℕ} {es : List NameEntry} {place : ℕ} {e x : NameEntry} (u : LeaseVoter) → IsRead name es place e x → x ≡ e
    → (other : List ℕ)
    → (voter_in u (entry_of other (set es place x)) ≡ voter_in u (entry_of other es))
    × (claim_in (entry_of other (set es place x)) ≡ claim_in (entry_of other es))
unchanged {name} {es} {place} {e} {x} u r same other = by_test (cases_Bool (is_same other name))
  where
    both : entry_of other (set es place x) ≡ entry_of other es
        → (voter_in u (entry_of other (set es place x)) ≡ voter_in u (entry_of other es))
        × (claim_in (entry_of other (set es place x)) ≡ claim_in (entry_of other es))
    both h = (ap (voter_in u) h, ap claim_in h)

    by_test : (is_same other name ≡ true) ⊎ (is_same other name ≡ false)
        → (voter_in u (entry_of other (set es place x)) ≡ voter_in u (entry_of other es))
        × (claim_in (entry_of other (set es place x)) ≡ claim_in (entry_of other es))
    by_test (inl is) = both (rw (same_name other name is) (r.new ∙ ap (λ (y : NameEntry). Some y) same ∙ sym r.old))
    by_test (inr away) = both (r.others other (λ s. both_ways (is_same other name) away (self_same other name s)))

pub asked_made : (o n : Option Claim) (c d : Claim) (now epoch : ℕ) (r : Option Request) → o ≡ Some c → n ≡ Some d → IsSameClaim c d
    → IfSome r (λ q. (q.epoch ≡ epoch) × (q.sent ≡ now) × IsActed c.candidate d.candidate now (λ at.
    asks (ask_of c.candidate.client q.number epoch at)))
    → IfSome r (λ q. (q.epoch ≡ epoch) × (q.sent ≡ now) × Acts o n now (λ client at. asks (ask_of client q.number epoch at)))
asked_made o n c d now epoch None was is same h = tt
asked_made o n c d now epoch (Some q) was is same h = (h.0, h.1, record { c = c; d = d; was = was; is = is; same = same; acted = h.2 })

pub held_made : (o : Option Claim) (c : Claim) (now : ℕ) (r : Option Request) → o ≡ Some c
    → IfSome r (λ q. (c.candidate.lease ≡ Some q) × (now < q.sent + c.candidate.relies_for)) → IfSome r (λ q. Relies o now q)
held_made o c now None is h = tt
held_made o c now (Some q) is h = record { c = c; is = is; lease = h.0; in_time = h.1 }

-- a name of which nothing was kept, once an entry was added, or not
pub added_voter : (b : Bool) (old new : LeaseMachine) (name : List ℕ) (x : NameEntry) → (b ≡ true → entry_of name new.names.items ≡ Some x)
    → (b ≡ false → new ≡ old) → entry_of name old.names.items ≡ None
    → x.voter ≡ unknown old → voter_at new name ≡ voter_at old name
added_voter true old new name x added same none voted = ap (voter_in (unknown new)) (added refl) ∙ voted
    ∙ sym (ap (voter_in (unknown old)) none)
added_voter false old new name x added same none voted = ap (λ (m : LeaseMachine). voter_at m name) (same refl)

pub all_stay : (old new : LeaseMachine) → new ≡ old → AllStay old new
all_stay old new same = subst (λ (m : LeaseMachine). AllStay old m) (sym same) (λ name. (refl, refl))

-- ---- what is kept stays kept

-- the one who asks is the same, and has the same client
abbrev IsChanged : NameEntry → NameEntry → Type 0
IsChanged e x = (c : Claim) × (d : Claim) × (e.claim ≡ Some c) × (x.claim ≡ Some d) × IsSameClaim c d

module _ {terms : LeaseTerms} {process claims began bound floor : ℕ} {es : List NameEntry}
    (kept : AreKept terms process claims began bound floor es) where
  abbrev IsOwnClaim : NameEntry → Type 0
  IsOwnClaim x = ForSome x.claim (λ c. IsOwn terms process claims c.candidate)

  pub entry_at : (k : ℕ) (d : NameEntry) → IsAt k d es → IsEntry terms process claims began bound d
  entry_at k d at =
      let h = at_get k d es d at in
      rw h.1 at (All-get_or (IsEntry terms process claims began bound) es k d h.0 kept.entries)

  pub kept_pushed : (after : List NameEntry) (x : NameEntry) → IsEntry terms process claims began bound x → entry_of x.name es ≡ None
      → length es < NAMES → after ≡ es ++ x ∷ [] → AreKept terms process claims began bound floor after
  kept_pushed after x fits none less is = rw is (record {
    entries = All-push (IsEntry terms process claims began bound) es x kept.entries fits;
    apart = apart_to (es ++ x ∷ []) (push_apart x es (apart_from es kept.apart) none);
    few = omega (arith, less, length-append es (x ∷ []));
    floor_allowed = kept.floor_allowed;
  })

  pub kept_set : (raised k : ℕ) (d x : NameEntry) → IsAt k d es → IsEntry terms process claims began bound x → IsFitting d x es
      → raised ≤ bound → AreKept terms process claims began bound raised (set es k x)
  kept_set raised k d x at fits fitting allowed = record {
    entries = All-set (IsEntry terms process claims began bound) es k x fits kept.entries;
    apart = apart_to (set es k x) (set_apart k d x es at (apart_from es kept.apart) fitting);
    few = omega (arith, kept.few, length-set es k x);
    floor_allowed = allowed;
  }

  module _ {name : List ℕ} {place : ℕ} {e x : NameEntry} (r : IsRead name es place e x) (named : x.name ≡ e.name) where
    pub kept_like : IsLike e.voter x.voter → IsOwnClaim x → AreKept terms process claims began bound floor (set es place x)
    kept_like like own =
        let fits = entry_at place e r.at in
        kept_set floor place e x r.at (record {
          keeps = like.keeps ∙ fits.keeps;
          since = like.began ∙ fits.since;
          allowed = like.bound ∙ fits.allowed;
          last = omega (arith, fits.allowed, like.last (omega (arith, fits.allowed, fits.last)));
          claim = own;
        }) (inl named) kept.floor_allowed

    changed_own : IsChanged e x → IsOwnClaim x
    changed_own (c, d, was, is, same) y found = rw (the_claim d y (sym is ∙ found)) at
        (same_own terms process claims c.candidate d.candidate ((entry_at place e r.at).claim c was) same.terms)

    same_own_claim : x ≡ e → IsOwnClaim x
    same_own_claim same = rw same (entry_at place e r.at).claim

    -- by an answer that says whether anything changed
    pub kept_by : x.voter ≡ e.voter → (b : Bool) → (b ≡ true → IsChanged e x) → (b ≡ false → x ≡ e)
        → AreKept terms process claims began bound floor (set es place x)
    kept_by voted true changed same = kept_like (like_same e.voter x.voter voted) (changed_own (changed refl))
    kept_by voted false changed same = kept_like (like_same e.voter x.voter voted) (same_own_claim (same refl))

    pub kept_asked : {A : Type 0} → x.voter ≡ e.voter → (o : Option A) (P : A → Type 0) → IfSome o P → ((y : A) → P y → IsChanged e x)
        → (IsNone o → x ≡ e) → AreKept terms process claims began bound floor (set es place x)
    kept_asked voted (Some y) P h changed same = kept_like (like_same e.voter x.voter voted) (changed_own (changed y h))
    kept_asked voted None P h changed same = kept_like (like_same e.voter x.voter voted) (same_own_claim (same refl))

  module _ (higher : ℕ) (less : bound ≤ higher) where
    pub allowed_before : All (λ e. e.voter.bound ≤ higher) es
    allowed_before = All-weaker (IsEntry terms process claims began bound) (λ e. e.voter.bound ≤ higher)
        (λ e fits. omega (arith, fits.allowed, less)) es kept.entries

    pub kept_raised : (after : List NameEntry) → after ≡ map (raised higher) es → AreKept terms process claims began higher floor after
    kept_raised after is = rw is (record {
      entries = All-map (IsEntry terms process claims began higher) (raised higher) es
          (All-weaker (IsEntry terms process claims began bound) (λ e. IsEntry terms process claims began higher (raised higher e))
          (λ e fits. record {
            keeps = fits.keeps;
            since = fits.since;
            allowed = refl;
            last = omega (arith, fits.last, less);
            claim = fits.claim;
          }) es kept.entries);
      apart = apart_to (map (raised higher) es) (map_apart (raised higher) (λ e. refl) es (apart_from es kept.apart));
      few = omega (arith, kept.few, length-map es (raised higher));
      floor_allowed = omega (arith, kept.floor_allowed, less);
    })
