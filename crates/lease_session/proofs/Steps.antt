-- Turns of processes, as steps over a network.
use Rattle.std.proofs.Common.{◌≡◌, ◌≢◌, ◌⊎◌, ℕ, ◌+◌, ◌<◌, ◌≤◌, Bool, true, false, List, [], ◌∷◌, ◌++◌, Option, Some, refl, sym, ◌∙◌, ap}
use Rattle.std.proofs.Common.{subst, inl, inr, arith}
use Rattle.std.specs.Prelude.{◌==◌, if◌then◌else◌, leb, ltb}
use Rattle.std.proofs.lemmas.Bool.{eq-eqb, eqb-true}
use Rattle.lease_runs.specs.Lists.{IsAmong}
use Rattle.lease_runs.specs.Voter.{Client}
use Rattle.lease_network.specs.Network.{Message, request, grant, release, Event, begins, reserves, sends, takes, Step, Sends, WasSent}
use Rattle.lease_network.specs.Network.{IsRunning, IsNext, Terms, Machine, MayDo, AreSteps, done, last_time, machines}
use Rattle.lease_network.specs.Laws.{up_to}
use Rattle.lease_message.specs.declared.message.LeaseMessage.{LeaseMessage}
use Rattle.lease_session.specs.Rows.{Row, send, held, lost, refused, unserved, next, fault, said}
use Rattle.lease_session.specs.Marks.{Mark, did, wrote}
use Rattle.lease_session.specs.Turns.{Who, who, AreAmong, Follow, IsAt, IsHad, Runs, Tells, after_marks, sent_by}
use Rattle.lease_session.specs.Steps.{Adds, HeldLinesHold, HoldsThen, RunsOrIsNew, TurnGoesOn, TurnsAreSteps, WasSentIn}
use Rattle.lease_session.proofs.Turns.{among_both, sent_still}

step : ℕ → Client → Event → Step
step at by what = record { at = at; by = by; what = what }

-- ---- one step

machine_then : (terms : Terms) (past : List Step) (at : ℕ) (by : Client) (what : Event) (n : ℕ) → by.machine ≡ n
    → machines terms (record { at = at; by = by; what = what } ∷ past) n ≡ done terms by (machines terms past n) at what
machine_then terms past at by what n same = test (by.machine == n) refl
  where
    test : (b : Bool) → (by.machine == n) ≡ b → (if b then done terms by (machines terms past by.machine) at what
        else machines terms past n) ≡ done terms by (machines terms past n) at what
    test true is = ap (λ (k : ℕ). done terms by (machines terms past k) at what) same
    test false is = absurd (let bad : true ≡ false = sym (eq-eqb by.machine n same) ∙ is in cc)

machine_else : (terms : Terms) (past : List Step) (at : ℕ) (by : Client) (what : Event) (n : ℕ) → (by.machine ≡ n → ⊥)
    → machines terms (record { at = at; by = by; what = what } ∷ past) n ≡ machines terms past n
machine_else terms past at by what n other = test (by.machine == n) refl
  where
    test : (b : Bool) → (by.machine == n) ≡ b → (if b then done terms by (machines terms past by.machine) at what
        else machines terms past n) ≡ machines terms past n
    test true is = absurd (other (eqb-true by.machine n is))
    test false is = refl

process_then : (terms : Terms) (at boot : ℕ) (by : Client) (m : Machine) (what : Event) → by.boot ≡ boot → Runs boot m.process what
    → (done terms by m at what).process ≡ Some boot
process_then terms at boot by m (begins floor) same runs = ap (λ (n : ℕ). Some n) same
process_then terms at boot by m (reserves bound) same runs = runs
process_then terms at boot by m (sends (request name client number epoch)) same runs = runs
process_then terms at boot by m (sends (grant name client number voter)) same runs = runs
process_then terms at boot by m (sends (release name client epoch)) same runs = runs
process_then terms at boot by m (takes (request name client number epoch)) same runs = runs
process_then terms at boot by m (takes (grant name client number voter)) same runs = runs
process_then terms at boot by m (takes (release name client epoch)) same runs = runs

sends_by : (at : ℕ) (by : Client) (what : Event) (x : Message) → IsAmong x (sent_by by what)
    → Sends (record { at = at; by = by; what = what }) x
sends_by at by (begins floor) x i = absurd i
sends_by at by (reserves bound) x i = absurd i
sends_by at by (sends (request name client number epoch)) x (inl e) =
    subst (λ (y : Message). Sends (record { at = at; by = by; what = sends (request name client number epoch) }) y) (sym e) refl
sends_by at by (sends (request name client number epoch)) x (inr i) = absurd i
sends_by at by (sends (grant name client number voter)) x i = absurd i
sends_by at by (sends (release name client epoch)) x (inl e) =
    subst (λ (y : Message). Sends (record { at = at; by = by; what = sends (release name client epoch) }) y) (sym e) refl
sends_by at by (sends (release name client epoch)) x (inr i) = absurd i
sends_by at by (takes (request name client number epoch)) x (inl e) =
    subst (λ (y : Message). Sends (record { at = at; by = by; what = takes (request name client number epoch) }) y) (sym e)
    (refl, (epoch, refl))
sends_by at by (takes (request name client number epoch)) x (inr i) = absurd i
sends_by at by (takes (grant name client number voter)) x i = absurd i
sends_by at by (takes (release name client epoch)) x i = absurd i

runs_so : (past : List Step) (self by : Client) (process : Option ℕ) (what : Event) → by.machine ≡ self.machine → by.boot ≡ self.boot
    → RunsOrIsNew past self process
    → Runs self.boot process what → IsRunning past by process what
runs_so past self by process (begins floor) machine boot (inl running) runs = absurd (runs running)
runs_so past self by process (begins floor) machine boot (inr new) runs = λ s i e f. new s i (e ∙ machine) (f ∙ boot)
runs_so past self by process (reserves bound) machine boot either runs = runs ∙ ap (λ (n : ℕ). Some n) (sym boot)
runs_so past self by process (sends message) machine boot either runs = runs ∙ ap (λ (n : ℕ). Some n) (sym boot)
runs_so past self by process (takes message) machine boot either runs = runs ∙ ap (λ (n : ℕ). Some n) (sym boot)

was_sent : (past : List Step) (brought sent : List Message) (what : Event) → ((x : Message) → IsAmong x brought → WasSentIn past x)
    → ((x : Message) → IsAmong x sent → WasSentIn past x)
    → IsHad brought sent what → WasSent past what
was_sent past brought sent (begins floor) had before h = tt
was_sent past brought sent (reserves bound) had before h = tt
was_sent past brought sent (sends message) had before h = tt
was_sent past brought sent (takes message) had before (inl i) = had message i
was_sent past brought sent (takes message) had before (inr i) = before message i

later : (past : List Step) (s : Step) (x : Message) → WasSentIn past x → WasSentIn (s ∷ past) x
later past s x h = (h.0, inr h.1, h.2)

-- ---- what is told as held

up_to_all : (at : ℕ) (past : List Step) → last_time past ≤ at → up_to at past ≡ past
up_to_all at [] last = refl
up_to_all at (s ∷ past) last = test (leb s.at at) (leb_is s.at at last)
  where
    leb_is : (a b : ℕ) → a ≤ b → leb a b ≡ true
    leb_is a b less = grind (arith, less)

    test : (b : Bool) → b ≡ true → (if b then s ∷ past else up_to at past) ≡ s ∷ past
    test true is = refl
    test false is = absurd cc

ltb_is : (a b : ℕ) → a < b → ltb a b ≡ true
ltb_is a b less = grind (arith, less)

pub held_holds : HeldLinesHold
held_holds terms w at past name user epoch until last are h = record {
  client = record { machine = w.self.machine; boot = w.self.boot; number = h.number };
  ask = h.ask;
  holds = record {
    running = subst (λ (l : List Step). (machines terms l w.self.machine).process ≡ Some w.self.boot)
        (sym (up_to_all at past last)) h.running;
    lease = subst (λ (l : List Step). ((machines terms l w.self.machine).candidate h.number name).lease ≡ Some h.ask)
        (sym (up_to_all at past last)) h.lease;
    in_time = ltb_is (terms.clock w.self.machine w.self.boot at) (terms.clock w.self.machine w.self.boot h.ask.sent + terms.relies_for)
        (let less = h.in_time in let ends = h.ends in omega (arith, less, ends));
  };
  has = record { kept = past; later = []; parts = refl; by = last; running = h.running; lease = h.lease };
  of_epoch = h.of_epoch;
  machine = refl;
  boot = refl;
  ends = h.ends;
}

-- so it is of each line
holds_then : (terms : Terms) (w : Who) (at : ℕ) (past : List Step) (had : List Message) (row : Row) → last_time past ≤ at
    → AreSteps terms past
    → Tells terms w at (machines terms past w.self.machine) had row → HoldsThen terms w at past row
holds_then terms w at past had (held name user epoch until) last are h = held_holds terms w at past name user epoch until last are h
holds_then terms w at past had (send to message bytes) last are h = tt
holds_then terms w at past had (lost name epoch) last are h = tt
holds_then terms w at past had (refused why) last are h = tt
holds_then terms w at past had (unserved why name user) last are h = tt
holds_then terms w at past had (next time) last are h = tt
holds_then terms w at past had fault last are h = tt

-- ---- what is handed out

abbrev row_of : Mark → Row → Row
row_of (wrote row) other = row
row_of (did by what) other = other

-- what a line sends was sent
told_sent : (terms : Terms) (w : Who) (at : ℕ) (m : Machine) (sent : List Message) (row : Row) (to : ℕ) (message : LeaseMessage)
    (bytes : List ℕ)
    → wrote row ≡ wrote (send to message bytes) → Tells terms w at m sent row → AreAmong (said message) sent
told_sent terms w at m sent row to message bytes same tells =
    (subst (λ (r : Row). Tells terms w at m sent r) (ap (λ (k : Mark). row_of k row) same) tells).by_step

no_line : (by : Client) (what : Event) (to : ℕ) (message : LeaseMessage) (bytes : List ℕ) → wrote (send to message bytes) ≡ did by what → ⊥
no_line by what to message bytes e = absurd cc

-- ---- all of them

pub go : (terms : Terms) (w : Who) (at : ℕ) (past : List Step) (brought sent : List Message) (marks : List Mark) → AreSteps terms past
    → last_time past ≤ at
    → RunsOrIsNew past w.self (machines terms past w.self.machine).process → ((x : Message) → IsAmong x brought → WasSentIn past x)
    → ((x : Message) → IsAmong x sent → WasSentIn past x) → Follow terms w at brought sent (machines terms past w.self.machine) marks
    → Adds terms w at past marks sent
go terms w at past brought sent [] are last runs had before f = record {
  are = are;
  kept = refl;
  last = last;
  sends = before;
  runs = runs;
  held = tt;
  own = λ s i. inl i;
  others = λ n other. refl;
  handed = λ to message bytes i. absurd i;
}
go terms w at past brought sent (wrote row ∷ marks) are last runs had before f =
    let rest = go terms w at past brought sent marks are last runs had before f.1 in
    record {
      are = rest.are;
      kept = rest.kept;
      last = rest.last;
      sends = rest.sends;
      runs = rest.runs;
      held = (holds_then terms w at past sent row last are f.0, rest.held);
      own = rest.own;
      others = rest.others;
      handed = λ to message bytes i. elim i [
        | inl e ↦ λ x j. rest.sends x (sent_still sent marks x ((told_sent terms w at (machines terms past w.self.machine) sent row to
            message bytes (sym e) f.0) x j))
        | inr j ↦ rest.handed to message bytes j
      ];
    }
go terms w at past brought sent (did by what ∷ marks) are last runs had before f =
    let may = f.0 in
    let s : Step = record { at = at; by = by; what = what } in
    let made = machine_then terms past at by what w.self.machine may.machine in
    let next : IsNext terms past s = record {
      time = last;
      running = subst (λ (n : ℕ). IsRunning past by (machines terms past n).process what) (sym may.machine)
          (runs_so past w.self by (machines terms past w.self.machine).process what may.machine may.process runs may.runs);
      may = subst (λ (n : ℕ). MayDo terms by (machines terms past n) at what) (sym may.machine) may.may;
      sent = was_sent past brought sent what had before may.had;
    } in
    let running : (machines terms (s ∷ past) w.self.machine).process ≡ Some w.self.boot =
    ap (λ (m : Machine). m.process) made ∙ process_then terms at w.self.boot by (machines terms past w.self.machine) what may.process
    may.runs in
    let rest = go terms w at (s ∷ past) brought (sent_by by what ++ sent) marks (are, next) le_self (inl running)
    (λ x i. later past s x (had x i))
    (λ x i. elim (among_both x (sent_by by what) sent i) [
      | inl j ↦ (s, inl refl, sends_by at by what x j)
      | inr j ↦ later past s x (before x j)
    ])
    (subst (λ (m : Machine). Follow terms w at brought (sent_by by what ++ sent) m marks) (sym made) f.1) in
    record {
      are = rest.are;
      kept = rest.kept ∙ ap (λ (m : Machine). after_marks terms at m marks) made;
      last = rest.last;
      sends = rest.sends;
      runs = rest.runs;
      held = rest.held;
      own = λ x i. elim (rest.own x i) [ inl j ↦ own_step x j | inr its ↦ inr its ];
      others = λ n other. rest.others n other ∙ elsewhere n other;
      handed = λ to message bytes i. elim i [
        | inl e ↦ absurd (no_line by what to message bytes e)
        | inr j ↦ rest.handed to message bytes j
      ];
    }
  where
    own_step : (x : Step) → IsAmong x (record { at = at; by = by; what = what } ∷ past)
        → IsAmong x past ⊎ ((x.by.machine ≡ w.self.machine) × (x.by.boot ≡ w.self.boot))
    own_step x (inl e) = inr (ap (λ (s : Step). s.by.machine) e ∙ f.0.machine, ap (λ (s : Step). s.by.boot) e ∙ f.0.process)
    own_step x (inr i) = inl i

    elsewhere : (n : ℕ) → n ≢ w.self.machine → machines terms (record { at = at; by = by; what = what } ∷ past) n ≡ machines terms past n
    elsewhere n other = machine_else terms past at by what n (λ same. other (sym same ∙ f.0.machine))

    le_self : at ≤ at
    le_self = omega arith

pub turns : TurnsAreSteps
turns terms w at past brought marks are last runs had f = go terms w at past brought [] marks are last runs had (λ x i. absurd i) f

pub turn_goes_on : TurnGoesOn
turn_goes_on terms at now past brought old new turn clock are last runs had is =
    let h = turn.goes terms at (machines terms past old.terms.machine) clock is in
    let adds = turns terms (who old) at past brought turn.marks are last runs had h.0 in
    (adds, subst (λ (m : Machine). IsAt terms now new m) (sym adds.kept) h.1)
