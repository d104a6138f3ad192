-- What is true of the processes of all machines behind their moments.
use Rattle.std.proofs.Common.{◌≡◌, ◌≢◌, ◌⊎◌, ℕ, ◌≤◌, List, [], ◌∷◌, ◌++◌, Option, Some, None, refl, sym, ◌∙◌, ap}
use Rattle.std.proofs.Common.{subst, inl, inr, arith}
use Rattle.std.specs.Prelude.{All, ◌==◌}
use Rattle.std.proofs.lemmas.Bool.{both_ways, cond_both, eq-eqb, eqb-true}
use Rattle.std.proofs.lemmas.List.{append_assoc}
use Rattle.std.proofs.lemmas.List.Elements.{All-head, All-tail}
use Rattle.lease_runs.specs.Lists.{IsAmong}
use Rattle.lease_runs.specs.Voter.{Client, Voter}
use Rattle.lease_runs.specs.declared.voter.LeaseVoter.{LeaseVoter}
use Rattle.lease_network.specs.Network.{Name, Message, request, Event, begins as starts, sends, takes, Step}
use Rattle.lease_network.specs.Network.{Terms, Machine, AreSteps, done, last_time, machines}
use Rattle.lease_message.specs.declared.message.LeaseMessage.{LeaseMessage}
use Rattle.lease_machine.specs.declared.name_entry.NameEntry.{NameEntry}
use Rattle.lease_machine.specs.declared.state.LeaseMachine.{LeaseMachine}
use Rattle.lease_machine.specs.declared.terms.LeaseTerms.{LeaseTerms}
use Rattle.lease_machine.specs.Kept.{IsEntry}
use Rattle.lease_machine.specs.Machine.{unknown, voter_at, voter_in}
use Rattle.lease_machine.specs.Names.{entry_of, is_same}
use Rattle.lease_machine.specs.Standing.{Stands}
use Rattle.lease_session.specs.declared.process.LeaseProcess.{LeaseProcess}
use Rattle.lease_session.specs.declared.process.Start.{Start}
use Rattle.lease_session.specs.Feeding.{At}
use Rattle.lease_session.specs.Reading.{meaning_of}
use Rattle.lease_session.specs.Rows.{said, send}
use Rattle.lease_session.specs.Steps.{Adds, IsSound, MayCome, RunsOrIsNew, TellsTime, WasSentIn, steps_with}
use Rattle.lease_session.specs.Marks.{Mark, did, wrote}
use Rattle.lease_session.specs.Own.{bound_by}
use Rattle.lease_session.specs.Turns.{who, IsAt, Stood}
use Rattle.lease_processes.specs.Processes.{Turned, begins, told, Moment, AreProcesses, HasBegun, IsTold, MayBegin, MayTurn, WasHandedOut}
use Rattle.lease_processes.specs.Processes.{bound_of, here, last_moment, left_by, marks_of, steps_of}
use Rattle.lease_processes.proofs.Alone.{new_sound}

-- ---- steps

abbrev step : ℕ → Client → Event → Step
step at by what = record { at = at; by = by; what = what }

-- marks add steps in front
pub steps_over : (at : ℕ) (past : List Step) (marks : List Mark) → (more : List Step) × (steps_with at past marks ≡ more ++ past)
steps_over at past [] = ([], refl)
steps_over at past (did by what ∷ marks) =
    let (more, is) = steps_over at (step at by what ∷ past) marks in
    (more ++ step at by what ∷ [], is ∙ sym (append_assoc more (step at by what ∷ []) past))
steps_over at past (wrote row ∷ marks) = steps_over at past marks

among_right : {A : Type 0} (x : A) (xs ys : List A) → IsAmong x ys → IsAmong x (xs ++ ys)
among_right x [] ys i = i
among_right x (y ∷ xs) ys i = inr (among_right x xs ys i)

-- what was sent stays so
sent_still : (at : ℕ) (past : List Step) (marks : List Mark) (x : Message) → WasSentIn past x → WasSentIn (steps_with at past marks) x
sent_still at past marks x (s, i, sent) =
    let over = steps_over at past marks in (s, subst (λ (l : List Step). IsAmong s l) (sym over.1) (among_right s over.0 past i), sent)

some_same : (p q : ℕ) → Some p ≡ Some q → p ≡ q
some_same p q e = cc

-- ---- whose process runs

-- a machine's process made a step
record IsOf (steps : List Step) (n p : ℕ) : Type 0 where
  pub made : Step
  pub among : IsAmong made steps
  pub machine : made.by.machine ≡ n
  pub boot : made.by.boot ≡ p

of_more : (s : Step) (steps : List Step) (n p : ℕ) → IsOf steps n p → IsOf (s ∷ steps) n p
of_more s steps n p h = record { made = h.made; among = inr h.among; machine = h.machine; boot = h.boot }

-- what a step leaves as the process is what was there, or its own
process_then : (terms : Terms) (by : Client) (m : Machine) (at : ℕ) (what : Event)
    → ((done terms by m at what).process ≡ m.process) ⊎ ((done terms by m at what).process ≡ Some by.boot)
process_then terms by m at (starts floor) = inr refl
process_then terms by m at (sends (request name client number epoch)) = inl refl
process_then terms by m at (takes (request name client number epoch)) = inl refl
process_then terms by m at _ = inl refl

made_step : (terms : Terms) (s : Step) (steps : List Step) (n p : ℕ)
    → ((k : ℕ) → (machines terms steps k).process ≡ Some p → IsOf steps k p)
    → (machines terms (s ∷ steps) n).process ≡ Some p → IsOf (s ∷ steps) n p
made_step terms s steps n p rest = cond_both (s.by.machine == n) (done terms s.by m s.at s.what) (machines terms steps n)
    (λ (x : Machine). x.process ≡ Some p → IsOf (s ∷ steps) n p)
    (λ same. by_kind (eqb-true s.by.machine n same) (process_then terms s.by m s.at s.what))
    (λ other is. of_more s steps n p (rest n is))
  where
    m : Machine
    m = machines terms steps s.by.machine

    by_kind : s.by.machine ≡ n → ((done terms s.by m s.at s.what).process ≡ m.process)
        ⊎ ((done terms s.by m s.at s.what).process ≡ Some s.by.boot)
        → (done terms s.by m s.at s.what).process ≡ Some p → IsOf (s ∷ steps) n p
    by_kind same (inl still) is = of_more s steps n p (rw same at (rest s.by.machine (sym still ∙ is)))
    by_kind same (inr own) is =
        record { made = s; among = inl refl; machine = same; boot = some_same s.by.boot p (sym own ∙ is) }

made_it : (terms : Terms) (steps : List Step) (n p : ℕ) → (machines terms steps n).process ≡ Some p → IsOf steps n p
made_it terms [] n p is = absurd cc
made_it terms (s ∷ steps) n p is = made_step terms s steps n p (λ k running. made_it terms steps k p running) is

-- ---- what is true behind all moments

-- where the process of a machine is fits what its machine keeps over all steps
pub record Fits (terms : Terms) (past : List Moment) (n : ℕ) (a : At) : Type 0 where
  pub machine : a.process.terms.machine ≡ n
  pub begun : HasBegun past n a.process.start.process
  pub runs : RunsOrIsNew (steps_of past) (who a.process).self (machines terms (steps_of past) a.process.terms.machine).process
  pub stands : IsAt terms a.told a.process (machines terms (steps_of past) a.process.terms.machine)
  pub sound : IsSound a

pub record Stand (terms : Terms) (past : List Moment) : Type 0 where
  pub are : AreSteps terms (steps_of past)
  pub last : last_time (steps_of past) ≤ last_moment past
  pub fits : (n : ℕ) (a : At) → here past n ≡ Some a → Fits terms past n a
  pub bounds : (n : ℕ) (name : Name) → ((machines terms (steps_of past) n).voter name).bound ≤ bound_of (here past n)
  pub own : (s : Step) → IsAmong s (steps_of past) → HasBegun past s.by.machine s.by.boot
  pub handed : (message : LeaseMessage) → WasHandedOut past message → (x : Message) → IsAmong x (said message) → WasSentIn (steps_of past) x

begun_more : (m : Moment) (past : List Moment) (n p : ℕ) → HasBegun past n p → HasBegun (m ∷ past) n p
begun_more m past n p h = record { moment = h.moment; among = inr h.among; machine = h.machine; numbered = h.numbered }

-- the machine of the moment, or another one
here_is : (P : Option At → Type 0) (m : Moment) (past : List Moment) (n : ℕ) → (m.machine ≡ n → P (Some (left_by m.what)))
    → (m.machine ≢ n → P (here past n)) → P (here (m ∷ past) n)
here_is P m past n own other = cond_both (m.machine == n) (Some (left_by m.what)) (here past n) P (λ is. own (eqb-true m.machine n is))
    (λ is. other (λ same. both_ways (m.machine == n) is (eq-eqb m.machine n same)))

some_at : (a b : At) → Some a ≡ Some b → a ≡ b
some_at a b e = cc

-- ---- a process begins

new_before : (terms : Terms) (past : List Moment) (n : ℕ) (new : At) → Stand terms past → MayBegin terms past n new
    → IsAt terms new.told new.process (machines terms (steps_of past) new.process.terms.machine)
new_before terms past n new s b =
    subst (λ (o : Option LeaseMachine). Stood new.process.terms new.process.start o terms new.told
    (machines terms (steps_of past) new.process.terms.machine)) (sym b.is_new.3) (record {
      are = b.of_terms;
      no_process = λ running. b.own_number (was_begun (made_it terms (steps_of past) new.process.terms.machine new.process.start.process
          running));
      floor = λ name. (let less = here_bound name in let floor = b.floor in omega (arith, less, floor));
    })
  where
    was_begun : IsOf (steps_of past) new.process.terms.machine new.process.start.process → HasBegun past n new.process.start.process
    was_begun h = rw (h.boot, h.machine, b.machine) at (s.own h.made h.among)

    here_bound : (name : Name) → ((machines terms (steps_of past) new.process.terms.machine).voter name).bound ≤ bound_of (here past n)
    here_bound name = rw b.machine (s.bounds n name)

begin_stands : (terms : Terms) (past : List Moment) (at n : ℕ) (new : At) → Stand terms past → last_moment past ≤ at
    → MayBegin terms past n new
    → Stand terms (record { at = at; machine = n; what = begins new } ∷ past)
begin_stands terms past at n new s le b = record {
  are = s.are;
  last = (let last = s.last in omega (arith, last, le));
  fits = λ k a is. here_is (λ (o : Option At). o ≡ Some a → Fits terms (m ∷ past) k a) m past k (λ same e.
      own_fits k a same (some_at new a e)) (λ other e. old_fits k a (s.fits k a e)) is;
  bounds = λ k name. here_is (λ (o : Option At). ((machines terms (steps_of past) k).voter name).bound ≤ bound_of o) m past k (λ same.
      own_bound k name same) (λ other. s.bounds k name);
  own = λ x i. begun_more m past x.by.machine x.by.boot (s.own x i);
  handed = λ message h. by_line message h.moment h.among h.to h.bytes h.line;
}
  where
    m : Moment
    m = record { at = at; machine = n; what = begins new }

    own_fits : (k : ℕ) (a : At) → n ≡ k → new ≡ a → Fits terms (m ∷ past) k a
    own_fits k a same is = subst (λ (c : At). Fits terms (m ∷ past) k c) is (record {
      machine = b.machine ∙ same;
      begun = record { moment = m; among = inl refl; machine = same; numbered = refl };
      runs = inr (λ x i machine boot. b.own_number
          (subst (λ (p : ℕ). HasBegun past n p) boot (subst (λ (j : ℕ). HasBegun past j x.by.boot) (machine ∙ b.machine) (s.own x i))));
      stands = new_before terms past n new s b;
      sound = new_sound new b.is_new;
    })

    old_fits : (k : ℕ) (a : At) → Fits terms past k a → Fits terms (m ∷ past) k a
    old_fits k a f = record {
      machine = f.machine;
      begun = begun_more m past k a.process.start.process f.begun;
      runs = f.runs;
      stands = f.stands;
      sound = f.sound;
    }

    own_bound : (k : ℕ) (name : Name) → n ≡ k → ((machines terms (steps_of past) k).voter name).bound ≤ bound_by new.process.start
        new.process.machine
    own_bound k name same = subst (λ (o : Option LeaseMachine).
        ((machines terms (steps_of past) k).voter name).bound ≤ bound_by new.process.start o) (sym b.is_new.3)
        (let less = subst (λ (j : ℕ). ((machines terms (steps_of past) j).voter name).bound ≤ bound_of (here past n)) same (s.bounds n name)
        in let floor = b.floor in omega (arith, less, floor))

    by_line : (message : LeaseMessage) (o : Moment) → IsAmong o (m ∷ past) → (to : ℕ) (bytes : List ℕ)
        → IsAmong (wrote (send to message bytes)) (marks_of o.what)
        → (x : Message) → IsAmong x (said message) → WasSentIn (steps_of past) x
    by_line message o (inl e) to bytes line x i = absurd (subst (λ (p : Moment). IsAmong (wrote (send to message bytes)) (marks_of p.what))
        e line)
    by_line message o (inr among) to bytes line x i = s.handed message (record {
      moment = o;
      among = among;
      to = to;
      bytes = bytes;
      line = line;
    }) x i

-- ---- a process is told a line

abbrev same_but : At → LeaseProcess → At
same_but a p = record a { process = record a.process { text = p.text } }

-- the process fits, with the text that it keeps
kept_fits : (terms : Terms) (past : List Moment) (n : ℕ) (before old : At) → old ≡ same_but before old.process → Fits terms past n before
    → Fits terms past n old
kept_fits terms past n before old same f = subst (λ (a : At). Fits terms past n a) (sym same)
    (record {
      machine = f.machine;
      begun = f.begun;
      runs = f.runs;
      stands = f.stands;
      sound = record { goes_on = f.sound.goes_on; reserved = f.sound.reserved; holders = f.sound.holders };
    })

may_come : (terms : Terms) (past : List Moment) (at n : ℕ) (line : List ℕ) (old : At) (marks : List Mark) (new : At) → Stand terms past
    → last_moment past ≤ at
    → (t : IsTold terms past at n line old marks new) → Fits terms past n old → MayCome terms at (steps_of past) line old
may_come terms past at n line old marks new s le t f = record {
  clock = subst (λ (k : ℕ). TellsTime (terms.clock k old.process.start.process at) (meaning_of line)) (sym f.machine)
      (subst (λ (a : At). TellsTime (terms.clock n a.process.start.process at) (meaning_of line)) (sym t.same) t.clock);
  brought = λ message may x i. s.handed message (t.brought message may) x i;
  are = s.are;
  last = (let last = s.last in omega (arith, last, le));
  runs = f.runs;
  stands = f.stands;
}

-- ---- bounds

the_entry : (a b : NameEntry) → Some a ≡ Some b → a ≡ b
the_entry a b e = cc

of_found : (P : NameEntry → Type 0) (name : List ℕ) (es : List NameEntry) (d : NameEntry) → All P es → entry_of name es ≡ Some d → P d
of_found P name [] d all h = absurd cc
of_found P name (e ∷ es) d all h = cond_both (is_same e.name name) (Some e) (entry_of name es)
    (λ (o : Option NameEntry). o ≡ Some d → P d) (λ same is. subst P (the_entry e d is) (All-head P e es all))
    (λ other. of_found P name es d (All-tail P e es all)) h

-- each name's voter grants up to the bound of the machine
bound_at : (c : LeaseMachine) (name : Name) → (voter_at c name).bound ≡ c.bound
bound_at c name = by_entry (entry_of name c.names.items) refl
  where
    by_entry : (o : Option NameEntry) → entry_of name c.names.items ≡ o → (voter_in (unknown c) o).bound ≡ c.bound
    by_entry None is = refl
    by_entry (Some e) is = (of_found (IsEntry c.terms c.process c.claims c.began c.bound) name c.names.items e c.kept.entries is).allowed

stands_bound : (boot now : ℕ) (c : LeaseVoter) (v : Voter) → Stands boot now c v → v.bound ≡ c.bound
stands_bound boot now c v (inl same) = ap (λ (x : Voter). x.bound) (sym same)
stands_bound boot now c v (inr behind) = behind.bound

bounded : (terms : Terms) (now : ℕ) (p : LeaseProcess) (m : Machine) (name : Name) → IsAt terms now p m
    → (m.voter name).bound ≤ bound_by p.start p.machine
bounded terms now p m name is = by_machine p.machine is
  where
    by_machine : (o : Option LeaseMachine) → Stood p.terms p.start o terms now m → (m.voter name).bound ≤ bound_by p.start o
    by_machine None before = before.floor name
    by_machine (Some c) stands =
        (let first = stands_bound c.process now (voter_at c name) (m.voter name) (stands.voters name) in let second = bound_at c name in
        omega (arith, first, second))

-- ---- behind a line

told_stands : (terms : Terms) (past : List Moment) (at n : ℕ) (line : List ℕ) (old : At) (marks : List Mark) (new : At) → Stand terms past
    → last_moment past ≤ at
    → IsTold terms past at n line old marks new → Stand terms (record { at = at; machine = n; what = told line old marks new } ∷ past)
told_stands terms past at n line old marks new s le t = record {
  are = adds.are;
  last = adds.last;
  fits = λ k a is. here_is (λ (o : Option At). o ≡ Some a → Fits terms (m ∷ past) k a) m past k (λ same e.
      own_fits k a same (some_at new a e)) (λ other e. old_fits k a other (s.fits k a e)) is;
  bounds = λ k name. here_is (λ (o : Option At). ((machines terms steps k).voter name).bound ≤ bound_of o) m past k (λ same.
      own_bound k name same) (λ other. old_bound k name other);
  own = λ x i. elim (adds.own x i) [
    | inl j ↦ begun_more m past x.by.machine x.by.boot (s.own x j)
    | inr its ↦ begun_more m past x.by.machine x.by.boot (its_process x its.0 its.1)
  ];
  handed = λ message h. by_line message h.moment h.among h.to h.bytes h.line;
}
  where
    m : Moment
    m = record { at = at; machine = n; what = told line old marks new }

    steps : List Step
    steps = steps_with at (steps_of past) marks

    f : Fits terms past n old
    f = kept_fits terms past n t.before old t.same (s.fits n t.before t.runs)

    went : Adds terms (who old.process) at (steps_of past) marks []
        × IsAt terms new.told new.process (machines terms steps old.process.terms.machine)
    went = t.answered.goes terms at (steps_of past) (may_come terms past at n line old marks new s le t f)

    adds : Adds terms (who old.process) at (steps_of past) marks []
    adds = went.0

    of_machine : new.process.terms.machine ≡ old.process.terms.machine
    of_machine = ap (λ (x : LeaseTerms). x.machine) t.answered.terms

    numbered : new.process.start.process ≡ old.process.start.process
    numbered = ap (λ (x : Start). x.process) t.answered.start

    own_fits : (k : ℕ) (a : At) → n ≡ k → new ≡ a → Fits terms (m ∷ past) k a
    own_fits k a same is = subst (λ (c : At). Fits terms (m ∷ past) k c) is (record {
      machine = of_machine ∙ (f.machine ∙ same);
      begun = subst (λ (p : ℕ). HasBegun (m ∷ past) k p) (sym numbered) (begun_more m past k old.process.start.process
          (subst (λ (j : ℕ). HasBegun past j old.process.start.process) same f.begun));
      runs = subst (λ (c : Client). RunsOrIsNew steps c (machines terms steps c.machine).process)
          (ap (λ (k : ℕ). self_of k old.process.start.process) (sym of_machine)
          ∙ ap (λ (p : ℕ). self_of new.process.terms.machine p) (sym numbered)) adds.runs;
      stands = subst (λ (j : ℕ). IsAt terms new.told new.process (machines terms steps j)) (sym of_machine) went.1;
      sound = t.answered.sound;
    })
      where
        self_of : ℕ → ℕ → Client
        self_of machine boot = record { machine = machine; boot = boot; number = 0 }

    else_where : (k : ℕ) → n ≢ k → machines terms steps k ≡ machines terms (steps_of past) k
    else_where k other = adds.others k (λ same. other (sym (same ∙ f.machine)))

    old_fits : (k : ℕ) (a : At) → n ≢ k → Fits terms past k a → Fits terms (m ∷ past) k a
    old_fits k a other g = record {
      machine = g.machine;
      begun = begun_more m past k a.process.start.process g.begun;
      runs = elim g.runs [
        | inl runs ↦ inl (ap (λ (x : Machine). x.process) there ∙ runs)
        | inr none ↦ inr (λ x i. none_of x (adds.own x i) (none x))
      ];
      stands = subst (λ (x : Machine). IsAt terms a.told a.process x) (sym there) g.stands;
      sound = g.sound;
    }
      where
        there : machines terms steps a.process.terms.machine ≡ machines terms (steps_of past) a.process.terms.machine
        there = else_where a.process.terms.machine (λ same. other (same ∙ g.machine))

        none_of : (x : Step) → IsAmong x (steps_of past) ⊎ ((x.by.machine ≡ old.process.terms.machine)
            × (x.by.boot ≡ old.process.start.process))
            → (IsAmong x (steps_of past) → x.by.machine ≡ a.process.terms.machine → x.by.boot ≡ a.process.start.process → ⊥)
            → x.by.machine ≡ a.process.terms.machine → x.by.boot ≡ a.process.start.process → ⊥
        none_of x (inl j) none machine boot = none j machine boot
        none_of x (inr its) none machine boot = absurd (other (sym f.machine ∙ (sym its.0 ∙ (machine ∙ g.machine))))

    own_bound : (k : ℕ) (name : Name) → n ≡ k → ((machines terms steps k).voter name).bound ≤ bound_by new.process.start new.process.machine
    own_bound k name same = bounded terms new.told new.process (machines terms steps k) name
        (subst (λ (j : ℕ). IsAt terms new.told new.process (machines terms steps j)) (f.machine ∙ same) went.1)

    old_bound : (k : ℕ) (name : Name) → n ≢ k → ((machines terms steps k).voter name).bound ≤ bound_of (here past k)
    old_bound k name other = subst (λ (x : Machine). (x.voter name).bound ≤ bound_of (here past k)) (sym (else_where k other))
        (s.bounds k name)

    its_process : (x : Step) → x.by.machine ≡ old.process.terms.machine → x.by.boot ≡ old.process.start.process
        → HasBegun past x.by.machine x.by.boot
    its_process x machine boot = subst (λ (p : ℕ). HasBegun past x.by.machine p) (sym boot)
        (subst (λ (j : ℕ). HasBegun past j old.process.start.process) (sym (machine ∙ f.machine)) f.begun)

    by_line : (message : LeaseMessage) (o : Moment) → IsAmong o (m ∷ past) → (to : ℕ) (bytes : List ℕ)
        → IsAmong (wrote (send to message bytes)) (marks_of o.what)
        → (x : Message) → IsAmong x (said message) → WasSentIn steps x
    by_line message o (inl e) to bytes line x i = adds.handed to message bytes
        (subst (λ (p : Moment). IsAmong (wrote (send to message bytes)) (marks_of p.what)) e line) x i
    by_line message o (inr among) to bytes line x i =
        sent_still at (steps_of past) marks x (s.handed message (record { moment = o; among = among; to = to; bytes = bytes; line = line })
        x i)

-- ---- all of them

moment_stands : (terms : Terms) (past : List Moment) (at n : ℕ) (what : Turned) → Stand terms past → last_moment past ≤ at
    → MayTurn terms past at n what
    → Stand terms (record { at = at; machine = n; what = what } ∷ past)
moment_stands terms past at n (begins new) s le b = begin_stands terms past at n new s le b
moment_stands terms past at n (told line old marks new) s le t = told_stands terms past at n line old marks new s le t

pub stand : (terms : Terms) (past : List Moment) → AreProcesses terms past → Stand terms past
stand terms [] are = record {
  are = tt;
  last = omega arith;
  fits = λ n a is. absurd cc;
  bounds = λ n name. omega arith;
  own = λ s i. absurd i;
  handed = λ message h. absurd h.among;
}
stand terms (m ∷ past) are = moment_stands terms past m.at m.machine m.what (stand terms past are.0) are.1 are.2

-- behind a line, what its marks add
pub added : (terms : Terms) (past : List Moment) (at n : ℕ) (line : List ℕ) (old : At) (marks : List Mark) (new : At) → Stand terms past
    → last_moment past ≤ at
    → IsTold terms past at n line old marks new → Adds terms (who old.process) at (steps_of past) marks [] × (old.process.terms.machine ≡ n)
added terms past at n line old marks new s le t =
    let f = kept_fits terms past n t.before old t.same (s.fits n t.before t.runs) in
    ((t.answered.goes terms at (steps_of past) (may_come terms past at n line old marks new s le t f)).0, f.machine)
