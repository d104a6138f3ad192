-- Turns, of one step, of one line, and one behind another.
use Rattle.std.proofs.Common.{◌≡◌, ◌⊎◌, ℕ, List, [], ◌∷◌, ◌++◌, Option, Some, None, refl, sym, ◌∙◌, ap, subst, inl, inr, append_assoc}
use Rattle.std.proofs.lemmas.List.{append-nil}
use Rattle.lease_runs.specs.Lists.{IsAmong}
use Rattle.lease_runs.specs.Voter.{Client}
use Rattle.lease_network.specs.Network.{Message, request, release, Event, begins, reserves, sends, takes, Terms, Machine, done}
use Rattle.lease_machine.specs.declared.terms.LeaseTerms.{LeaseTerms}
use Rattle.lease_machine.specs.declared.state.LeaseMachine.{LeaseMachine}
use Rattle.lease_steps.specs.StandsFor.{Did, DidNothing, StandsFor, clock_of}
use Rattle.lease_session.specs.declared.process.LeaseProcess.{LeaseProcess}
use Rattle.lease_session.specs.declared.process.Start.{Start}
use Rattle.lease_session.specs.declared.refusing.Halt.TheVariants.{NoMemory}
use Rattle.lease_session.specs.Rows.{Row, send, held, lost, refused, row_text}
use Rattle.lease_session.specs.Telling.{AreTold, IsTold, SaysLost, told_after, told_row}
use Rattle.lease_session.specs.declared.told.Told.{Told}
use Rattle.lease_session.specs.declared.seals.LeaseSeal.{LeaseSeal}
use Rattle.lease_session.specs.Own.{IsOwn}
use Rattle.std.specs.Global.{Vec, Global}
use Rattle.std.specs.Option.{ForSome}
use Rattle.lease_session.specs.Holding.{AreHoldersTold}
use Rattle.lease_session.specs.Marks.{Mark, did, wrote}
use Rattle.lease_session.specs.Turns.{text_of, sent_by, sent_in, after_marks, Who, who, key_of, AreAmong, Tells, Runs, IsHad, Follow, Stood}
use Rattle.lease_session.specs.Turns.{IsAt, IsOut, IsQuiet, IsStill, Turn}
use Rattle.lease_session.proofs.Leases.{LeasesKept, kept_told}

-- ---- lists

pub among_left : {A : Type 0} (x : A) (xs ys : List A) → IsAmong x xs → IsAmong x (xs ++ ys)
among_left x [] ys i = absurd i
among_left x (y ∷ xs) ys (inl e) = inl e
among_left x (y ∷ xs) ys (inr i) = inr (among_left x xs ys i)

pub among_right : {A : Type 0} (x : A) (xs ys : List A) → IsAmong x ys → IsAmong x (xs ++ ys)
among_right x [] ys i = i
among_right x (y ∷ xs) ys i = inr (among_right x xs ys i)

pub among_both : {A : Type 0} (x : A) (xs ys : List A) → IsAmong x (xs ++ ys) → IsAmong x xs ⊎ IsAmong x ys
among_both x [] ys i = inr i
among_both x (y ∷ xs) ys (inl e) = inl (inl e)
among_both x (y ∷ xs) ys (inr i) = elim (among_both x xs ys i) [ inl j ↦ inl (inr j) | inr j ↦ inr j ]

-- more of them behind what is added
pub among_more : (x : Message) (xs sent more : List Message) → AreAmong sent more → IsAmong x (xs ++ sent) → IsAmong x (xs ++ more)
among_more x xs sent more wider i = elim (among_both x xs sent i) [
  | inl j ↦ among_left x xs more j
  | inr j ↦ among_right x xs more (wider x j)
]

-- what was sent before is among what is sent then
pub sent_still : (sent : List Message) (marks : List Mark) (x : Message) → IsAmong x sent → IsAmong x (sent_in sent marks)
sent_still sent [] x i = i
sent_still sent (did by what ∷ marks) x i = sent_still (sent_by by what ++ sent) marks x (among_right x (sent_by by what) sent i)
sent_still sent (wrote row ∷ marks) x i = sent_still sent marks x i

pub sent_more : (sent more : List Message) (marks : List Mark) → AreAmong sent more → AreAmong (sent_in sent marks) (sent_in more marks)
sent_more sent more [] wider = wider
sent_more sent more (did by what ∷ marks) wider = sent_more (sent_by by what ++ sent)
    (sent_by by what ++ more) marks (λ x i. among_more x (sent_by by what) sent more wider i)
sent_more sent more (wrote row ∷ marks) wider = sent_more sent more marks wider

-- ---- marks behind marks

pub text_both : (xs ys : List Mark) → text_of (xs ++ ys) ≡ text_of xs ++ text_of ys
text_both [] ys = refl
text_both (did by what ∷ xs) ys = text_both xs ys
text_both (wrote row ∷ xs) ys = ap (λ (t : List ℕ). row_text row ++ t) (text_both xs ys)
    ∙ sym (append_assoc (row_text row) (text_of xs) (text_of ys))

pub after_both : (terms : Terms) (at : ℕ) (m : Machine) (xs ys : List Mark)
    → after_marks terms at m (xs ++ ys) ≡ after_marks terms at (after_marks terms at m xs) ys
after_both terms at m [] ys = refl
after_both terms at m (did by what ∷ xs) ys = after_both terms at (done terms by m at what) xs ys
after_both terms at m (wrote row ∷ xs) ys = after_both terms at m xs ys

pub sent_both : (sent : List Message) (xs ys : List Mark) → sent_in sent (xs ++ ys) ≡ sent_in (sent_in sent xs) ys
sent_both sent [] ys = refl
sent_both sent (did by what ∷ xs) ys = sent_both (sent_by by what ++ sent) xs ys
sent_both sent (wrote row ∷ xs) ys = sent_both sent xs ys

pub sends_still : (x : Message) (sent : List Message) (xs ys : List Mark) → IsAmong x (sent_in sent xs)
    → IsAmong x (sent_in sent (xs ++ ys))
sends_still x sent xs ys i = subst (λ (l : List Message). IsAmong x l) (sym (sent_both sent xs ys)) (sent_still (sent_in sent xs) ys x i)

-- ---- what users are told

pub told_both : (ts : List Told) (xs ys : List Mark) → told_after ts (xs ++ ys) ≡ told_after (told_after ts xs) ys
told_both ts [] ys = refl
told_both ts (did by what ∷ xs) ys = told_both ts xs ys
told_both ts (wrote row ∷ xs) ys = told_both (told_row ts row) xs ys

says_more : (name : List ℕ) (xs ys : List Mark) → SaysLost name xs → SaysLost name (xs ++ ys)
says_more name [] ys h = absurd h
says_more name (did by what ∷ xs) ys h = absurd h
says_more name (wrote row ∷ xs) ys h = h

is_told_more : (ts : List Told) (what : Event) (xs ys : List Mark) → IsTold ts what xs → IsTold ts what (xs ++ ys)
is_told_more ts (sends (release name client epoch)) xs ys h = elim h [ inl none ↦ inl none | inr says ↦ inr (says_more name xs ys says) ]
is_told_more ts (sends (request name client number epoch)) xs ys h = tt
is_told_more ts _ xs ys h = tt

pub careful_both : (ts : List Told) (xs ys : List Mark) → AreTold ts xs → AreTold (told_after ts xs) ys → AreTold ts (xs ++ ys)
careful_both ts [] ys a b = b
careful_both ts (did by what ∷ xs) ys a b = (is_told_more ts what xs ys a.0, careful_both ts xs ys a.1 b)
careful_both ts (wrote row ∷ xs) ys a b = careful_both (told_row ts row) xs ys a b

-- ---- what may be taken

-- all of these were brought, or sent before
abbrev pub AreHad : List Message → List Message → List Message → Type 0
AreHad messages brought sent = (x : Message) → IsAmong x messages → IsAmong x brought ⊎ IsAmong x sent

had_more : (brought sent wider more : List Message) (what : Event) → ((x : Message) → IsAmong x brought → IsAmong x wider ⊎ IsAmong x more)
    → AreAmong sent more
    → IsHad brought sent what → IsHad wider more what
had_more brought sent wider more (begins floor) all rest h = tt
had_more brought sent wider more (reserves bound) all rest h = tt
had_more brought sent wider more (sends message) all rest h = tt
had_more brought sent wider more (takes message) all rest h = elim h [ inl i ↦ all message i | inr i ↦ inr (rest message i) ]

tells_more : (terms : Terms) (w : Who) (at : ℕ) (m : Machine) (sent more : List Message) (row : Row) → AreAmong sent more
    → Tells terms w at m sent row → Tells terms w at m more row
tells_more terms w at m sent more (send to message bytes) wider t =
    record { by_step = λ x i. wider x (t.by_step x i); goes_to = t.goes_to; carried = t.carried }
tells_more terms w at m sent more (held name user epoch until) wider t = t
tells_more terms w at m sent more (lost name epoch) wider t =
    record { client = t.client; up_to = t.up_to; covers = t.covers; released = wider (release name t.client t.up_to) t.released }
tells_more terms w at m sent more (refused why) wider t = tt
tells_more terms w at m sent more _ wider t = tt

-- marks that follow where less was sent follow where more was
pub follow_more : (terms : Terms) (w : Who) (at : ℕ) (brought sent wider more : List Message) (m : Machine) (marks : List Mark)
    → ((x : Message) → IsAmong x brought → IsAmong x wider ⊎ IsAmong x more) → AreAmong sent more → Follow terms w at brought sent m marks
    → Follow terms w at wider more m marks
follow_more terms w at brought sent wider more m [] all rest f = tt
follow_more terms w at brought sent wider more m (did by what ∷ marks) all rest f = (
  record {
    machine = f.0.machine;
    process = f.0.process;
    runs = f.0.runs;
    may = f.0.may;
    had =
        had_more brought sent wider more what all rest f.0.had;
  },
  follow_more terms w at brought (sent_by by what ++ sent) wider (sent_by by what ++ more) (done terms by m at what) marks
      (λ x i. elim (all x i) [ inl j ↦ inl j | inr j ↦ inr (among_right x (sent_by by what) more j) ])
      (λ x i. among_more x (sent_by by what) sent more rest i) f.1,
)
follow_more terms w at brought sent wider more m (wrote row ∷ marks) all rest f =
    (tells_more terms w at m sent more row rest f.0, follow_more terms w at brought sent wider more m marks all rest f.1)

pub follow_both : (terms : Terms) (w : Who) (at : ℕ) (brought sent : List Message) (m : Machine) (xs ys : List Mark)
    → Follow terms w at brought sent m xs
    → Follow terms w at brought (sent_in sent xs) (after_marks terms at m xs) ys → Follow terms w at brought sent m (xs ++ ys)
follow_both terms w at brought sent m [] ys f g = g
follow_both terms w at brought sent m (did by what ∷ xs) ys f g =
    (f.0, follow_both terms w at brought (sent_by by what ++ sent) (done terms by m at what) xs ys f.1 g)
follow_both terms w at brought sent m (wrote row ∷ xs) ys f g = (f.0, follow_both terms w at brought sent m xs ys f.1 g)

-- ---- one turn behind another

pub who_is : (a b : LeaseProcess) → b.terms ≡ a.terms → b.start ≡ a.start → key_of b.seal ≡ key_of a.seal → who b ≡ who a
who_is a b terms start key =
    λ i. record { self = record { machine = (terms i).machine; boot = (start i).process; number = 0 }; key = key i }

abbrev pub then_had : {sent brought more took : List Message} {now : ℕ} {a b c : LeaseProcess} (t : Turn sent brought now a b)
    → Turn more took now b c
    → AreAmong more (sent_in sent t.marks) → AreHad took brought (sent_in sent t.marks) → Turn sent brought now a c
then_had {sent = sent} {brought = brought} {more = more} {took = took} {now = now} {a = a} {b = b} {c = c} t u within had = record {
  marks = t.marks ++ u.marks;
  terms = u.terms ∙ t.terms;
  start = u.start ∙ t.start;
  key = u.key ∙ t.key;
  halts = λ out. u.halts (t.halts out);
  goes_on = λ none. t.goes_on (u.goes_on none);
  holders = λ none told. u.holders none (t.holders (u.goes_on none) told);
  text = λ goes. u.text goes ∙ (ap (λ (x : List ℕ). x ++ text_of u.marks) (t.text (λ out. goes (u.halts out)))
      ∙ (append_assoc a.text.items (text_of t.marks) (text_of u.marks)
      ∙ ap (λ (x : List ℕ). a.text.items ++ x) (sym (text_both t.marks u.marks))));
  told = λ goes. u.told goes ∙ (ap (λ (x : List Told). told_after x u.marks) (t.told (λ out. goes (u.halts out)))
      ∙ sym (told_both a.told.items t.marks u.marks));
  careful = λ goes. careful_both a.told.items t.marks u.marks (t.careful (λ out. goes (u.halts out)))
      (subst (λ (x : List Told). AreTold x u.marks) (t.told (λ out. goes (u.halts out))) (u.careful goes));
  goes = λ terms at m clock is. steps terms at m clock is;
}
  where
    steps : (terms : Terms) (at : ℕ) (m : Machine) → terms.clock a.terms.machine a.start.process at ≡ now → IsAt terms now a m
        → Follow terms (who a) at brought sent m (t.marks ++ u.marks) × IsAt terms now c (after_marks terms at m (t.marks ++ u.marks))
    steps terms at m clock is =
        let first = t.goes terms at m clock is in
        let its : terms.clock b.terms.machine b.start.process at ≡ now =
        ap (λ (x : LeaseTerms). terms.clock x.machine b.start.process at) t.terms
        ∙ (ap (λ (x : Start). terms.clock a.terms.machine x.process at) t.start ∙ clock) in
        let second = u.goes terms at (after_marks terms at m t.marks) its first.1 in (
          follow_both terms (who a) at brought sent m t.marks u.marks first.0
              (follow_more terms (who a) at took more brought (sent_in sent t.marks) (after_marks terms at m t.marks) u.marks had within
              (subst (λ (w : Who). Follow terms w at took more (after_marks terms at m t.marks) u.marks) (who_is a b t.terms t.start t.key)
              second.0)),
          subst (λ (x : Machine). IsAt terms now c x) (sym (after_both terms at m t.marks u.marks)) second.1,
        )

pub nothing_had : (brought sent : List Message) → AreHad [] brought sent
nothing_had brought sent x i = absurd i

pub brought_had : (brought sent : List Message) → AreHad brought brought sent
brought_had brought sent x i = inl i

-- of which the second needs what the first did
pub then_sent : {sent brought : List Message} {now : ℕ} {a b c : LeaseProcess} → Turn sent brought now a b → Turn sent [] now b c
    → Turn sent brought now a c
then_sent {sent = sent} {brought = brought} t u = then_had t u (λ x i. sent_still sent t.marks x i)
    (nothing_had brought (sent_in sent t.marks))

-- of which the second needs nothing
pub then : {sent brought : List Message} {now : ℕ} {a b c : LeaseProcess} → Turn sent brought now a b → Turn [] [] now b c
    → Turn sent brought now a c
then {sent = sent} {brought = brought} t u = then_had t u (λ x i. absurd i) (nothing_had brought (sent_in sent t.marks))

-- and what a line brought may be taken by the second as well
pub then_too : {sent brought : List Message} {now : ℕ} {a b c : LeaseProcess} → Turn sent brought now a b → Turn [] brought now b c
    → Turn sent brought now a c
then_too {sent = sent} {brought = brought} t u = then_had t u (λ x i. absurd i) (brought_had brought (sent_in sent t.marks))

-- ---- where the machine does nothing

pub quiet_of : {a b : LeaseProcess} → IsStill a b → IsQuiet a b
quiet_of s = record { machine = s.machine; terms = s.terms; start = s.start; key = s.key }

pub is_at_quiet : (a b : LeaseProcess) (terms : Terms) (now : ℕ) (m : Machine) → IsQuiet a b → IsAt terms now a m → IsAt terms now b m
is_at_quiet a b terms now m s is =
    rw (s.machine, s.start, s.terms) is

pub is_at_same : (a b : LeaseProcess) (terms : Terms) (now : ℕ) (m : Machine) → IsStill a b → IsAt terms now a m → IsAt terms now b m
is_at_same a b terms now m s is = is_at_quiet a b terms now m (quiet_of s) is

pub holders_still : (a b : LeaseProcess) → b.machine ≡ a.machine → b.told.items ≡ a.told.items → AreHoldersTold a.machine a.told.items
    → AreHoldersTold b.machine b.told.items
holders_still a b machine told h = rw (machine, told) h

pub stayed : {sent brought : List Message} {now : ℕ} {a b : LeaseProcess} → IsStill a b → (IsOut a → IsOut b)
    → (b.halt ≡ None → a.halt ≡ None) → b.text.items ≡ a.text.items
    → Turn sent brought now a b
stayed {now = now} {a = a} {b = b} s halts goes_on text = record {
  marks = [];
  terms = s.terms;
  start = s.start;
  key = s.key;
  halts = halts;
  goes_on = goes_on;
  holders = λ none h. holders_still a b s.machine (ap (λ t. t.items) s.told) h;
  text = λ goes. text ∙ sym (append-nil a.text.items);
  told = λ goes. ap (λ t. t.items) s.told;
  careful = λ goes. tt;
  goes = λ terms at m clock is. (tt, is_at_same a b terms now m s is);
}

pub stay : {sent brought : List Message} {now : ℕ} (a : LeaseProcess) → Turn sent brought now a a
stay a = stayed (record { machine = refl; terms = refl; start = refl; key = refl; told = refl }) (λ out. out) (λ none. none) refl

-- the same process
pub from_same : {sent brought : List Message} {now : ℕ} {a b c : LeaseProcess} → b ≡ a → Turn sent brought now b c
    → Turn sent brought now a c
from_same {sent = sent} {brought = brought} {now = now} {c = c} same t = subst (λ (x : LeaseProcess). Turn sent brought now x c) same t

pub to_same : {sent brought : List Message} {now : ℕ} {a b c : LeaseProcess} → c ≡ b → Turn sent brought now a b → Turn sent brought now a c
to_same {sent = sent} {brought = brought} {now = now} {a = a} same t = subst (λ (x : LeaseProcess). Turn sent brought now a x) (sym same) t

-- the line can't be written
pub failed : {sent brought : List Message} {now : ℕ} {a b : LeaseProcess} → IsQuiet a b → IsOut b → Turn sent brought now a b
failed {now = now} {a = a} {b = b} s out = record {
  marks = [];
  terms = s.terms;
  start = s.start;
  key = s.key;
  halts = λ was. out;
  goes_on = λ none. absurd (let bad : None ≡ Some NoMemory = sym none ∙ out in cc);
  holders = λ none h. absurd (let bad : None ≡ Some NoMemory = sym none ∙ out in cc);
  text = λ goes. absurd (goes out);
  told = λ goes. absurd (goes out);
  careful = λ goes. tt;
  goes = λ terms at m clock is. (tt, is_at_quiet a b terms now m s is);
}

pub ran_out : {sent brought : List Message} {now : ℕ} {a b : LeaseProcess} → b ≡ record a { halt = Some NoMemory }
    → Turn sent brought now a b
ran_out same = to_same same (failed (record { machine = refl; terms = refl; start = refl; key = refl }) refl)

-- no memory was left, and the machine did nothing
pub fell : {sent brought : List Message} {now : ℕ} {a c : LeaseProcess} {alloc : Global} {t : LeaseTerms} {start : Start}
    {m : Option LeaseMachine} {claims : ℕ} {seal : Option LeaseSeal}
    {text : Vec ℕ} {told : Vec Told} {own : ForSome m (IsOwn t start claims)} → m ≡ a.machine → t ≡ a.terms → start ≡ a.start
    → key_of seal ≡ key_of a.seal
    → c ≡ record {
      alloc = alloc;
      terms = t;
      start = start;
      machine = m;
      claims = claims;
      seal = seal;
      text = text;
      told = told;
      halt =
          Some NoMemory;
      own = own;
    } → Turn sent brought now a c
fell machine terms start key same = failed (record {
  machine = ap (λ (p : LeaseProcess). p.machine) same ∙ machine;
  terms = ap (λ (p : LeaseProcess). p.terms) same ∙ terms;
  start = ap (λ (p : LeaseProcess). p.start) same ∙ start;
  key = ap (λ (p : LeaseProcess). key_of p.seal) same ∙ key;
}) (ap (λ (p : LeaseProcess). p.halt) same)

pub written : {sent brought : List Message} {now : ℕ} {a b : LeaseProcess} (row : Row) → IsQuiet a b → (IsOut a → IsOut b)
    → (b.halt ≡ None → a.halt ≡ None)
    → b.text.items ≡ a.text.items ++ row_text row
    → b.told.items ≡ told_row a.told.items row → told_row a.told.items row ≡ a.told.items
    → ((terms : Terms) (at : ℕ) (m : Machine) → terms.clock a.terms.machine a.start.process at ≡ now → IsAt terms now a m
    → Tells terms (who a) at m sent row)
    → Turn sent brought now a b
written {now = now} {a = a} {b = b} row s halts goes_on text told mute tells = record {
  marks = wrote row ∷ [];
  terms = s.terms;
  start = s.start;
  key = s.key;
  halts = halts;
  goes_on = goes_on;
  holders = λ none h. holders_still a b s.machine (told ∙ mute) h;
  text = λ goes. text ∙ ap (λ (t : List ℕ). a.text.items ++ t) (sym (append-nil (row_text row)));
  told = λ goes. told;
  careful = λ goes. tt;
  goes = λ terms at m clock is. ((tells terms at m clock is, tt), is_at_quiet a b terms now m s is);
}

-- ---- where it does one thing

-- all but the machine
pub record Rest (a b : LeaseProcess) : Type 0 where
  pub terms : b.terms ≡ a.terms
  pub start : b.start ≡ a.start
  pub seal : b.seal ≡ a.seal
  pub text : b.text ≡ a.text
  pub halt : b.halt ≡ a.halt
  pub told : b.told ≡ a.told

pub stands : (a : LeaseProcess) (x : LeaseMachine) (terms : Terms) (now : ℕ) (m : Machine) → a.machine ≡ Some x → IsAt terms now a m
    → StandsFor terms now x m
stands a x terms now m has is = subst (λ (o : Option LeaseMachine). Stood a.terms a.start o terms now m) has is

pub is_there : (b : LeaseProcess) (y : LeaseMachine) (terms : Terms) (now : ℕ) (m : Machine) → b.machine ≡ Some y → StandsFor terms now y m
    → IsAt terms now b m
is_there b y terms now m has s = subst (λ (o : Option LeaseMachine). Stood b.terms b.start o terms now m) (sym has) s

pub shows : (a : LeaseProcess) (x : LeaseMachine) (terms : Terms) (now at : ℕ) → a.machine ≡ Some x
    → terms.clock a.terms.machine a.start.process at ≡ now → clock_of terms x at ≡ now
shows a x terms now at has clock = ap (λ (t : LeaseTerms). terms.clock t.machine x.process at) (a.own x has).own_terms
    ∙ (ap (λ (p : ℕ). terms.clock a.terms.machine p at) (a.own x has).own_process ∙ clock)

pub text_same : {a b : LeaseProcess} → Rest a b → b.text.items ≡ a.text.items
text_same r = ap (λ t. t.items) r.text

pub holders_rest : {a b : LeaseProcess} {x y : LeaseMachine} → Rest a b → a.machine ≡ Some x → b.machine ≡ Some y → LeasesKept x y
    → AreHoldersTold a.machine a.told.items
    → AreHoldersTold b.machine b.told.items
holders_rest {a = a} {b = b} {x = x} {y = y} r was is kept h = subst (λ (o : Option LeaseMachine). AreHoldersTold o b.told.items) (sym is)
    (subst (λ (t : Vec Told). AreHoldersTold (Some y) t.items) (sym r.told)
    (λ name. kept_told x y a.told.items name (kept name) (subst (λ (o : Option LeaseMachine). AreHoldersTold o a.told.items) was h name)))

-- and maybe writes a line of it
abbrev pub action_told : {sent brought : List Message} {now : ℕ} {a b c : LeaseProcess} {x y : LeaseMachine} (by : Client) (what : Event)
    (rest : List Mark) → Rest a b
    → a.machine ≡ Some x → b.machine ≡ Some y → Did x y now by what → by.machine ≡ a.terms.machine → by.boot ≡ a.start.process
    → ((process : Option ℕ) → process ≡ Some a.start.process → Runs a.start.process process what) → IsHad brought sent what → IsQuiet b c
    → (IsOut a → IsOut c)
    → (c.halt ≡ None → a.halt ≡ None) → ((IsOut c → ⊥) → c.text.items ≡ a.text.items ++ text_of rest)
    → ((IsOut c → ⊥) → c.told.items ≡ told_after a.told.items rest)
    → ((IsOut c → ⊥) → AreTold a.told.items (did by what ∷ rest))
    → (c.halt ≡ None → AreHoldersTold a.machine a.told.items → AreHoldersTold c.machine c.told.items)
    → ((terms : Terms) (at : ℕ) (m : Machine) → terms.clock a.terms.machine a.start.process at ≡ now → IsAt terms now b m
    → Follow terms (who a) at brought (sent_by by what ++ sent) m rest × (after_marks terms at m rest ≡ m)) → Turn sent brought now a c
action_told {now = now} {a = a} {b = b} {c = c} {x = x} {y =
    y} by what rest r was is did_it of_machine of_process runs had quiet halts goes_on text told careful holders follow = record {
      marks = did by what ∷ rest;
      terms = quiet.terms ∙ r.terms;
      start = quiet.start ∙ r.start;
      key = quiet.key ∙ ap key_of r.seal;
      halts = halts;
      goes_on = goes_on;
      text = text;
      told = told;
      careful = careful;
      holders = holders;
      goes = λ terms at m clock at_old.
          let s = stands a x terms now m was at_old in
          let h = did_it terms at m (shows a x terms now at was clock) s in
          let there = is_there b y terms now (done terms by m at what) is h.1 in
          let f = follow terms at (done terms by m at what) clock there in (
            (
              record {
                machine = of_machine;
                process = of_process;
                runs = runs m.process (s.process ∙ ap (λ (p : ℕ). Some p) (a.own x was).own_process);
                may = h.0;
                had = had;
              },
              f.0,
            ),
            subst (λ (k : Machine). IsAt terms now c k) (sym f.1) (is_at_quiet b c terms now (done terms by m at what) quiet there),
          );
    }

pub quiet_self : (a : LeaseProcess) → IsQuiet a a
quiet_self a = record { machine = refl; terms = refl; start = refl; key = refl }

pub quiet_then : {a b c : LeaseProcess} → IsQuiet a b → IsQuiet b c → IsQuiet a c
quiet_then s t = record { machine = t.machine ∙ s.machine; terms = t.terms ∙ s.terms; start = t.start ∙ s.start; key = t.key ∙ s.key }

abbrev pub action : {sent brought : List Message} {now : ℕ} {a b : LeaseProcess} {x y : LeaseMachine} (by : Client) (what : Event)
    → Rest a b → a.machine ≡ Some x → b.machine ≡ Some y
    → Did x y now by what → by.machine ≡ a.terms.machine → by.boot ≡ a.start.process
    → ((process : Option ℕ) → process ≡ Some a.start.process → Runs a.start.process process what)
    → IsHad brought sent what → IsTold a.told.items what [] → LeasesKept x y → Turn sent brought now a b
action {a = a} {b = b} by what r was is did_it of_machine of_process runs had told kept =
    action_told by what [] r was is did_it of_machine of_process runs had (quiet_self b) (λ out. r.halt ∙ out) (λ none. sym r.halt ∙ none)
    (λ goes. text_same r ∙ sym (append-nil a.text.items)) (λ goes. ap (λ t. t.items) r.told) (λ goes. (told, tt))
    (λ none h. holders_rest r was is kept h)
    (λ terms at m clock there. (tt, refl))

pub no_action : {sent brought : List Message} {now : ℕ} {a b : LeaseProcess} {x y : LeaseMachine} → Rest a b → a.machine ≡ Some x
    → b.machine ≡ Some y → DidNothing x y now
    → LeasesKept x y → Turn sent brought now a b
no_action {now = now} {a = a} {b = b} {x = x} {y = y} r was is did_none kept = record {
  marks = [];
  terms = r.terms;
  start = r.start;
  key = ap key_of r.seal;
  halts = λ out. r.halt ∙ out;
  goes_on = λ none. sym r.halt ∙ none;
  holders = λ none h. holders_rest r was is kept h;
  text = λ goes. text_same r ∙ sym (append-nil a.text.items);
  told = λ goes. ap (λ t. t.items) r.told;
  careful = λ goes. tt;
  goes = λ terms at m clock at_old. (tt, is_there b y terms now m is (did_none terms m (stands a x terms now m was at_old)));
}

-- ---- the process itself

abbrev pub itself : LeaseProcess → Client
itself p = record { machine = p.terms.machine; boot = p.start.process; number = 0 }

pub its_machine : (p : LeaseProcess) (x : LeaseMachine) → p.machine ≡ Some x → p.terms.machine ≡ x.terms.machine
its_machine p x has = sym (ap (λ (t : LeaseTerms). t.machine) (p.own x has).own_terms)
