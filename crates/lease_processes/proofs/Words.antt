-- Who goes by the last line of its process.
use Rattle.std.proofs.Common.{◌≡◌, ◌⊎◌, ℕ, ◌<◌, ◌≤◌, Bool, true, List, [], ◌∷◌, ◌++◌, Option, Some, None, refl, sym, ◌∙◌, ap, subst}
use Rattle.std.proofs.Common.{inl, inr, append_assoc, arith}
use Rattle.std.specs.Prelude.{◌==◌, if◌then◌else◌, leb, nat_eq}
use Rattle.std.specs.Cmp.Lexicographic.{pointwise}
use Rattle.std.proofs.lemmas.Bool.{cases_Bool, cond_both, eq-eqb, eqb-true, false_from_ne_true, leb-false, leb-true}
use Rattle.std.proofs.lemmas.Slice.Eq.{bytes_eq-Decides}
use Rattle.lease_runs.specs.Lists.{IsAmong}
use Rattle.lease_runs.specs.Voter.{Client}
use Rattle.lease_network.specs.Network.{Name, release, Event, sends, Step, Terms, AreSteps, last_time}
use Rattle.lease_network.specs.Laws.{HolderSentNone}
use Rattle.lease_session.specs.declared.told.Told.{Told}
use Rattle.lease_session.specs.declared.process.Start.{Start}
use Rattle.lease_session.specs.Feeding.{At}
use Rattle.lease_session.specs.Marks.{Mark, did, wrote}
use Rattle.lease_session.specs.Rows.{Row, send, held, lost}
use Rattle.lease_session.specs.Steps.{Adds, AreHeld, IsHolder, steps_with}
use Rattle.lease_session.specs.Telling.{AreTold, IsTold, SaysLost, told_after, told_of, told_row, without}
use Rattle.lease_session.specs.Turns.{who}
use Rattle.lease_processes.specs.Processes.{Turned, begins, told, Moment, AreProcesses, HasBegun, IsTold as IsAsked, MayTurn, here}
use Rattle.lease_processes.specs.Processes.{last_moment, left_by, marks_of, process_of, steps_of}
use Rattle.lease_processes.specs.Printed.{IsAbout, IsHeldLine, LastWordHolds, Relies, SaysNothing}
use Rattle.lease_processes.proofs.Standing.{Stand, added, stand, steps_over}
use Rattle.lease_processes.proofs.Printed.{lease_from, no_marks, steps_both, told_held}

-- ---- what a user was told last

is_self : (name : Name) → pointwise nat_eq name name ≡ true
is_self name = (bytes_eq-Decides name name).1 refl

name_is : (a b : Name) → pointwise nat_eq a b ≡ true → a ≡ b
name_is a b same = (bytes_eq-Decides a b).0 same

none_without : (name : Name) (ts : List Told) → told_of name (without name ts) ≡ None
none_without name [] = refl
none_without name (t ∷ ts) = elim (cases_Bool (pointwise nat_eq t.name name)) [
  | inl is ↦ rw is (none_without name ts)
  | inr is ↦ rw (is, is) (none_without name ts)
]

behind_none : (name : Name) (ts : List Told) (last : Told) → told_of name ts ≡ None
    → told_of name (ts ++ last ∷ []) ≡ told_of name (last ∷ [])
behind_none name [] last none = refl
behind_none name (t ∷ ts) last none = elim (cases_Bool (pointwise nat_eq t.name name)) [
  | inl is ↦ absurd (let bad = rw is at none in cc)
  | inr is ↦ rw is (behind_none name ts last (rw is at none))
]

-- the line says it
told_now : (name : Name) (user epoch until : ℕ) (ts : List Told) → told_of name (told_row ts (held name user epoch until)) ≡ Some epoch
told_now name user epoch until ts = behind_none name (without name ts) (record { name = name; user = user; epoch = epoch; until = until })
    (none_without name ts)
    ∙ ap (λ (b : Bool). if b then Some epoch else None) (is_self name)

other_without : (name other : Name) (ts : List Told) → (other ≡ name → ⊥) → told_of name (without other ts) ≡ told_of name ts
other_without name other [] apart = refl
other_without name other (t ∷ ts) apart = elim (cases_Bool (pointwise nat_eq t.name other)) [
  | inl is ↦ (let different = false_from_ne_true (pointwise nat_eq t.name name) (λ same.
      apart (sym (name_is t.name other is) ∙ name_is t.name name same)) in rw (is, different) (other_without name other ts apart))
  | inr is ↦ rw (is, other_without name other ts apart)
]

behind_other : (name : Name) (ts : List Told) (last : Told) → (last.name ≡ name → ⊥) → told_of name (ts ++ last ∷ []) ≡ told_of name ts
behind_other name [] last apart = rw (false_from_ne_true (pointwise nat_eq last.name name) (λ is. apart (name_is last.name name is)))
behind_other name (t ∷ ts) last apart = rw (behind_other name ts last apart)

-- a line of another name changes nothing
told_still : (name : Name) (ts : List Told) (row : Row) → (IsAbout name row → ⊥) → told_of name (told_row ts row) ≡ told_of name ts
told_still name ts (held other user epoch until) apart =
    behind_other name (without other ts) (record { name = other; user = user; epoch = epoch; until = until }) apart
    ∙ other_without name other ts apart
told_still name ts (lost other epoch) apart = other_without name other ts apart
told_still name ts (send to message bytes) apart = refl
told_still name ts _ apart = refl

told_behind : (name : Name) (ts : List Told) (marks : List Mark) → SaysNothing name marks
    → told_of name (told_after ts marks) ≡ told_of name ts
told_behind name ts [] quiet = refl
told_behind name ts (did by what ∷ marks) quiet = told_behind name ts marks (λ row i. quiet row (inr i))
told_behind name ts (wrote row ∷ marks) quiet =
    told_behind name (told_row ts row) marks (λ other i. quiet other (inr i)) ∙ told_still name ts row (quiet row (inl refl))

told_both : (ts : List Told) (xs ys : List Mark) → told_after ts (xs ++ ys) ≡ told_after (told_after ts xs) ys
told_both ts [] ys = refl
told_both ts (did by what ∷ xs) ys = told_both ts xs ys
told_both ts (wrote row ∷ xs) ys = told_both (told_row ts row) xs ys

careful_behind : (ts : List Told) (xs ys : List Mark) → AreTold ts (xs ++ ys) → AreTold (told_after ts xs) ys
careful_behind ts [] ys h = h
careful_behind ts (did by what ∷ xs) ys h = careful_behind ts xs ys h.1
careful_behind ts (wrote row ∷ xs) ys h = careful_behind (told_row ts row) xs ys h

-- ---- no release behind it

-- a release of what a user holds isn't next to nothing
said_lost : (name : Name) (marks : List Mark) → SaysLost name marks → SaysNothing name marks → ⊥
said_lost name [] says quiet = says
said_lost name (did by what ∷ marks) says quiet = says
said_lost name (wrote (lost other epoch) ∷ marks) says quiet = quiet (lost other epoch) (inl refl) says
said_lost name (wrote (send to message bytes) ∷ marks) says quiet = says
said_lost name (wrote row ∷ marks) says quiet = says

what_of : Mark → Event → Event
what_of (did by what) other = what
what_of (wrote row) other = other

not_given_up : (name : Name) (epoch given_up : ℕ) (ts : List Told) (by other : Client) (marks : List Mark) → AreTold ts marks
    → told_of name ts ≡ Some epoch → SaysNothing name marks
    → IsAmong (did by (sends (release name other given_up))) marks → epoch ≤ given_up → ⊥
unfolding what_of
not_given_up name epoch given_up ts by other [] careful is quiet i covers = i
not_given_up name epoch given_up ts by other (did c what ∷ marks) careful is quiet (inl e) covers =
    elim (subst (λ (w : Event). IsTold ts w marks) (sym (ap (λ (m : Mark). what_of m what) e)) careful.0) [
      | inl none ↦ (let less = none epoch is in absurd (omega (arith, less, covers)))
      | inr says ↦ said_lost name marks says (λ row j. quiet row (inr j))
    ]
not_given_up name epoch given_up ts by other (did c what ∷ marks) careful is quiet (inr i) covers =
    not_given_up name epoch given_up ts by other marks careful.1 is (λ row j. quiet row (inr j)) i covers
not_given_up name epoch given_up ts by other (wrote row ∷ marks) careful is quiet (inl e) covers =
    absurd (let bad : did by (sends (release name other given_up)) ≡ wrote row = e in cc)
not_given_up name epoch given_up ts by other (wrote row ∷ marks) careful is quiet (inr i) covers =
    not_given_up name epoch given_up (told_row ts row) by other marks careful (told_still name ts row (quiet row (inl refl)) ∙ is)
    (λ other j. quiet other (inr j)) i covers

-- a step of marks is among them
record IsMarked (at : ℕ) (marks : List Mark) (s : Step) : Type 0 where
  pub by_then : s.at ≡ at
  pub mark : IsAmong (did s.by s.what) marks

among_marks : (at : ℕ) (past : List Step) (marks : List Mark) (s : Step) → IsAmong s (steps_with at past marks)
    → IsAmong s past ⊎ IsMarked at marks s
among_marks at past [] s i = inl i
among_marks at past (did by what ∷ marks) s i = elim (among_marks at (record { at = at; by = by; what = what } ∷ past) marks s i) [
  | inl j ↦ first j
  | inr m ↦ inr (record { by_then = m.by_then; mark = inr m.mark })
]
  where
    first : IsAmong s (record { at = at; by = by; what = what } ∷ past) → IsAmong s past ⊎ IsMarked at (did by what ∷ marks) s
    first (inl e) = inr (record { by_then = ap (λ (x : Step). x.at) e; mark = inl (ap (λ (x : Step). did x.by x.what) e) })
    first (inr j) = inl j
among_marks at past (wrote row ∷ marks) s i = elim (among_marks at past marks s i) [
  | inl j ↦ inl j
  | inr m ↦ inr (record { by_then = m.by_then; mark = inr m.mark })
]

-- ---- one moment behind it

some_at : (a b : At) → Some a ≡ Some b → a ≡ b
some_at a b e = cc

-- the process of this number was told last that it holds, wherever it is
abbrev IsToldSo : List Moment → ℕ → ℕ → Name → ℕ → Type 0
IsToldSo past n p name epoch = (a : At) → here past n ≡ Some a → a.process.start.process ≡ p
    → told_of name a.process.told.items ≡ Some epoch

-- so it is where the process is told a line
old_told : (terms : Terms) (rest : List Moment) (n p at : ℕ) (name : Name) (epoch : ℕ) (line : List ℕ) (old : At) (marks : List Mark)
    (new : At) → (t : IsAsked terms rest at n line old marks new)
    → IsToldSo rest n p name epoch → new.process.start.process ≡ p → told_of name old.process.told.items ≡ Some epoch
old_told terms rest n p at name epoch line old marks new t before same =
    let started = ap (λ (a : At). a.process.start.process) t.same in
    let went = ap (λ (s : Start). s.process) t.answered.start in
    subst (λ (a : At). told_of name a.process.told.items ≡ Some epoch) (sym t.same)
    (before t.before t.runs (sym started ∙ (sym went ∙ same)))

told_by : (terms : Terms) (rest : List Moment) (n p at : ℕ) (name : Name) (epoch : ℕ) (what : Turned) → MayTurn terms rest at n what
    → HasBegun rest n p → IsToldSo rest n p name epoch
    → (left_by what).process.start.process ≡ p → SaysNothing name (marks_of what)
    → told_of name (left_by what).process.told.items ≡ Some epoch
told_by terms rest n p at name epoch (begins new) turn begun before same quiet =
    absurd (turn.own_number (rw same begun))
told_by terms rest n p at name epoch (told line old marks new) t begun before same quiet =
    ap (λ (ts : List Told). told_of name ts) t.answered.told
    ∙ (told_behind name old.process.told.items marks quiet ∙ old_told terms rest n p at name epoch line old marks new t before same)

told_kept : (terms : Terms) (rest : List Moment) (n p : ℕ) (name : Name) (epoch at k : ℕ) (what : Turned) → MayTurn terms rest at k what
    → HasBegun rest n p → IsToldSo rest n p name epoch
    → (k ≡ n → (left_by what).process.start.process ≡ p → SaysNothing name (marks_of what))
    → IsToldSo (record { at = at; machine = k; what = what } ∷ rest) n p name epoch
told_kept terms rest n p name epoch at k what turn begun before quiet a is same =
    cond_both (k == n) (Some (left_by what)) (here rest n) (λ (o : Option At). o ≡ Some a → told_of name a.process.told.items ≡ Some epoch)
    (λ machine left. here_told (eqb-true k n machine) (some_at (left_by what) a left)) (λ other there. before a there same) is
  where
    here_told : k ≡ n → left_by what ≡ a → told_of name a.process.told.items ≡ Some epoch
    here_told machine left =
        let its : (left_by what).process.start.process ≡ p = ap (λ (b : At). b.process.start.process) left ∙ same in
        subst (λ (b : At). told_of name b.process.told.items ≡ Some epoch) left
        (told_by terms rest n p at name epoch what (rw machine at turn) begun before its (quiet machine its))

-- a step by which the client, of this process, gives the epoch up
record IsRelease (name : Name) (epoch n p : ℕ) (client : Client) (s : Step) : Type 0 where
  pub machine : s.by.machine ≡ n
  pub boot : s.by.boot ≡ p
  pub by : s.by ≡ client
  pub other : Client
  pub given_up : ℕ
  pub what : s.what ≡ sends (release name other given_up)
  pub covers : epoch ≤ given_up

none_here : (terms : Terms) (rest : List Moment) (n p : ℕ) (client : Client) (name : Name) (epoch at k : ℕ) (what : Turned)
    → MayTurn terms rest at k what → Stand terms rest → last_moment rest ≤ at
    → IsToldSo rest n p name epoch → (k ≡ n → (left_by what).process.start.process ≡ p → SaysNothing name (marks_of what))
    → (s : Step) → IsAmong s (steps_with at (steps_of rest) (marks_of what)) → IsRelease name epoch n p client s
    → IsAmong s (steps_of rest) ⊎ ⊥
none_here terms rest n p client name epoch at k (begins new) turn stands le before quiet s i r = inl i
none_here terms rest n p client name epoch at k (told line old marks new) t stands le before quiet s i r =
    let adds = added terms rest at k line old marks new stands le t in
    elim (adds.0.own s i) [ inl j ↦ inl j | inr its ↦ by_mark adds.1 its (among_marks at (steps_of rest) marks s i) ]
  where
    refuse : k ≡ n → new.process.start.process ≡ p → IsMarked at marks s → ⊥
    refuse machine process m = not_given_up name epoch r.given_up old.process.told.items s.by r.other marks t.answered.careful
        (old_told terms rest n p at name epoch line old marks new (subst (λ (j : ℕ). IsAsked terms rest at j line old marks new) machine t)
        before process)
        (quiet machine process) (subst (λ (w : Event). IsAmong (did s.by w) marks) r.what m.mark) r.covers

    by_mark : old.process.terms.machine ≡ k → (s.by.machine ≡ old.process.terms.machine) × (s.by.boot ≡ old.process.start.process)
        → IsAmong s (steps_of rest) ⊎ IsMarked at marks s
        → IsAmong s (steps_of rest) ⊎ ⊥
    by_mark own its (inl j) = inl j
    by_mark own its (inr m) = inr (refuse (sym own ∙ (sym its.0 ∙ r.machine)) (ap (λ (x : Start). x.process) t.answered.start
        ∙ (sym its.1 ∙ r.boot)) m)

-- ---- all moments behind it

among_right : {A : Type 0} (x : A) (xs ys : List A) → IsAmong x ys → IsAmong x (xs ++ ys)
among_right x [] ys i = i
among_right x (y ∷ xs) ys i = inr (among_right x xs ys i)

begun_along : (base newer : List Moment) (n p : ℕ) → HasBegun base n p → HasBegun (newer ++ base) n p
begun_along base newer n p h = record {
  moment = h.moment;
  among = among_right h.moment newer base h.among;
  machine = h.machine;
  numbered = h.numbered;
}

abbrev Since : List Moment → ℕ → ℕ → Name → ℕ → Type 0
Since newer n p name time = (o : Moment) → IsAmong o newer → o.machine ≡ n → process_of o ≡ p → o.at ≤ time
    → SaysNothing name (marks_of o.what)

told_along : (terms : Terms) (base : List Moment) (n p : ℕ) (name : Name) (epoch time : ℕ) → HasBegun base n p
    → IsToldSo base n p name epoch → (newer : List Moment)
    → AreProcesses terms (newer ++ base) → Since newer n p name time → last_moment (newer ++ base) ≤ time
    → IsToldSo (newer ++ base) n p name epoch
told_along terms base n p name epoch time begun so [] are since le = so
told_along terms base n p name epoch time begun so (o ∷ newer) are since le =
    told_kept terms (newer ++ base) n p name epoch o.at o.machine o.what are.2 (begun_along base newer n p begun)
    (told_along terms base n p name epoch time begun so newer are.0 (λ x i. since x (inr i)) (let before = are.1 in
    omega (arith, before, le)))
    (λ machine process. since o (inl refl) machine process le)

none_along : (terms : Terms) (base : List Moment) (n p : ℕ) (client : Client) (name : Name) (epoch time : ℕ) → HasBegun base n p
    → IsToldSo base n p name epoch
    → ((s : Step) → IsAmong s (steps_of base) → IsRelease name epoch n p client s → s.at ≤ time → ⊥) → (newer : List Moment)
    → AreProcesses terms (newer ++ base) → Since newer n p name time
    → (s : Step) → IsAmong s (steps_of (newer ++ base)) → IsRelease name epoch n p client s → s.at ≤ time → ⊥
none_along terms base n p client name epoch time begun so none [] are since s i r le = none s i r le
none_along terms base n p client name epoch time begun so none (o ∷ newer) are since s i r le =
    elim (among_marks o.at (steps_of (newer ++ base)) (marks_of o.what) s i) [
      | inl j ↦ none_along terms base n p client name epoch time begun so none newer are.0 (λ x k. since x (inr k)) s j r le
      | inr m ↦ elim (none_here terms (newer ++ base) n p client name epoch o.at o.machine o.what are.2 (stand terms (newer ++ base) are.0)
          are.1
          (told_along terms base n p name epoch time begun so newer are.0 (λ x k. since x (inr k)) (let before = are.1 in
          let then_at = m.by_then in omega (arith, before, then_at, le)))
          (λ machine process. since o (inl refl) machine process (let then_at = m.by_then in omega (arith, then_at, le))) s i r) [
            | inl j ↦ none_along terms base n p client name epoch time begun so none newer are.0 (λ x k. since x (inr k)) s j r le
            | inr bad ↦ bad
          ]
    ]

-- ---- the moment itself

steps_kept : (terms : Terms) (later kept : List Step) → AreSteps terms (later ++ kept) → AreSteps terms kept
steps_kept terms [] kept are = are
steps_kept terms (s ∷ later) kept are = steps_kept terms later kept are.0

steps_before : (terms : Terms) (steps : List Step) → AreSteps terms steps → (s : Step) → IsAmong s steps → s.at ≤ last_time steps
steps_before terms [] are s i = absurd i
steps_before terms (x ∷ past) are s (inl e) = (let same = ap (λ (y : Step). y.at) e in omega (arith, same))
steps_before terms (x ∷ past) are s (inr i) = (let rest = steps_before terms past are.0 s i in let next = are.1.time in
    omega (arith, rest, next))

last_with : (at : ℕ) (past : List Step) (marks : List Mark) → last_time past ≤ at → last_time (steps_with at past marks) ≤ at
last_with at past [] le = le
last_with at past (did by what ∷ marks) le = last_with at (record { at = at; by = by; what = what } ∷ past) marks (omega arith)
last_with at past (wrote row ∷ marks) le = last_with at past marks le

-- a `held` line behind which its moment says nothing of the name
record Word (terms : Terms) (past : List Moment) (at n : ℕ) (line : List ℕ) (old : At) (marks : List Mark) (new : At) (name : Name)
    (epoch user until : ℕ) (front back : List Mark) : Type 0 where
  pub asked : IsAsked terms past at n line old marks new
  pub parts : marks ≡ front ++ wrote (held name user epoch until) ∷ back
  pub quiet : SaysNothing name back
  pub stands : Stand terms past
  pub le : last_moment past ≤ at

abbrev moment : ℕ → ℕ → List ℕ → At → List Mark → At → Moment
moment at n line old marks new = record { at = at; machine = n; what = told line old marks new }

same_true : (n : ℕ) → (n == n) ≡ true
same_true n = eq-eqb n n refl

first_told : (terms : Terms) (past : List Moment) (at n : ℕ) (line : List ℕ) (old : At) (marks : List Mark) (new : At) (name : Name)
    (epoch : ℕ) → told_of name new.process.told.items ≡ Some epoch
    → IsToldSo (moment at n line old marks new ∷ past) n new.process.start.process name epoch
first_told terms past at n line old marks new name epoch is a there same =
    subst (λ (b : At). told_of name b.process.told.items ≡ Some epoch) (some_at new a (rw (same_true n) at there)) is

module _ {terms : Terms} {past : List Moment} {at n : ℕ} {line : List ℕ} {old : At} {marks : List Mark} {new : At} {name : Name}
    {epoch user until : ℕ} {front back : List Mark} (w : Word terms past at n line old marks new name epoch user until front back) where
  row : Row
  row = held name user epoch until

  new_told : told_of name new.process.told.items ≡ Some epoch
  unfolding row
  new_told =
      let ts = old.process.told.items in
      ap (λ (x : List Told). told_of name x) (w.asked.answered.told
      ∙ (ap (λ (ms : List Mark). told_after ts ms) w.parts ∙ told_both ts front (wrote row ∷ back)))
      ∙ (told_behind name (told_row (told_after ts front) row) back w.quiet ∙ told_now name user epoch until (told_after ts front))

  -- no release that covers it was sent by its client, before the line or behind it
  none_first : (law : HolderSentNone)
      → (it : IsHolder terms (who old.process) at (steps_with at (steps_of past) front) name epoch until)
      → AreSteps terms (steps_with at (steps_of past) marks)
      → (s : Step) → IsAmong s (steps_with at (steps_of past) marks) → IsRelease name epoch n new.process.start.process it.client s → ⊥
  unfolding row
  none_first law it are s i r = by_place (among_marks at kept back s (rw whole at i))
    where
      kept : List Step
      kept = steps_with at (steps_of past) front

      whole : steps_with at (steps_of past) marks ≡ steps_with at kept back
      whole = ap (λ (ms : List Mark). steps_with at (steps_of past) ms) w.parts ∙ steps_both at (steps_of past) front (wrote row ∷ back)

      are_kept : AreSteps terms kept
      are_kept = (let over = steps_over at kept back in steps_kept terms over.0 kept (rw (whole ∙ over.1) at are))

      no_later : last_time kept ≤ at
      no_later = last_with at (steps_of past) front (let last = w.stands.last in let le = w.le in omega (arith, last, le))

      by_place : IsAmong s kept ⊎ IsMarked at back s → ⊥
      by_place (inl j) =
          let same = it.of_epoch in
          let covers = r.covers in
          let le : it.ask.epoch ≤ r.given_up = omega (arith, covers, same) in
          let less = law terms kept are_kept name at it.client it.ask it.holds s r.other r.given_up j r.by r.what le in
          let early = steps_before terms kept are_kept s j in
          let last = no_later in absurd (omega (arith, less, early, last))
      by_place (inr m) = not_given_up name epoch r.given_up (told_row (told_after old.process.told.items front) row) s.by r.other back
          (careful_behind old.process.told.items front (wrote row ∷ back) (rw w.parts at w.asked.answered.careful))
          (told_now name user epoch until (told_after old.process.told.items front)) w.quiet (rw r.what at m.mark) r.covers

-- ---- the law

steps_along : (base newer : List Moment) → (more : List Step) × (steps_of (newer ++ base) ≡ more ++ steps_of base)
steps_along base [] = ([], refl)
steps_along base (o ∷ newer) =
    let rest = steps_along base newer in
    let over = steps_over o.at (steps_of (newer ++ base)) (marks_of o.what) in
    (over.0 ++ rest.0, over.1 ∙ (ap (λ (l : List Step). over.0 ++ l) rest.1 ∙ sym (append_assoc over.0 rest.0 (steps_of base))))

processes_kept : (terms : Terms) (newer base : List Moment) → AreProcesses terms (newer ++ base) → AreProcesses terms base
processes_kept terms [] base are = are
processes_kept terms (o ∷ newer) base are = processes_kept terms newer base are.0

word_by : HolderSentNone → (terms : Terms) (newer past : List Moment) (at n : ℕ) (what : Turned)
    → AreProcesses terms (newer ++ record { at = at; machine = n; what = what } ∷ past)
    → (name : Name) (epoch until time : ℕ) → (h : IsHeldLine (record { at = at; machine = n; what = what }) name epoch until)
    → SaysNothing name h.back
    → Since newer n (left_by what).process.start.process name time → at ≤ time
    → terms.clock n (left_by what).process.start.process time < until
    → Relies terms (newer ++ record { at = at; machine = n; what = what } ∷ past)
    (record { at = at; machine = n; what = what }) name epoch until time
word_by law terms newer past at n (begins new) are name epoch until time h quiet since le clock =
    absurd (no_marks h.front h.back (wrote (held name h.user epoch until)) h.parts)
word_by law terms newer past at n (told line old marks new) are name epoch until time h quiet since le clock = record {
  lease = lease_from terms (newer ++ base) (moment at n line old marks new) name epoch until (who old.process) kept (along.0 ++ over.0)
      (along.1 ∙ (ap (λ (l : List Step). along.0 ++ l) (whole ∙ over.1) ∙ sym (append_assoc along.0 over.0 kept))) adds.1 (sym numbered) it;
  behind = le;
  in_time = clock;
  goes_on = λ s other given_up i by what covers. by_time s (λ early. none s i by other given_up what covers early);
}
  where
    base : List Moment
    base = moment at n line old marks new ∷ past

    here_are : AreProcesses terms base
    here_are = processes_kept terms newer base are

    w : Word terms past at n line old marks new name epoch h.user until h.front h.back
    w = record { asked = here_are.2; parts = h.parts; quiet = quiet; stands = stand terms past here_are.0; le = here_are.1 }

    adds : Adds terms (who old.process) at (steps_of past) marks [] × (old.process.terms.machine ≡ n)
    adds = added terms past at n line old marks new w.stands w.le w.asked

    kept : List Step
    kept = steps_with at (steps_of past) h.front

    row : Mark
    row = wrote (held name h.user epoch until)

    it : IsHolder terms (who old.process) at kept name epoch until
    it = told_held terms (who old.process) at (steps_of past) h.front h.back name h.user epoch until
        (subst (λ (ms : List Mark). AreHeld terms (who old.process) at (steps_of past) ms) h.parts adds.0.held)

    over : (more : List Step) × (steps_with at kept (row ∷ h.back) ≡ more ++ kept)
    over = steps_over at kept (row ∷ h.back)

    along : (more : List Step) × (steps_of (newer ++ base) ≡ more ++ steps_of base)
    along = steps_along base newer

    whole : steps_with at (steps_of past) marks ≡ steps_with at kept (row ∷ h.back)
    whole = ap (λ (ms : List Mark). steps_with at (steps_of past) ms) h.parts ∙ steps_both at (steps_of past) h.front (row ∷ h.back)

    numbered : new.process.start.process ≡ old.process.start.process
    numbered = ap (λ (x : Start). x.process) w.asked.answered.start

    of_machine : (s : Step) → s.by ≡ it.client → s.by.machine ≡ n
    of_machine s by = ap (λ (c : Client). c.machine) by ∙ (it.machine ∙ adds.1)

    of_process : (s : Step) → s.by ≡ it.client → s.by.boot ≡ new.process.start.process
    of_process s by = ap (λ (c : Client). c.boot) by ∙ (it.boot ∙ sym numbered)

    none : (s : Step) → IsAmong s (steps_of (newer ++ base)) → s.by ≡ it.client → (other : Client) (given_up : ℕ)
        → s.what ≡ sends (release name other given_up) → epoch ≤ given_up
        → s.at ≤ time → ⊥
    none s i by other given_up what covers early = none_along terms base n new.process.start.process it.client name epoch time
        (record { moment = moment at n line old marks new; among = inl refl; machine = refl; numbered = refl })
        (first_told terms past at n line old marks new name epoch
        (new_told w)) (λ x j y le. none_first w law it adds.0.are x j y)
        newer are since s i
        (record {
          machine = of_machine s by;
          boot = of_process s by;
          by = by;
          other = other;
          given_up = given_up;
          what = what;
          covers = covers;
        }) early

    by_time : (s : Step) → (s.at ≤ time → ⊥) → time < s.at
    by_time s none = elim (cases_Bool (leb s.at time)) [
      | inl early ↦ absurd (none (leb-true s.at time early))
      | inr late ↦ leb-false s.at time late
    ]

pub last_word : HolderSentNone → LastWordHolds
last_word law terms all are m name epoch until time h w le clock =
    subst (λ (ms : List Moment). Relies terms ms m name epoch until time) (sym w.stands)
    (word_by law terms w.newer w.past m.at m.machine m.what (subst (λ (ms : List Moment). AreProcesses terms ms) w.stands are) name epoch
    until time h w.here
    (λ o i machine process early. w.since o i (machine, process) early) le clock)
