-- A machine that is alone, and whose user comes to hold a lease.
use Rattle.std.proofs.Common.{◌≡◌, ℕ, ◌<◌, Bool, List, [], ◌∷◌, ◌++◌, length, Option, Some, None, inl, inr, refl, sym, ◌∙◌, ap, subst}
use Rattle.std.proofs.Common.{arith}
use Rattle.std.specs.Prelude.{◌⊎◌, ◌==◌, if◌then◌else◌, codes}
use Rattle.std.proofs.lemmas.Bool.{eq-eqb}
use Rattle.line_words.specs.Lines.{lines_of}
use Rattle.lease_network.specs.Network.{Name}
use Rattle.lease_machine.specs.declared.terms.LeaseTerms.{LeaseTerms}
use Rattle.lease_session.specs.declared.process.Start.{Start}
use Rattle.lease_session.specs.declared.told.Told.{Told}
use Rattle.lease_session.specs.Feeding.{At, AreAnswered, Fed, IsNew}
use Rattle.lease_session.specs.Marks.{Mark, did, wrote}
use Rattle.lease_session.specs.Rows.{send, held, lost, refused, unserved, next, fault}
use Rattle.lease_session.specs.Steps.{IsAnswered, LinesAreSteps}
use Rattle.lease_session.specs.Telling.{told_after, without}
use Rattle.lease_processes.specs.Alone.{HasHeldLine, SomebodyHolds, true_time}
use Rattle.lease_processes.specs.Processes.{AreProcesses, Moment, begins, here, told}
use Rattle.lease_processes.proofs.Alone.{clocks, new_sound}

-- ---- who was told is told by a line

record Tells (marks : List Mark) : Type 0 where
  pub name : Name
  pub user : ℕ
  pub epoch : ℕ
  pub until : ℕ
  pub front : List Mark
  pub back : List Mark
  pub parts : marks ≡ front ++ wrote (held name user epoch until) ∷ back

behind : (mark : Mark) (marks : List Mark) → Tells marks → Tells (mark ∷ marks)
behind mark marks t =
    record {
      name = t.name;
      user = t.user;
      epoch = t.epoch;
      until = t.until;
      front = mark ∷ t.front;
      back = t.back;
      parts = ap (λ (l : List Mark). mark ∷ l) t.parts;
    }

none_of_none : (name : Name) (ts : List Told) → 0 < length (without name ts) → 0 < length ts
none_of_none name [] some = some
none_of_none name (t ∷ ts) some = omega arith

told_by : (ts : List Told) (marks : List Mark) → 0 < length (told_after ts marks) → (0 < length ts) ⊎ Tells marks
told_by ts [] some = inl some
told_by ts (did by what ∷ marks) some = elim (told_by ts marks some) [
  | inl before ↦ inl before
  | inr t ↦ inr (behind (did by what) marks t)
]
told_by ts (wrote (send to message bytes) ∷ marks) some =
    elim (told_by ts marks some) [ inl before ↦ inl before | inr t ↦ inr (behind (wrote (send to message bytes)) marks t) ]
told_by ts (wrote (held name user epoch until) ∷ marks) some =
    inr (record { name = name; user = user; epoch = epoch; until = until; front = []; back = marks; parts = refl })
told_by ts (wrote (lost name epoch) ∷ marks) some =
    elim (told_by (without name ts) marks some) [
      | inl before ↦ inl (none_of_none name ts before)
      | inr t ↦ inr (behind (wrote (lost name epoch)) marks t)
    ]
told_by ts (wrote (refused why) ∷ marks) some = elim (told_by ts marks some) [
  | inl before ↦ inl before
  | inr t ↦ inr (behind (wrote (refused why)) marks t)
]
told_by ts (wrote (unserved why name user) ∷ marks) some =
    elim (told_by ts marks some) [ inl before ↦ inl before | inr t ↦ inr (behind (wrote (unserved why name user)) marks t) ]
told_by ts (wrote (next time) ∷ marks) some = elim (told_by ts marks some) [
  | inl before ↦ inl before
  | inr t ↦ inr (behind (wrote (next time)) marks t)
]
told_by ts (wrote fault ∷ marks) some = elim (told_by ts marks some) [
  | inl before ↦ inl before
  | inr t ↦ inr (behind (wrote fault) marks t)
]

tells_line : (machine at : ℕ) (line : List ℕ) (old new : At) (marks : List Mark) → Tells marks
    → HasHeldLine (record { at = at; machine = machine; what = told line old marks new })
tells_line machine at line old new marks t =
    record {
      name = t.name;
      epoch = t.epoch;
      until = t.until;
      line = record { user = t.user; front = t.front; back = t.back; parts = t.parts };
    }

none_told : (ts : List Told) → ts ≡ [] → 0 < length ts → ⊥
none_told ts none some = absurd (omega (arith, some, ap (λ (l : List Told). length l) none))

here_is : (n : ℕ) (a : At) (o : Option At) → (if n == n then Some a else o) ≡ Some a
here_is n a o = ap (λ (b : Bool). if b then Some a else o) (eq-eqb n n refl)

-- ---- two lines

abbrev ticks : List ℕ
ticks = codes "tick 0"

abbrev asks : List ℕ
asks = codes "acquire 9000 a 1"

-- the whole lines of a text of two
two_are : (first second : List ℕ) (lines : List (List ℕ)) (rest : List ℕ) → first ∷ second ∷ [] ∷ [] ≡ lines ++ rest ∷ []
    → lines ≡ first ∷ second ∷ []
two_are first second [] rest e = absurd cc
two_are first second (a ∷ []) rest e = absurd cc
two_are first second (a ∷ b ∷ []) rest e = cc
two_are first second (a ∷ b ∷ c ∷ []) rest e = absurd cc
two_are first second (a ∷ b ∷ c ∷ d ∷ lines) rest e = absurd cc

pub somebody_holds : LinesAreSteps → {terms : LeaseTerms} {start : Start} {kept : List ℕ} (old new : At) (rest : List ℕ)
    → IsNew terms start kept old → kept ≡ []
    → Fed kept (codes "tick 0\nacquire 9000 a 1\n") rest old new → 0 < length new.process.told.items → SomebodyHolds
somebody_holds law old new rest begun none fed some = two
    (subst (λ (ls : List (List ℕ)). AreAnswered ls old new) (two_are ticks asks fed.lines rest cut) fed.answered)
  where
    cut : ticks ∷ asks ∷ [] ∷ [] ≡ fed.lines ++ rest ∷ []
    cut = ap (λ (k : List ℕ). lines_of (k ++ codes "tick 0\nacquire 9000 a 1\n")) (sym none) ∙ fed.cut

    is_new : IsNew old.process.terms old.process.start [] old
    is_new = (refl, begun.1, begun.2, begun.3, refl, refl, begun.6, begun.7)

    machine : ℕ
    machine = old.process.terms.machine

    first_moment : Moment
    first_moment = record { at = 0; machine = machine; what = begins old }

    one : List Mark → At → Moment
    one marks mid = record { at = 0; machine = machine; what = told ticks old marks mid }

    other : At → List Mark → At → Moment
    other mid marks last = record { at = 9000; machine = machine; what = told asks mid marks last }

    are : (mid last : At) (marks more : List Mark) → IsAnswered marks ticks old mid → IsAnswered more asks mid last
        → AreProcesses (true_time old.process.terms) (other mid more last ∷ one marks mid ∷ first_moment ∷ [])
    are mid last marks more first second = (
      (
        (
          tt,
          omega arith,
          record {
            is_new = is_new;
            machine = refl;
            of_terms = record { nodes = refl; keeps = refl; relies_for = refl };
            own_number = λ h. h.among;
            floor = omega arith;
          },
        ),
        omega arith,
        record {
          before = old;
          runs = here_is machine old None;
          same = refl;
          clock = refl;
          brought = λ message may. absurd may;
          answered = first;
        },
      ),
      omega arith,
      record {
        before = mid;
        runs = here_is machine mid (here (first_moment ∷ []) machine);
        same = refl;
        clock = refl;
        brought = λ message may. absurd may;
        answered = second;
      },
    )

    at_first : (mid last : At) (marks more : List Mark) → IsAnswered marks ticks old mid → IsAnswered more asks mid last → Tells marks
        → SomebodyHolds
    at_first mid last marks more first second t = record {
      terms = true_time old.process.terms;
      all = other mid more last ∷ one marks mid ∷ first_moment ∷ [];
      clocks = clocks old.process.terms;
      are = are mid last marks more first second;
      moment = one marks mid;
      among = inr (inl refl);
      holds = tells_line machine 0 ticks old mid marks t;
    }

    at_second : (mid last : At) (marks more : List Mark) → IsAnswered marks ticks old mid → IsAnswered more asks mid last → Tells more
        → SomebodyHolds
    at_second mid last marks more first second t = record {
      terms = true_time old.process.terms;
      all = other mid more last ∷ one marks mid ∷ first_moment ∷ [];
      clocks = clocks old.process.terms;
      are = are mid last marks more first second;
      moment = other mid more last;
      among = inl refl;
      holds = tells_line machine 9000 asks mid last more t;
    }

    two : AreAnswered (ticks ∷ asks ∷ []) old new → SomebodyHolds
    two (mid, a, (last, b, same)) =
        let first = law ticks old mid a (new_sound old is_new) in
        let second = law asks mid last b first.1.sound in
        let some_last : 0 < length last.process.told.items = subst (λ (x : At). 0 < length x.process.told.items) same some in
        elim (told_by mid.process.told.items second.0 (subst (λ (ts : List Told). 0 < length ts) second.1.told some_last)) [
          | inr t ↦ at_second mid last first.0 second.0 first.1 second.1 t
          | inl some_mid ↦ elim (told_by old.process.told.items first.0 (subst (λ (ts : List Told). 0 < length ts) first.1.told some_mid)) [
            | inr t ↦ at_first mid last first.0 second.0 first.1 second.1 t
            | inl some_old ↦ absurd (none_told old.process.told.items is_new.7 some_old)
          ]
        ]
