-- Answers to lines, as steps over a network.
use Rattle.std.proofs.Common.{◌≡◌, ℕ, ◌≤◌, Bool, true, false, List, [], ◌∷◌, ◌++◌, Option, Some, None, refl, sym, ◌∙◌, ap, subst}
use Rattle.std.proofs.Common.{append_assoc, arith}
use Rattle.std.specs.Prelude.{◌&&◌, ◌^◌, leb, ltb}
use Rattle.std.proofs.lemmas.List.{append-nil}
use Rattle.line_words.specs.Lines.{bytes_of}
use Rattle.lease_runs.specs.Lists.{IsAmong}
use Rattle.lease_network.specs.Network.{Message, Step, Terms, Machine, machines}
use Rattle.lease_machine.specs.declared.state.LeaseMachine.{LeaseMachine}
use Rattle.lease_steps.specs.Laws.{StandsOn}
use Rattle.lease_session.specs.declared.asked.Came.{Came}
use Rattle.lease_session.specs.declared.asked.Came.TheVariants as came
use Rattle.lease_session.specs.declared.process.LeaseProcess.{LeaseProcess}
use Rattle.lease_session.specs.declared.refusing.Halt.{Halt}
use Rattle.lease_session.specs.declared.refusing.Halt.TheVariants.{Device, NoMemory}
use Rattle.lease_session.specs.declared.refusing.Refusal.{Refusal as Refused}
use Rattle.lease_session.specs.declared.refusing.Refusal.TheVariants as why
use Rattle.lease_session.specs.Feeding.{AnswersBy, At, IsReserved}
use Rattle.lease_session.specs.Lines.{Comes, ComesBy, ComesOf, DeliversBy, DeliversIt, IsEnded, IsHalted, Refuses, brought_by, goes_on}
use Rattle.lease_session.specs.Lines.{last_row}
use Rattle.lease_session.specs.Opening.{BringsBy}
use Rattle.lease_session.specs.Reading.{Meaning, Bad, Tick, Deliver, Acquire, Release, meaning_of}
use Rattle.lease_session.specs.Rows.{refused, row_text}
use Rattle.lease_session.specs.Steps.{IsAnswered, IsDelivered, IsSound, LinesAreSteps, MayCome, TellsTime, WasSentIn, steps_with}
use Rattle.lease_session.specs.Marks.{Mark, wrote}
use Rattle.lease_session.specs.Turns.{Who, who, IsAt, IsStill, Stood, Tells, Turn, key_of}
use Rattle.lease_session.proofs.Steps.{go, turn_goes_on}
use Rattle.lease_session.specs.Telling.{told_row}
use Rattle.lease_session.specs.declared.told.Told.{Told}
use Rattle.lease_session.specs.Holding.{AreHoldersTold}
use Rattle.lease_session.proofs.Turns.{holders_still, is_at_same, quiet_of, then, written}

-- ---- the line that ends an answer

pub still_ended : {due : Option ℕ} {stops : Bool} (b c : LeaseProcess) → IsEnded due stops b c → IsStill b c
still_ended b c e = record {
  machine = ap (λ (p : LeaseProcess). p.machine) e.same;
  terms = ap (λ (p : LeaseProcess). p.terms) e.same;
  start = ap (λ (p : LeaseProcess). p.start) e.same;
  key = ap (λ (p : LeaseProcess). key_of p.seal) e.same;
  told = ap (λ (p : LeaseProcess). p.told) e.same;
}

tells_last : (stops : Bool) (due : Option ℕ) (terms : Terms) (w : Who) (at : ℕ) (m : Machine) (sent : List Message)
    → Tells terms w at m sent (last_row stops due)
tells_last true due terms w at m sent = tt
tells_last false due terms w at m sent = tt

-- it tells users nothing
told_last : (stops : Bool) (due : Option ℕ) (ts : List Told) → told_row ts (last_row stops due) ≡ ts
told_last true due ts = refl
told_last false due ts = refl

halt_ended : {due : Option ℕ} {stops : Bool} (b c : LeaseProcess) → IsEnded due stops b c → c.halt ≡ b.halt
halt_ended b c e = ap (λ (p : LeaseProcess). p.halt) e.same

not_out : (stops : Bool) (halt : Option Halt) → IsHalted stops halt → halt ≡ Some NoMemory → ⊥
not_out true halt is out = absurd (let bad : Some Device ≡ Some NoMemory = sym is ∙ out in cc)
not_out false halt is out = absurd (let bad : None ≡ Some NoMemory = sym is ∙ out in cc)

pub ended_turn : {brought : List Message} {now : ℕ} {due : Option ℕ} {stops : Bool} (a b c : LeaseProcess) → Turn [] brought now a b
    → IsEnded due stops b c → Turn [] brought now a c
ended_turn {due = due} {stops = stops} a b c t e =
    then t (written (last_row stops due) (quiet_of (still_ended b c e)) (λ out. halt_ended b c e ∙ out) (λ none. sym (halt_ended b c e)
    ∙ none) e.text (ap (λ t. t.items) (still_ended b c e).told
    ∙ sym (told_last stops due b.told.items)) (told_last stops due b.told.items) (λ terms at m clock is.
    tells_last stops due terms (who b) at m []))

sound_by : (stops : Bool) (b c : LeaseProcess) → IsHalted stops b.halt → c.halt ≡ b.halt → stops ≡ false → c.halt ≡ None
sound_by true b c is same off = absurd cc
sound_by false b c is same off = same ∙ is

-- ---- time that passes

at_later : StandsOn → (terms : Terms) (told now : ℕ) (p : LeaseProcess) (m : Machine) → told ≤ now → IsAt terms told p m
    → IsAt terms now p m
at_later later terms told now p m less is = by_machine p.machine is
  where
    by_machine : (o : Option LeaseMachine) → Stood p.terms p.start o terms told m → Stood p.terms p.start o terms now m
    by_machine None before = before
    by_machine (Some x) stands = later x told now terms m less stands

told_before : (told now : ℕ) → goes_on told now ≡ true → told ≤ now
told_before told now on = by_parts (leb told now) (ltb now (2 ^ 62)) refl on
  where
    of_leb : leb told now ≡ true → told ≤ now
    of_leb is = grind (arith, is)

    by_parts : (a b : Bool) → leb told now ≡ a → (a && b) ≡ true → told ≤ now
    by_parts true b is both = of_leb is
    by_parts false b is both = absurd cc

-- ---- one line

-- there are marks of the answer
abbrev Marked : List ℕ → At → At → Type 0
Marked line old new = (marks : List Mark) × IsAnswered marks line old new

-- what is reserved behind the line, and who was told of its lease before
abbrev IsKept : At → At → Type 0
IsKept old new = IsReserved new × AreHoldersTold old.process.machine old.process.told.items

-- what is known of a line of this meaning, wherever it may be answered
abbrev Given : List ℕ → At → Meaning → Type 0
Given line old meaning = (terms : Terms) (at : ℕ) (past : List Step) → MayCome terms at past line old
    → TellsTime (terms.clock old.process.terms.machine old.process.start.process at) meaning × IsDelivered past old.process meaning

abbrev WasBrought : List ℕ → At → ℕ → List Message → Type 0
WasBrought line old now brought = (terms : Terms) (at : ℕ) (past : List Step) → MayCome terms at past line old
    → (terms.clock old.process.terms.machine old.process.start.process at ≡ now)
    × ((message : Message) → IsAmong message brought → WasSentIn past message)

turned : {due : Option ℕ} (later : StandsOn) (now : ℕ) (brought : List Message) (line : List ℕ) (old new : At) (behind : LeaseProcess)
    → IsKept old new → old.told ≤ now → WasBrought line old now brought
    → Turn [] brought now old.process behind → new.told ≡ now → IsEnded due new.stopped behind new.process → Marked line old new
turned later now brought line old new behind within less given t then_now e =
    let whole = ended_turn old.process behind new.process t e in (
      whole.marks,
      record {
        text = whole.text (λ out. not_out new.stopped behind.halt e.halted (sym (halt_ended behind new.process e) ∙ out));
        terms = whole.terms;
        start = whole.start;
        key = whole.key;
        told = whole.told (λ out. not_out new.stopped behind.halt e.halted (sym (halt_ended behind new.process e) ∙ out));
        careful = whole.careful (λ out. not_out new.stopped behind.halt e.halted (sym (halt_ended behind new.process e) ∙ out));
        sound = record {
          goes_on = λ off. sound_by new.stopped behind new.process e.halted (halt_ended behind new.process e) off;
          reserved = within.0;
          holders = λ none. whole.holders none within.1;
        };
        goes = λ terms at past m.
            let g = given terms at past m in
            let added = turn_goes_on terms at now past brought old.process new.process whole g.0 m.are m.last m.runs g.1
            (at_later later terms old.told now old.process (machines terms past old.process.terms.machine) less m.stands) in (
              added.0,
              subst (λ (time : ℕ). IsAt terms time new.process
                  (machines terms (steps_with at past whole.marks) old.process.terms.machine)) (sym then_now) added.1,
            );
      },
    )

refuses : {due : Option ℕ} (reason : Refused) (line : List ℕ) (old new : At) (behind : LeaseProcess) → IsKept old new
    → old.process.halt ≡ None
    → Refuses reason old.told new.told old.process behind → IsEnded due new.stopped behind new.process → Marked line old new
refuses {due = due} reason line old new behind within going r e =
    let rows : List Mark = wrote (refused reason) ∷ wrote (last_row new.stopped due) ∷ [] in
    let last = still_ended behind new.process e in
    let says = r.2 going (λ out. not_out new.stopped behind.halt e.halted out) in (
      rows,
      record {
        text = e.text ∙ (ap (λ (t : List ℕ). t ++ row_text (last_row new.stopped due)) says.1
            ∙ (append_assoc old.process.text.items (row_text (refused reason)) (row_text (last_row new.stopped due))
            ∙ ap (λ (t : List ℕ). old.process.text.items ++ (row_text (refused reason) ++ t))
            (sym (append-nil (row_text (last_row new.stopped due))))));
        terms = last.terms ∙ r.0.terms;
        start = last.start ∙ r.0.start;
        key = last.key ∙ r.0.key;
        told = ap (λ t. t.items) last.told ∙ (ap (λ t. t.items) r.0.told ∙ sym (told_last new.stopped due old.process.told.items));
        careful = tt;
        sound = record {
          goes_on = λ off. sound_by new.stopped behind new.process e.halted (halt_ended behind new.process e) off;
          reserved = within.0;
          holders = λ none. holders_still behind new.process last.machine (ap (λ t. t.items) last.told)
              (holders_still old.process behind r.0.machine (ap (λ t. t.items) r.0.told) within.1);
        };
        goes = λ terms at past m.
            let here = machines terms past old.process.terms.machine in (
              go terms (who old.process) at past [] [] rows m.are m.last m.runs (λ x i. absurd i) (λ x i. absurd i)
                  (tt, (tells_last new.stopped due terms (who old.process) at here [], tt)),
              subst (λ (time : ℕ). IsAt terms time new.process here) (sym r.1)
                  (is_at_same behind new.process terms old.told here last (is_at_same old.process behind terms old.told here r.0 m.stands)),
            );
      },
    )

timed : {due : Option ℕ} (later : StandsOn) (now : ℕ) (line : List ℕ) (old new : At) (behind : LeaseProcess) → IsKept old new
    → old.process.halt ≡ None → WasBrought line old now []
    → Comes now [] old.told new.told old.process behind → IsEnded due new.stopped behind new.process → Marked line old new
timed later now line old new behind within going given came e = by_time (goes_on old.told now) refl came
  where
    by_time : (b : Bool) → goes_on old.told now ≡ b → ComesBy b now [] old.told new.told old.process behind → Marked line old new
    by_time true on c = turned later now [] line old new behind within (told_before old.told now on) given c.0 c.1 e
    by_time false off c = refuses why.Time line old new behind within going c e

-- the message that came was sent, if one came
was_brought : (past : List Step) (p : LeaseProcess) (now : ℕ) (word : List ℕ) (it : Came) → IsDelivered past p (Deliver now word)
    → BringsBy p.seal (bytes_of word) (Some it)
    → (x : Message) → IsAmong x (brought_by it) → WasSentIn past x
was_brought past p now word came.Nothing had brings x i = absurd i
was_brought past p now word (came.Message message) had brings x i = had message brings x i
was_brought past p now word (came.Unsealed why) had brings x i = absurd i
was_brought past p now word (came.Acquire name user) had brings x i = absurd i
was_brought past p now word (came.Release name user) had brings x i = absurd i

delivered : {due : Option ℕ} (later : StandsOn) (now : ℕ) (word line : List ℕ) (old new : At) (behind : LeaseProcess) → IsKept old new
    → old.process.halt ≡ None → Given line old (Deliver now word)
    → ComesOf (Deliver now word) old.told new.told old.process behind → IsEnded due new.stopped behind new.process → Marked line old new
delivered later now word line old new behind within going given came e = by_time (goes_on old.told now) refl came
  where
    by_brought : (it : Option Came) → old.told ≤ now → BringsBy old.process.seal (bytes_of word) it
        → DeliversIt it now old.told new.told old.process behind → Marked line old new
    by_brought None less brings c = refuses why.Bad line old new behind within going c e
    by_brought (Some it) less brings c =
        turned later now (brought_by it) line old new behind within less (λ terms at past m. (let g = given terms at past m in
        (g.0, was_brought past old.process now word it g.1 brings))) c.0 c.1 e

    by_time : (b : Bool) → goes_on old.told now ≡ b → DeliversBy b now word old.told new.told old.process behind → Marked line old new
    by_time true on c = let d = c (λ out. not_out new.stopped behind.halt e.halted out) in
        by_brought d.0 (told_before old.told now on) d.1 d.2
    by_time false off c = refuses why.Time line old new behind within going c e

-- a line that brings nothing
brings_none : (line : List ℕ) (old : At) (now : ℕ) (meaning : Meaning) → ((time : ℕ) → TellsTime time meaning → time ≡ now)
    → Given line old meaning → WasBrought line old now []
brings_none line old now meaning tells given =
    λ terms at past m. (
      tells (terms.clock old.process.terms.machine old.process.start.process at) (given terms at past m).0,
      λ message i. absurd i,
    )

by_meaning : {due : Option ℕ} (later : StandsOn) (line : List ℕ) (old new : At) (behind : LeaseProcess) (meaning : Meaning) → IsKept old new
    → old.process.halt ≡ None → Given line old meaning
    → ComesOf meaning old.told new.told old.process behind → IsEnded due new.stopped behind new.process → Marked line old new
by_meaning later line old new behind Bad within going given came e = refuses why.Bad line old new behind within going came e
by_meaning later line old new behind (Tick now) within going given came e =
    timed later now line old new behind within going (brings_none line old now (Tick now) (λ time t. t) given) came e
by_meaning later line old new behind (Deliver now word) within going given came e =
    delivered later now word line old new behind within going given came e
by_meaning later line old new behind (Acquire now name user) within going given came e =
    timed later now line old new behind within going (brings_none line old now (Acquire now name user) (λ time t. t) given) came.0 e
by_meaning later line old new behind (Release now name user) within going given came e =
    timed later now line old new behind within going (brings_none line old now (Release now name user) (λ time t. t) given) came.0 e

-- nothing is answered
silent : (line : List ℕ) (old new : At) → new ≡ old → IsSound old → Marked line old new
silent line old new same sound = subst (λ (b : At). Marked line old b) (sym same) (
  [],
  record {
    text = sym (append-nil old.process.text.items);
    terms = refl;
    start = refl;
    key = refl;
    told = refl;
    careful = tt;
    sound = sound;
    goes = λ terms at past m. (
      go terms (who old.process) at past [] [] [] m.are m.last m.runs (λ x i. absurd i) (λ x i. absurd i) tt,
      m.stands,
    );
  },
)

pub lines : StandsOn → LinesAreSteps
lines later line old new answers sound = by_stopped old.stopped refl line answers (λ terms at past m. (m.clock, m.brought))
  where
    by_stopped : (b : Bool) → old.stopped ≡ b → (line : List ℕ) → AnswersBy b line old new → Given line old (meaning_of line)
        → Marked line old new
    by_stopped true is line same given = silent line old new same sound
    by_stopped false is [] same given = silent [] old new same sound
    by_stopped false is (c ∷ line) a given = by_meaning later (c ∷ line) old new a.behind (meaning_of (c ∷ line))
        (a.reserved, sound.holders (sound.goes_on is)) (sound.goes_on is) given a.came a.ended
