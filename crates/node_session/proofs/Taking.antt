-- Under a key a node is delivered what was opened, and the stamps of what is taken of one node rise.
use Rattle.std.proofs.Common.{◌≡◌, ◌<◌, ◌++◌, ◌==◌, ◌&&◌, inl, inr, ℕ, Bool, true, false, List, [], ◌∷◌, get_or, set, length, refl, sym, ap}
use Rattle.std.proofs.Common.{◌∙◌, subst, arith, Option, Some, None}
use Rattle.std.specs.Prelude.{bytes_eq, codes, if◌then◌else◌}
use Rattle.std.proofs.lemmas.Bool.{eqb-true, eqb-false}
use Rattle.std.proofs.lemmas.List.{get_or-set_same, get_or-set_other, length-set}
use Rattle.job_model.specs.declared.work.Work.{Work}
use Rattle.wire_msg.specs.Envelope.{Envelope}
use Rattle.wire_msg.specs.Reading.{message_of}
use Rattle.wire_msg.proofs.PublicLaws.{message_is_spelled}
use Rattle.node_core.specs.declared.event.Event.{Event}
use Rattle.node_core.specs.declared.event.Event.TheVariants as on
use Rattle.node_core.specs.declared.timer.Timer.{Timer}
use Rattle.node_core.specs.TimerWords.{timer_named}
use Rattle.line_words.specs.Words.{words_of, number_of}
use Rattle.line_words.specs.Lines.{bytes_of}
use Rattle.schedule.specs.Acts.{of_two, work_of}
use Rattle.schedule.specs.Fields.{node_of, priority_of}
use Rattle.histories.specs.NodeState.{NodeState}
use Rattle.sealed_msg.specs.declared.stamp.Stamp.{Stamp}
use Rattle.sealed_msg.specs.Stamps.{is_above}
use Rattle.node_session.specs.declared.asked.Asked.{Asked}
use Rattle.node_session.specs.declared.asked.Asked.TheVariants as ask
use Rattle.node_session.specs.Asked.{asked_of, asked_with, asked_words, delivery, loss, ticking, timing}
use Rattle.histories.specs.HistoryEvent.{event_of}
use Rattle.histories.specs.declared.history_event.HistoryEvent.TheVariants.{NoOp, Crashed}
use Rattle.node_core.specs.State.{is_down}
use Rattle.node_session.specs.Turns.{Turn, Goes, Unmounted, Begins, IsFired, MayCompact, after_turn}
use Rattle.node_words.specs.Words.{event_word}
use Rattle.node_session.specs.Chains.{LineOutcome, AreTimely, IsNone, IsOne, IsWrittenAnew, MayCome, after_turns, brought_up}
use Rattle.node_session.specs.Lines.{At, Comes, after_by, after_line, plain_answer}
use Rattle.node_session.specs.Seals.{Brought, NoBytes, Strange, Garbled, Opened, Seals, asked_brought, asked_fresh, asked_sealed}
use Rattle.node_session.specs.Seals.{asked_told, asked_under, asked_words_under, brought_bytes, brought_by, brought_message, brought_opened}
use Rattle.node_session.specs.Seals.{brought_word, is_fresh, life_of, no_stamp, opened_under, sealed_behind, taken_brought, taken_fresh}
use Rattle.node_session.specs.Seals.{taken_told, taken_under, taken_words, told_life}
use Rattle.node_session.specs.Stamping.{Climbs, Delivers, IsOpened, IsWide, OpenedAlone, TakenRises, last_by, stamp_brought, stamp_fresh}
use Rattle.node_session.specs.Stamping.{stamp_taken, stamp_worded, stamps_taken}
use Rattle.node_session.proofs.Happens.{caused}

-- ---- a line that isn't a `deliver` of one word delivers nothing

abbrev is_delivery : Asked → Bool
is_delivery (ask.Event (on.Deliver m)) = true
is_delivery asked = false

either : (b : Bool) (x y : Asked) → is_delivery x ≡ false → is_delivery y ≡ false → is_delivery (if b then x else y) ≡ false
either true x y first second = first
either false x y first second = second

read_no : {A : Type 0} (asked : A → Asked) (o : Option A) → ((x : A) → is_delivery (asked x) ≡ false)
    → is_delivery (asked_with asked o) ≡ false
read_no asked None other = refl
read_no asked (Some x) other = other x

completed_no : (origin id : Option ℕ) → is_delivery (asked_with ask.Event (of_two on.Finish origin id)) ≡ false
completed_no None id = refl
completed_no (Some origin) None = refl
completed_no (Some origin) (Some id) = refl

submitted_no : (work : Option Work) → is_delivery (asked_with (λ work. ask.Event (on.Submit work)) work) ≡ false
submitted_no work = read_no (λ (work : Work). ask.Event (on.Submit work)) work (λ work. refl)

one_no : (b : Bool) (a : List ℕ) (other : Asked) → (if b then Some a else None) ≡ None → is_delivery other ≡ false
    → is_delivery (if b then delivery a else other) ≡ false
one_no true a other none rest = absurd cc
one_no false a other none rest = rest

words_no : (words : List (List ℕ)) → brought_word words ≡ None → is_delivery (asked_words words) ≡ false
words_no [] none = refl
words_no (name ∷ []) none =
    either (bytes_eq name (codes "state")) ask.State _ refl (either (bytes_eq name (codes "jobs")) ask.Jobs _ refl
    (either (bytes_eq name (codes "compact")) ask.Compact _ refl
    (either (bytes_eq name (event_word on.Recover)) (ask.Event on.Recover) (timing name) refl
    (read_no (λ (timer : Timer). ask.Event (on.Timer timer)) (timer_named name) (λ timer. refl)))))
words_no (name ∷ a ∷ []) none =
    one_no (bytes_eq name (codes "deliver")) a _ none (either (bytes_eq name (codes "tick")) (ticking a) _
    (read_no ask.Tick (number_of a) (λ now. refl))
    (either (bytes_eq name (codes "lost")) (loss a) ask.Bad (read_no ask.Lost (node_of a) (λ node. refl)) refl))
words_no (name ∷ a ∷ b ∷ []) none =
    either (bytes_eq name (codes "submit")) _ _ (submitted_no (work_of a b (Some 0)))
    (either (bytes_eq name (codes "finish")) _ ask.Bad (completed_no (node_of a) (number_of b)) refl)
words_no (name ∷ a ∷ b ∷ c ∷ []) none = either (bytes_eq name (codes "submit")) _ ask.Bad (submitted_no (work_of a b (priority_of c))) refl
words_no (name ∷ a ∷ b ∷ c ∷ d ∷ rest) none = refl

line_no : (line : List ℕ) → brought_word (words_of line) ≡ None → is_delivery (asked_of line) ≡ false
line_no [] none = refl
line_no (c ∷ line) none = words_no (words_of (c ∷ line)) none

-- ---- one that asks for a delivery brings what was opened

opened_so : (q : Seals) (line : List ℕ) (m : Envelope) → asked_sealed q line ≡ ask.Event (on.Deliver m) → IsOpened q line m
opened_so q line m asks = by_word (brought_word (words_of line)) refl asks
  where
    by_fresh : (word bytes : List ℕ) (it : List ℕ × Stamp) (n : Envelope) (b : Bool) → brought_word (words_of line) ≡ Some word
        → bytes_of word ≡ Some bytes → opened_under q bytes ≡ Some it
        → message_of it.0 ≡ Some n → is_fresh q n it.1 ≡ b → asked_fresh b n ≡ ask.Event (on.Deliver m) → IsOpened q line m
    by_fresh word bytes it n false brought spelled opened read fresh asks = absurd cc
    by_fresh word bytes it n true brought spelled opened read fresh asks =
        let same : n ≡ m = cc in
        record {
          word = word;
          bytes = bytes;
          spelling = it.0;
          stamp = it.1;
          brought = brought;
          spelled = spelled;
          opened = opened;
          read = read ∙ ap (λ (x : Envelope). Some x) same;
          fresh = ap (λ (x : Envelope). is_fresh q x it.1) (sym same) ∙ fresh;
        }

    by_message : (word bytes : List ℕ) (it : List ℕ × Stamp) (o : Option Envelope) → brought_word (words_of line) ≡ Some word
        → bytes_of word ≡ Some bytes → opened_under q bytes ≡ Some it
        → message_of it.0 ≡ o → asked_brought q (brought_message o it.1) ≡ ask.Event (on.Deliver m) → IsOpened q line m
    by_message word bytes it None brought spelled opened read asks = absurd cc
    by_message word bytes it (Some n) brought spelled opened read asks =
        by_fresh word bytes it n (is_fresh q n it.1) brought spelled opened read refl asks

    by_opened : (word bytes : List ℕ) (o : Option (List ℕ × Stamp)) → brought_word (words_of line) ≡ Some word → bytes_of word ≡ Some bytes
        → opened_under q bytes ≡ o
        → asked_brought q (brought_opened o) ≡ ask.Event (on.Deliver m) → IsOpened q line m
    by_opened word bytes None brought spelled opened asks = absurd cc
    by_opened word bytes (Some it) brought spelled opened asks = by_message word bytes it (message_of it.0) brought spelled opened refl asks

    by_bytes : (word : List ℕ) (o : Option (List ℕ)) → brought_word (words_of line) ≡ Some word → bytes_of word ≡ o
        → asked_brought q (brought_bytes q o) ≡ ask.Event (on.Deliver m) → IsOpened q line m
    by_bytes word None brought spelled asks = absurd cc
    by_bytes word (Some bytes) brought spelled asks = by_opened word bytes (opened_under q bytes) brought spelled refl asks

    by_told : (o : Option (ℕ × List ℕ)) → brought_word (words_of line) ≡ None → asked_told line o ≡ ask.Event (on.Deliver m)
        → IsOpened q line m
    by_told None none asks = absurd (let bad : false ≡ true = sym (line_no line none) ∙ ap is_delivery asks in cc)
    by_told (Some it) none asks = absurd cc

    by_word : (o : Option (List ℕ)) → brought_word (words_of line) ≡ o → asked_words_under q line o ≡ ask.Event (on.Deliver m)
        → IsOpened q line m
    by_word None none asks = by_told (told_life line) none asks
    by_word (Some word) brought asks = by_bytes word (bytes_of word) brought refl asks

none_delivers : (m : Envelope) (turns : List Turn) → IsNone turns → Delivers m turns → ⊥
none_delivers m [] none delivers = delivers
none_delivers m (turn ∷ turns) none delivers = none

fired_no : (event : Event) (m : Envelope) → IsFired event → event ≡ on.Deliver m → ⊥
fired_no (on.Timer timer) m fired is = absurd cc
fired_no on.Recover m fired is = absurd cc
fired_no event m fired is = fired

timely_delivers : (self nodes slots : ℕ) (m : Envelope) (turns : List Turn) (s : NodeState) → AreTimely self nodes slots s turns
    → Delivers m turns → ⊥
timely_delivers self nodes slots m [] s may delivers = delivers
timely_delivers self nodes slots m (turn ∷ turns) s may (inl is) =
    fired_no may.0.event m may.0.fired (let same : Some may.0.event ≡ Some (on.Deliver m) =
    caused self nodes slots s may.0.event turn may.0.may ∙ is in cc)
timely_delivers self nodes slots m (turn ∷ turns) s may (inr later) =
    timely_delivers self nodes slots m turns (after_turn self nodes s turn) may.1 later

compacts_no : (self nodes slots : ℕ) (s : NodeState) (m : Envelope) (turns : List Turn) → IsOne (MayCompact self nodes slots s) turns
    → Delivers m turns → ⊥
compacts_no self nodes slots s m [] may delivers = delivers
compacts_no self nodes slots s m (Goes (NoOp rest) ∷ []) may (inl is) =
    absurd (let bad : event_of (NoOp rest) ≡ Some (on.Deliver m) = is in cc)
compacts_no self nodes slots s m (Goes Crashed ∷ []) may (inl is) = absurd (let bad : event_of Crashed ≡ Some (on.Deliver m) = is in cc)
compacts_no self nodes slots s m (Goes what ∷ []) may (inl is) = may.0
compacts_no self nodes slots s m (Unmounted fault ∷ []) may delivers = may
compacts_no self nodes slots s m (Begins mounted what ∷ []) may delivers = may
compacts_no self nodes slots s m (turn ∷ []) may (inr none) = none
compacts_no self nodes slots s m (turn ∷ next ∷ turns) may delivers = may

anew_no : (self nodes slots : ℕ) (b : Bool) (s : NodeState) (m : Envelope) (turns : List Turn) → IsWrittenAnew b self nodes slots s turns
    → Delivers m turns → ⊥
anew_no self nodes slots true s m turns may delivers = compacts_no self nodes slots s m turns may delivers
anew_no self nodes slots false s m turns may delivers = none_delivers m turns may delivers

asked_delivers : (self nodes slots : ℕ) (s : NodeState) (a : Asked) (m : Envelope) (turns : List Turn) → MayCome self nodes slots s a turns
    → Delivers m turns → a ≡ ask.Event (on.Deliver m)
asked_delivers self nodes slots s (ask.Event event) m [] may delivers = absurd may
asked_delivers self nodes slots s (ask.Event event) m (turn ∷ turns) may (inl is) =
    (let same : Some event ≡ Some (on.Deliver m) = caused self nodes slots s event turn may.0 ∙ is in cc)
asked_delivers self nodes slots s (ask.Event event) m (turn ∷ turns) may (inr later) =
    absurd (anew_no self nodes slots (brought_up (is_down s.state.phase) (is_down (after_turn self nodes s turn).state.phase))
    (after_turn self nodes s turn) m turns may.1 later)
asked_delivers self nodes slots s ask.Compact m turns may delivers = absurd (compacts_no self nodes slots s m turns may delivers)
asked_delivers self nodes slots s (ask.Tick now) m turns may delivers = absurd (timely_delivers self nodes slots m turns s may delivers)
asked_delivers self nodes slots s (ask.Lost id) m turns may delivers = absurd (timely_delivers self nodes slots m turns s may delivers)
asked_delivers self nodes slots s asked m turns may delivers = absurd (none_delivers m turns may delivers)

comes_opened : (self nodes slots : ℕ) (b : Bool) (s : NodeState) (line : List ℕ) (seal : Option Seals) (came : LineOutcome) (q : Seals)
    (m : Envelope) → seal ≡ Some q
    → Comes self nodes slots b s (asked_under seal line) came → Delivers m came.turns → IsOpened q line m
comes_opened self nodes slots true s line seal came q m is comes delivers = absurd (none_delivers m came.turns comes delivers)
comes_opened self nodes slots false s line seal came q m is comes delivers =
    opened_so q line m (ap (λ (o : Option Seals). asked_under o line) (sym is)
    ∙ asked_delivers self nodes slots s (asked_under seal line) m came.turns comes.0 delivers)

pub opened_alone : OpenedAlone
opened_alone self nodes slots a line came q m is comes delivers =
    comes_opened self nodes slots a.stopped a.state line a.seal came q m is comes delivers

-- ---- what is taken of one node rises

-- the stamps that a line adds, and the stamp that is kept goes
record Adds (sender : ℕ) (q after : Seals) (stamps : List Stamp) : Type 0 where
  pub wide : length after.last ≡ 128
  pub climbs : (later : List Stamp) → Climbs (get_or after.last sender no_stamp) later
      → Climbs (get_or q.last sender no_stamp) (stamps ++ later)

adds_none : (sender : ℕ) (q : Seals) → length q.last ≡ 128 → Adds sender q q []
adds_none sender q wide = record { wide = wide; climbs = λ later climbs. climbs }

adds_taken : (sender : ℕ) (q : Seals) (m : Envelope) (stamp : Stamp) (fresh own : Bool) → length q.last ≡ 128 → m.sender < 128
    → is_fresh q m stamp ≡ fresh → (m.sender == sender) ≡ own
    → Adds sender q (taken_fresh fresh q m stamp) (stamp_fresh (fresh && own) stamp)
adds_taken sender q m stamp false own wide within is by = adds_none sender q wide
adds_taken sender q m stamp true true wide within is by = record {
  wide = length-set q.last m.sender stamp ∙ wide;
  climbs = λ later climbs. (let same : m.sender ≡ sender = eqb-true m.sender sender by in
      let kept : get_or (set q.last m.sender stamp) sender no_stamp ≡ stamp =
      ap (λ (n : ℕ). get_or (set q.last m.sender stamp) n no_stamp) (sym same)
      ∙ get_or-set_same q.last m.sender stamp no_stamp (omega (arith, within, wide)) in
      (ap (λ (n : ℕ). is_above stamp (get_or q.last n no_stamp)) (sym same) ∙ is, subst (λ (x : Stamp). Climbs x later) kept climbs));
}
adds_taken sender q m stamp true false wide within is by = record {
  wide = length-set q.last m.sender stamp ∙ wide;
  climbs = λ later climbs. subst (λ (x : Stamp). Climbs x later)
      (get_or-set_other q.last m.sender sender stamp no_stamp (λ same. eqb-false m.sender sender by (sym same))) climbs;
}

adds_brought : (sender : ℕ) (q : Seals) (brought : Brought) → length q.last ≡ 128
    → ((m : Envelope) (stamp : Stamp) → brought ≡ Opened m stamp → m.sender < 128)
    → Adds sender q (taken_brought q brought) (stamp_brought sender q brought)
adds_brought sender q NoBytes wide within = adds_none sender q wide
adds_brought sender q Strange wide within = adds_none sender q wide
adds_brought sender q Garbled wide within = adds_none sender q wide
adds_brought sender q (Opened m stamp) wide within = adds_taken sender q m stamp (is_fresh q m stamp)
    (m.sender == sender) wide (within m stamp refl) refl refl

-- a message's sender is one of so many
sender_within : (q : Seals) (word : List ℕ) (m : Envelope) (stamp : Stamp) → brought_by q word ≡ Opened m stamp → m.sender < 128
sender_within q word m stamp is = by_bytes (bytes_of word) is
  where
    by_message : (spelling : List ℕ) (s : Stamp) (o : Option Envelope) → message_of spelling ≡ o → brought_message o s ≡ Opened m stamp
        → m.sender < 128
    by_message spelling s None read is = absurd cc
    by_message spelling s (Some n) read is =
        let same : n ≡ m = cc in
        subst (λ (x : Envelope). x.sender < 128) same (message_is_spelled spelling n read).message.sender

    by_opened : (o : Option (List ℕ × Stamp)) → brought_opened o ≡ Opened m stamp → m.sender < 128
    by_opened None is = absurd cc
    by_opened (Some it) is = by_message it.0 it.1 (message_of it.0) refl is

    by_bytes : (o : Option (List ℕ)) → brought_bytes q o ≡ Opened m stamp → m.sender < 128
    by_bytes None is = absurd cc
    by_bytes (Some bytes) is = by_opened (opened_under q bytes) is

adds_told : (sender : ℕ) (q : Seals) (o : Option (ℕ × List ℕ)) → length q.last ≡ 128 → Adds sender q (taken_told q o) []
adds_told sender q None wide = adds_none sender q wide
adds_told sender q (Some it) wide = record { wide = wide; climbs = λ later climbs. climbs }

adds_word : (sender : ℕ) (q : Seals) (line : List ℕ) (o : Option (List ℕ)) → length q.last ≡ 128
    → Adds sender q (taken_words q line o) (stamp_worded sender q o)
adds_word sender q line None wide = adds_told sender q (told_life line) wide
adds_word sender q line (Some word) wide = adds_brought sender q (brought_by q word) wide (λ m stamp is. sender_within q word m stamp is)

-- what is sealed goes changes no stamp that is kept
seal_rises : (sender : ℕ) (line : List ℕ) (life : Option ℕ) (plain : List ℕ) (seal : Option Seals) (later : List Stamp) → IsWide seal
    → (IsWide (sealed_behind (taken_under seal line) life plain)
    → Climbs (last_by sender (sealed_behind (taken_under seal line) life plain)) later)
    → Climbs (last_by sender seal) (stamp_taken sender false seal line ++ later)
seal_rises sender line life plain None later wide goes = goes tt
seal_rises sender line life plain (Some q) later wide goes =
    (let adds = adds_word sender q line (brought_word (words_of line)) wide in adds.climbs later (goes adds.wide))

line_rises : (sender self nodes : ℕ) (b : Bool) (a : At) (line : List ℕ) (came : LineOutcome) (later : List Stamp) → IsWide a.seal
    → (IsWide (after_by self nodes b a line came).seal → Climbs (last_by sender (after_by self nodes b a line came).seal) later)
    → Climbs (last_by sender a.seal) (stamp_taken sender b a.seal line ++ later)
line_rises sender self nodes true a line came later wide goes = goes wide
line_rises sender self nodes false a line came later wide goes =
    seal_rises sender line (life_of (after_turns self nodes a.state came.turns))
    (plain_answer self nodes a (asked_under a.seal line) came) a.seal later wide goes

pub taken_rises : TakenRises
taken_rises sender self nodes a [] all wide = tt
taken_rises sender self nodes a (line ∷ lines) [] wide = tt
taken_rises sender self nodes a (line ∷ lines) (came ∷ all) wide =
    line_rises sender self nodes a.stopped a line came (stamps_taken sender self nodes (after_line self nodes a line came) lines all) wide
    (λ wide'. taken_rises sender self nodes (after_line self nodes a line came) lines all wide')
