-- Lines that are answered, one after another.
use Rattle.std.proofs.Common.{◌≡◌, ℕ, List, [], ◌∷◌, ◌++◌, Bool, true, false, refl, sym, ap, ◌∙◌, subst, append_assoc, append-nil, length}
use Rattle.std.proofs.Common.{take, drop, ◌+◌, None, Option, Result, Ok, Err}
use Rattle.std.proofs.Math.Seq.{take-append_seam, drop-append_seam}
use Rattle.std.specs.Prelude.{All, OnOk, IfSome}
use Rattle.std.proofs.lemmas.List.Elements.{All-append, All-nil}
use Rattle.sector_disk.specs.Disk.{DiskState}
use Rattle.node_store.specs.Store.{slots_for}
use Rattle.durable_node.specs.Node.{Stands}
use Rattle.histories.specs.NodeState.{NodeState}
use Rattle.wire_msg.specs.Envelope.{Envelope}
use Rattle.wire_msg.specs.Spelling.{IsMessage}
use Rattle.node_session.specs.declared.asked.Asked.{Asked}
use Rattle.node_session.specs.declared.asked.Asked.TheVariants as ask
use Rattle.node_session.specs.Seals.{Seals, asked_under, life_of, sealed_behind, taken_under, written}
use Rattle.node_core.specs.declared.event.Event.{Event}
use Rattle.node_core.specs.State.{State, is_down}
use Rattle.node_session.specs.Turns.{CallEnd, Turn, MayCompact}
use Rattle.node_timers.specs.Retransmission.{Waits, sent_again, waits_on}
use Rattle.node_session.specs.Chains.{LineOutcome, ComesAndEnds, IsAtOnce, behind_end, step_end, MayCome, IsTold, IsToldBy, after_turns}
use Rattle.node_session.specs.Chains.{is_failed, line_end, next, waits_begun, waits_turns}
use Rattle.node_session.specs.Lines.{At, AreOf, Comes, after_by, after_asked, after_lines, answer_by, answers, plain_answer, written_answer}
use Rattle.node_session.specs.Text.{answer, answer_at_once, closing, event_closing, fired_news, keeps_news, next_line, send_lines}
use Rattle.node_session.specs.Text.{turns_text, no_news}
use Rattle.node_session.specs.Serving.{Progress, Called, Calls, IsNodeOf, Replies, Served, Serves, Turns, at_of}
use Rattle.node_session.specs.Timing.{Timers, AreTimedIn, Fires, GivesUp, IsTimed, IsTimedBy, IsToldNext, Nothing, Timely, heard, told_time}
use Rattle.node_session.proofs.Calls.{at_node, node_refl, node_then, one_call}
use Rattle.node_session.specs.Exact.{AreCallsIn, AreCallsOf}
use Rattle.node_session.specs.Sending.{AreMessagesIn, again as sent_first, handed_by, sent_turns}
use Rattle.node_session.proofs.Lines.{of_both, after_both, calls_both, going_both, answers_both, messages_both, timed_both}

both_texts : (a b c x y : List ℕ) → b ≡ a ++ x → c ≡ b ++ y → c ≡ a ++ (x ++ y)
both_texts a b c x y first second = second ∙ (ap (λ (t : List ℕ). t ++ y) first ∙ append_assoc a x y)

-- lines behind lines
pub serves_then : {Disk : Type 0} (disks : Disk → DiskState) (Between : ℕ → NodeState → Timers → Timers → Type 0)
    (then : (self : ℕ) (s : NodeState) (x y z : Timers) → Between self s x y → Between self s y z → Between self s x z)
    (old mid new : Progress Disk) (ls ms : List (List ℕ)) → Serves disks Between old mid ls → Serves disks Between mid new ms
    → Serves disks Between old new (ls ++ ms)
serves_then {Disk} disks Between then old mid new ls ms a b = record {
  node = node_then disks old.node mid.node new.node a.node b.node;
  served = λ was s is stands. (let d = a.node.disk was is in
      let x = a.served was s is stands in
      let y = at_node (λ i n. Served disks Between mid new i n ms d.now x.state) old.node mid.node a.node.id a.node.nodes
      (b.served d.now x.state d.is x.stands) in
      let id = old.node.id in
      let nodes = old.node.nodes in
      let start = at_of old s in
      let between = after_lines id nodes start ls x.all in
      let came : AreOf id nodes (slots_for (disks was).sectors) between ms y.all =
      subst (λ (n : ℕ). AreOf id nodes (slots_for n) between ms y.all) d.sectors
      (subst (λ (t : At). AreOf id nodes (slots_for (disks d.now).sectors) t ms y.all) x.left y.came) in
      let left : at_of new y.state ≡ after_lines id nodes between ms y.all = y.left
      ∙ ap (λ (t : At). after_lines id nodes t ms y.all) x.left in
      let text : new.text ≡ mid.text ++ answers id nodes between ms y.all = y.text
      ∙ ap (λ (t : At). mid.text ++ answers id nodes t ms y.all) x.left in
      record {
        all = x.all ++ y.all;
        came = of_both id nodes (slots_for (disks was).sectors) start ls ms x.all y.all x.came came;
        exact = calls_both disks id nodes (slots_for (disks was).sectors) start ls ms x.all y.all old.node mid.node new.node x.came x.exact
            (subst (λ (t : At). AreCallsIn disks id nodes t ms y.all mid.node new.node) x.left y.exact);
        timed = timed_both Between then id nodes (slots_for (disks was).sectors) start ls ms x.all y.all old.timers mid.timers new.timers
            x.came x.timed (subst (λ (t : At). AreTimedIn Between id nodes t ms y.all mid.timers new.timers) x.left y.timed);
        messages = messages_both id nodes (slots_for (disks was).sectors) start ls ms x.all y.all x.came x.messages
            (subst (λ (t : At). AreMessagesIn id nodes t ms y.all) x.left y.messages);
        honest = λ honest. going_both x.all y.all (x.honest honest) (y.honest (d.honest ∙ honest));
        state = y.state;
        stands = y.stands;
        left = left ∙ sym (after_both id nodes (slots_for (disks was).sectors) start ls ms x.all y.all x.came);
        text = both_texts old.text mid.text new.text _ _ x.text text
            ∙ ap (λ (t : List ℕ). old.text ++ t) (sym (answers_both id nodes (slots_for (disks was).sectors) start ls ms x.all y.all
            x.came));
      });
}

-- no line
pub serves_none : {Disk : Type 0} (disks : Disk → DiskState) (p : Progress Disk) → Serves disks Nothing p p []
serves_none disks p = record {
  node = node_refl disks p.node;
  served = λ was s is stands. record {
    all = [];
    came = tt;
    exact = refl;
    timed = refl;
    messages = tt;
    honest = λ honest. tt;
    state =
        s;
    stands = stands;
    left = refl;
    text = sym (append-nil p.text);
  };
}

-- a line behind the last one that is answered
pub stopped_line : {Disk : Type 0} (disks : Disk → DiskState) (p : Progress Disk) (line : List ℕ) → p.stopped ≡ true
    → Serves disks Nothing p p (line ∷ [])
stopped_line disks p line stopped = record {
  node = node_refl disks p.node;
  served = λ was s is stands. (let none : LineOutcome = record { turns = []; due = None } in
      record {
        all = none ∷ [];
        came = (
          subst (λ (b : Bool). Comes p.node.id p.node.nodes (slots_for (disks was).sectors) b s (asked_under p.seal line) none)
              (sym stopped) tt,
          tt,
        );
        exact = (p.node, refl, refl);
        timed = (
          p.timers,
          p.timers,
          refl,
          subst (λ (b : Bool). IsTimedBy p.node.id p.node.nodes b (at_of p s) (asked_under p.seal line)
              none p.timers p.timers) (sym stopped) refl,
          refl,
        );
        messages = (
          subst (λ (b : Bool). All IsMessage (handed_by p.node.id p.node.nodes b (at_of p s) (asked_under p.seal line) none))
              (sym stopped) (All-nil IsMessage),
          tt,
        );
        honest = λ honest. (tt, tt);
        state = s;
        stands = stands;
        left = subst (λ (b : Bool). at_of p s ≡ after_by p.node.id p.node.nodes b (at_of p s) line none) (sym stopped) refl;
        text = subst (λ (b : Bool). p.text ≡ p.text ++ (answer_by p.node.id p.node.nodes b (at_of p s) line none ++ [])) (sym stopped)
            (sym (append-nil p.text));
      });
}

-- ---- a line that is answered, once its messages are sealed

-- the state that the replies left, by their parts
at_so : {Disk : Type 0} (new : Progress Disk) (t : NodeState) (stopped : Bool) (count : ℕ) (waits : Waits) (seal : Option Seals)
    → new.stopped ≡ stopped → new.count ≡ count → new.waits ≡ waits → new.seal ≡ seal
    → at_of new t ≡ record { stopped = stopped; count = count; state = t; waits = waits; seal = seal }
at_so new t stopped count waits seal a b c d =
    ap (λ (x : Bool). record { stopped = x; count = new.count; state = t; waits = new.waits; seal = new.seal }) a
    ∙ (ap (λ (x : ℕ). record { stopped = stopped; count = x; state = t; waits = new.waits; seal = new.seal }) b
    ∙ (ap (λ (x : Waits). record { stopped = stopped; count = count; state = t; waits = x; seal = new.seal }) c
    ∙ ap (λ (x : Option Seals). record { stopped = stopped; count = count; state = t; waits = waits; seal = x }) d))

-- an answer behind a text is sealed from that text's end on
tail_written : (front plain text : List ℕ) (start : ℕ) (seal seal' : Option Seals) (life : Option ℕ) → start ≡ length front
    → text ≡ front ++ plain → seal' ≡ seal
    → (take start text ++ written seal' life (drop start text) ≡ front ++ written seal life plain)
    × (sealed_behind seal' life (drop start text) ≡ sealed_behind seal life plain)
tail_written front plain text start seal seal' life starts is same =
    let before : take start text ≡ front = ap (λ (n : ℕ). take n text) starts
    ∙ (ap (λ (x : List ℕ). take (length front) x) is ∙ take-append_seam front plain) in
    let behind : drop start text ≡ plain = ap (λ (n : ℕ). drop n text) starts
    ∙ (ap (λ (x : List ℕ). drop (length front) x) is ∙ drop-append_seam front plain) in (
      ap (λ (x : List ℕ). x ++ written seal' life (drop start text)) before
          ∙ (ap (λ (x : List ℕ). front ++ written seal' life x) behind ∙ ap (λ (q : Option Seals). front ++ written q life plain) same),
      ap (λ (x : List ℕ). sealed_behind seal' life x) behind ∙ ap (λ (q : Option Seals). sealed_behind q life plain) same,
    )

-- the text was sealed from this place on
pub record IsSealed {Disk : Type 0} (disks : Disk → DiskState) (start : ℕ) (mid new : Progress Disk) : Type 0 where
  pub same : new ≡ record mid { text = new.text; seal = new.seal }
  pub text : (t : NodeState) → Stands disks mid.node t → new.text ≡ take start mid.text ++ written mid.seal (life_of t)
      (drop start mid.text)
  pub seal : (t : NodeState) → Stands disks mid.node t → new.seal ≡ sealed_behind mid.seal (life_of t) (drop start mid.text)

sealed_so : {Disk : Type 0} (disks : Disk → DiskState) (old mid new : Progress Disk) (line : List ℕ) (start : ℕ) → old.stopped ≡ false
    → start ≡ length old.text
    → Replies disks (record old { seal = taken_under old.seal line }) mid (asked_under old.seal line) → IsSealed disks start mid new
    → Serves disks Nothing old new (line ∷ [])
sealed_so {Disk} disks old mid new line start runs starts replies sealing = record {
  node = subst (λ n. IsNodeOf disks old.node n) (sym (ap (λ p. p.node) sealing.same)) replies.node;
  served = λ was s is stands. (let x = replies.replied was s is stands in
      let id = old.node.id in
      let nodes = old.node.nodes in
      let slots = slots_for (disks was).sectors in
      let a = at_of old s in
      let asked = asked_under old.seal line in
      let taken = taken_under old.seal line in
      let came : LineOutcome = record { turns = x.turns; due = x.due } in
      let t = after_turns id nodes s x.turns in
      let plain = plain_answer id nodes a asked came in
      let tail = tail_written old.text plain mid.text start taken mid.seal (life_of t) starts x.text replies.seal in
      let left : at_of new t ≡ after_asked id nodes a asked taken came =
      at_so new t (is_failed (line_end id nodes s x.turns)) (next old.count asked)
      (waits_turns id nodes s x.turns (waits_begun asked old.waits)) (sealed_behind taken (life_of t) plain)
      (ap (λ p. p.stopped) sealing.same ∙ x.stopped) (ap (λ p. p.count) sealing.same ∙ x.count) (ap (λ p. p.waits) sealing.same ∙ x.waits)
      (sealing.seal t x.stands ∙ tail.1) in
      let text : new.text ≡ old.text ++ (written_answer id nodes a asked taken came ++ []) =
      sealing.text t x.stands ∙ (tail.0 ∙ ap (λ (u : List ℕ). old.text
      ++ u) (sym (append-nil (written_answer id nodes a asked taken came)))) in
      record {
        all = came ∷ [];
        came = (subst (λ (b : Bool). Comes id nodes slots b s asked came) (sym runs) (x.may, x.told), tt);
        exact = (new.node, subst (λ n. AreCallsOf disks id nodes s x.turns old.node n) (sym (ap (λ p. p.node) sealing.same)) x.exact, refl);
        timed = (
          old.timers,
          mid.timers,
          refl,
          subst (λ (b : Bool). IsTimedBy id nodes b a asked came old.timers mid.timers) (sym runs)
              x.timed,
          ap (λ p. p.timers) sealing.same,
        );
        messages = (subst (λ (b : Bool). All IsMessage (handed_by id nodes b a asked came)) (sym runs) x.messages, tt);
        honest = λ honest. (x.honest honest, tt);
        state = t;
        stands = subst (λ n. Stands disks n t) (sym (ap (λ p. p.node) sealing.same)) x.stands;
        left = subst (λ (b : Bool). at_of new t ≡ after_by id nodes b a line came) (sym runs) left;
        text = subst (λ (b : Bool). new.text ≡ old.text ++ (answer_by id nodes b a line came ++ [])) (sym runs) text;
      });
}

-- as the code does it: the line is read, answered, and the answer sealed
pub sealed_line : {Disk : Type 0} (disks : Disk → DiskState) (old read mid new : Progress Disk) (line : List ℕ) (asked : Asked) (start : ℕ)
    → old.stopped ≡ false → asked ≡ asked_under old.seal line
    → read ≡ record old { seal = taken_under old.seal line } → start ≡ length read.text → Replies disks read mid asked
    → IsSealed disks start mid new → Serves disks Nothing old new (line ∷ [])
sealed_line {Disk} disks old read mid new line asked start runs asks reads starts replies sealing =
    sealed_so disks old mid new line start runs (starts ∙ ap (λ (p : Progress Disk). length p.text) reads)
    (subst (λ (a : Asked). Replies disks (record old { seal = taken_under old.seal line }) mid a) asks
    (subst (λ (p : Progress Disk). Replies disks p mid asked) reads replies)) sealing

-- how the answer to calls ends, at a node that stands for this, and what the answer is then
abbrev IsClosed : {Disk : Type 0} (disks : Disk → DiskState) (mid : Progress Disk) (close : NodeState → List ℕ) (text : List ℕ) → Type 0
IsClosed {Disk} disks mid close text = (t : NodeState) → Stands disks mid.node t → text ≡ mid.text ++ close t

abbrev Answers : (heading : Turn → List ℕ) (May : ℕ → ℕ → ℕ → NodeState → List Turn → Type 0) (number : ℕ) (w : Waits) (a : Asked)
    (again : List ℕ) (ended : CallEnd) (due : Option ℕ) (close : NodeState → List ℕ) → Type 0
Answers heading May number w a again ended due close =
    (self nodes slots : ℕ) (s : NodeState) (turns : List Turn) → May self nodes slots s turns → ended ≡ line_end self nodes s turns
    → answer self nodes number s w a (record { turns = turns; due = due })
    ≡ again ++ (turns_text heading self nodes s turns ++ close (after_turns self nodes s turns))

-- what came of the calls may come of what is asked
abbrev Gives : (May : ℕ → ℕ → ℕ → NodeState → List Turn → Type 0) (a : Asked) → Type 0
Gives May a = (self nodes slots : ℕ) (s : NodeState) (turns : List Turn) → May self nodes slots s turns → MayCome self nodes slots s a turns

-- what is told of a node that stands for this
abbrev Tells : {Disk : Type 0} (disks : Disk → DiskState) (mid : Progress Disk) (a : Asked) (due : Option ℕ) → Type 0
Tells {Disk} disks mid a due = (t : NodeState) → Stands disks mid.node t → IsTold a t due

-- by what the code sees
pub tells : {Disk : Type 0} (disks : Disk → DiskState) (mid seen : Progress Disk) (now : ℕ) (due : Option ℕ) → mid ≡ seen
    → IsToldBy (is_down seen.node.state.phase) due
    → Tells disks mid (ask.Tick now) due
tells disks mid seen now due is told = λ t stands. subst (λ (s : State). IsToldBy (is_down s.phase) due)
    (sym (ap (λ p. p.node.state) is) ∙ stands.state) told

pub tells_next : {Disk : Type 0} (disks : Disk → DiskState) (mid seen : Progress Disk) (now : ℕ) (due : Option ℕ) → mid ≡ seen
    → ((t : NodeState) → Stands disks seen.node t → IfSome due (IsToldNext seen.node.id t seen.waits seen.timers now)) → (t : NodeState)
    → Stands disks mid.node t → IfSome due (IsToldNext mid.node.id t mid.waits mid.timers now)
tells_next {Disk} disks mid seen now due is told = subst (λ (p : Progress Disk). (t : NodeState) → Stands disks p.node t
    → IfSome due (IsToldNext p.node.id t p.waits p.timers now)) (sym is) told

-- what the calls of a line did to the timers of a node that waits for these messages
abbrev Times : {Disk : Type 0} (disks : Disk → DiskState) (old mid : Progress Disk) (May : ℕ → ℕ → ℕ → NodeState → List Turn → Type 0)
    (a : Asked) (due : Option ℕ) → Type 0
Times {Disk} disks old mid May a due =
    (slots : ℕ) (s : NodeState) (turns : List Turn) → May old.node.id old.node.nodes slots s turns
    → Stands disks mid.node (after_turns old.node.id old.node.nodes s turns) → mid.node.id ≡ old.node.id
    → mid.waits ≡ waits_turns old.node.id old.node.nodes s turns (waits_begun a old.waits)
    → IsTimed old.node.id old.node.nodes s old.waits a (record { turns = turns; due = due }) old.timers mid.timers

-- a line of which calls came, behind what was sent again
called_line : {Disk : Type 0} (disks : Disk → DiskState) (old here mid : Progress Disk) (heading : Turn → List ℕ)
    (May : ℕ → ℕ → ℕ → NodeState → List Turn → Type 0) (a : Asked) (number : ℕ) (again : List ℕ) (ended : CallEnd) (due : Option ℕ)
    (close : NodeState → List ℕ) (begun text : List ℕ) (told : Timers)
    → next old.count a ≡ old.count + 1 → number ≡ old.count + 1
    → begun ≡ old.text ++ again → here ≡ record old { count = number; text = begun; waits = waits_begun a old.waits; timers = told }
    → Gives May a → Calls disks here mid heading May (Ok None) ended
    → IsClosed disks mid close text → Tells disks mid a due → Times disks old mid May a due
    → Answers heading May number old.waits a again ended due close → All IsMessage (sent_first a old.waits)
    → Replies disks old (record mid { stopped = is_failed ended; text = text }) a
called_line {Disk} disks old here mid heading May a number again ended due close begun text timers one counts begins is gives calls said
    told times closes fits =
    let same : here.node ≡ old.node = ap (λ p. p.node) is in
    let counted : mid.count ≡ old.count + 1 = ap (λ (p : Progress Disk). p.count) calls.same ∙ (ap (λ p. p.count) is ∙ counts) in
    record {
      node = subst (λ n. IsNodeOf disks n mid.node) same calls.node;
      seal = ap (λ (p : Progress Disk). p.seal) calls.same ∙ ap (λ p. p.seal) is;
      replied = λ was s at stands. (let x = subst (λ n. Called disks here mid n.id n.nodes heading May (Ok None) ended was s) same
          (calls.called was s (ap (λ n. n.disk) same ∙ at) (subst (λ n. Stands disks n s) (sym same) stands)) in
          let t = after_turns old.node.id old.node.nodes s x.turns in
          let turns_said = turns_text heading old.node.id old.node.nodes s x.turns in
          record {
            turns = x.turns;
            due = due;
            told = told t x.stands;
            may = gives old.node.id old.node.nodes (slots_for (disks was).sectors) s x.turns x.may;
            exact = subst (λ n. AreCallsOf disks old.node.id old.node.nodes s x.turns n mid.node) same x.exact;
            timed = times (slots_for (disks was).sectors) s x.turns x.may x.stands (calls.node.id ∙ ap (λ n. n.id) same)
                (x.waits ∙ ap (λ p. waits_turns old.node.id old.node.nodes s x.turns p.waits) is);
            messages = All-append IsMessage (sent_first a old.waits) (sent_turns old.node.id old.node.nodes s x.turns) fits x.messages;
            honest = x.honest;
            stands = x.stands;
            stopped = ap is_failed x.ended_so;
            count = counted ∙ sym one;
            text = both_texts old.text begun text again (turns_said ++ close t) begins
                (both_texts begun mid.text text turns_said (close t) (x.text ∙ ap (λ p. p.text ++ turns_said) is) (said t x.stands))
                ∙ ap (λ (u : List ℕ). old.text ++ u) (sym (ap (λ (n : ℕ).
                answer old.node.id old.node.nodes n s old.waits a (record { turns = x.turns; due = due })) (one ∙ sym counts)
                ∙ closes old.node.id old.node.nodes (slots_for (disks was).sectors) s x.turns x.may x.ended_so));
            waits = x.waits ∙ ap (λ p. waits_turns old.node.id old.node.nodes s x.turns p.waits) is;
          });
    }

-- as the code does it: the call, the mark of a device that failed, and the closing line
called_so : {Disk : Type 0} (disks : Disk → DiskState) (old here mid stop : Progress Disk) (heading : Turn → List ℕ)
    (May : ℕ → ℕ → ℕ → NodeState → List Turn → Type 0) (a : Asked) (number : ℕ) (again : List ℕ) (ended : CallEnd) (due : Option ℕ)
    (close : NodeState → List ℕ) (begun text : List ℕ) (told : Timers)
    → next old.count a ≡ old.count + 1 → number ≡ old.count + 1
    → begun ≡ old.text ++ again → here ≡ record old { count = number; text = begun; waits = waits_begun a old.waits; timers = told }
    → Gives May a → Calls disks here mid heading May (Ok None) ended
    → stop ≡ record mid { stopped = is_failed ended } → IsClosed disks stop close text → Tells disks stop a due
    → Times disks old stop May a due → Answers heading May number old.waits a again ended due close
    → All IsMessage (sent_first a old.waits) → Replies disks old (record stop { text = text }) a
called_so {Disk} disks old here mid stop heading May a number again ended due close begun text timers one counts begins is gives calls
    marked said told times closes fits =
    subst (λ (p : Progress Disk). Replies disks old (record p { text = text }) a) (sym marked)
    (called_line disks old here mid heading May a number again ended due close begun text timers one counts begins is gives calls
    (subst (λ (p : Progress Disk). IsClosed disks p close text) marked said)
    (subst (λ (p : Progress Disk). Tells disks p a due) marked told)
    (subst (λ (p : Progress Disk). Times disks old p May a due) marked times) closes fits)

-- the request is counted, and the timers are told of it
pub told_so : {Disk : Type 0} (old p : Progress Disk) (number : ℕ) (told : Timers) (tell : Timers → Timers)
    → p ≡ record old { count = number } → told ≡ tell p.timers
    → record p { timers = told } ≡ record old { count = number; timers = tell old.timers }
told_so {Disk} old p number told tell is tells =
    ap (λ (q : Progress Disk). record q { timers = told }) is
    ∙ ap (λ (t : Timers). record old { count = number; timers = t }) (tells ∙ ap (λ (q : Progress Disk). tell q.timers) is)

pub event_line : {Disk : Type 0} (disks : Disk → DiskState) (old here mid stop : Progress Disk) (event : Event) (number : ℕ)
    (step last ended : CallEnd) (kept text : List ℕ)
    → number ≡ old.count + 1 → here ≡ record old { count = number; timers = heard event old.timers } → mid.timers ≡ here.timers
    → Calls disks here mid no_news (ComesAndEnds event step) (Ok None) last
    → stop ≡ record mid { stopped = is_failed last } → ended ≡ behind_end step last
    → ((t : NodeState) → Stands disks stop.node t → kept ≡ stop.text ++ keeps_news event ended t)
    → text ≡ kept ++ event_closing number event ended → Replies disks old (record stop { text = text }) (ask.Event event)
event_line disks old here mid stop event number step last ended kept text counts is stays calls marked ends keeps said =
    called_so disks old here mid stop no_news (ComesAndEnds event step)
    (ask.Event event) number [] last None (λ t. keeps_news event ended t
    ++ event_closing number event ended) old.text text (heard event old.timers) refl counts
    (sym (append-nil old.text)) is (λ self nodes slots s turns made. made.0) calls marked
    (λ t stands. both_texts stop.text kept text (keeps_news event ended t) (event_closing number event ended) (keeps t stands) said)
    (λ t stands. refl) (λ slots s turns made stands id waits. ap (λ p. p.timers) marked ∙ (stays ∙ ap (λ p. p.timers) is))
    (λ self nodes slots s turns made so.
    ap (λ (e : CallEnd). turns_text no_news self nodes s turns
    ++ (keeps_news event e (after_turns self nodes s turns) ++ event_closing number event e))
    (sym (ends ∙ (ap (λ (e : CallEnd). behind_end e last) made.1
    ∙ ap (λ (e : CallEnd). behind_end (step_end self nodes s turns) e) so)))) (All-nil IsMessage)

pub compact_line : {Disk : Type 0} (disks : Disk → DiskState) (old here mid stop : Progress Disk) (number : ℕ) (ended : CallEnd)
    (text : List ℕ)
    → number ≡ old.count + 1 → here ≡ record old { count = number } → Turns disks here mid MayCompact ended
    → stop ≡ record mid { stopped = is_failed ended } → text ≡ stop.text ++ closing number ended
    → Replies disks old (record stop { text = text }) ask.Compact
compact_line disks old here mid stop number ended text counts is turns marked said =
    called_so disks old here mid stop no_news (λ i n slots s turns. MayCome i n slots s ask.Compact turns) ask.Compact number [] ended None
    (λ t. closing number ended) old.text text old.timers refl counts (sym (append-nil old.text)) is
    (λ self nodes slots s turns may. may) (one_call disks here mid MayCompact (Ok None) ended turns) marked (λ t stands. said)
    (λ t stands. refl) (λ slots s ts may stands id waits. ap (λ p. p.timers) marked
    ∙ (ap (λ p. p.timers) turns.same ∙ ap (λ p. p.timers) is))
    (λ self nodes slots s turns may so. ap (λ (e : CallEnd). turns_text no_news self nodes s turns ++ closing number e) (sym so))
    (All-nil IsMessage)

-- the times that the timers were told, and what is told of them
tick_times : {Disk : Type 0} (disks : Disk → DiskState) (old here stop : Progress Disk) (now : ℕ) (due : Option ℕ)
    → here.waits ≡ waits_on now old.waits → here.timers ≡ told_time now old.timers
    → ((t : NodeState) → Stands disks stop.node t → IfSome due (IsToldNext stop.node.id t stop.waits stop.timers now))
    → Times disks old stop (Timely (Fires here.waits here.timers stop.timers)) (ask.Tick now) due
tick_times disks old here stop now due waited told next = λ slots s turns may stands id waits. (
  subst (λ (w : Waits). Fires w (told_time now old.timers) stop.timers old.node.id old.node.nodes s turns) waited
      (subst (λ (t : Timers). Fires here.waits t stop.timers old.node.id old.node.nodes s turns) told may.1),
  subst (λ (w : Waits). IfSome due (IsToldNext old.node.id (after_turns old.node.id old.node.nodes s turns) w stop.timers now)) waits
      (subst (λ (n : ℕ). IfSome due (IsToldNext n (after_turns old.node.id old.node.nodes s turns) stop.waits stop.timers now)) id
      (next (after_turns old.node.id old.node.nodes s turns) stands)),
)

pub tick_line : {Disk : Type 0} (disks : Disk → DiskState) (old first here mid stop : Progress Disk) (now number : ℕ) (ended : CallEnd)
    (due : Option ℕ) (told text : List ℕ)
    → number ≡ old.count + 1 → first ≡ record old { count = number; timers = told_time now old.timers }
    → here ≡ record first { text = first.text ++ send_lines (sent_again now first.waits); waits = waits_on now first.waits }
    → All IsMessage (sent_again now first.waits)
    → Calls disks here mid fired_news (Timely (Fires here.waits here.timers mid.timers)) (Ok None) ended
    → stop ≡ record mid { stopped = is_failed ended } → Tells disks stop (ask.Tick now) due
    → ((t : NodeState) → Stands disks stop.node t → IfSome due (IsToldNext stop.node.id t stop.waits stop.timers now))
    → told ≡ stop.text ++ next_line due → text ≡ told ++ closing number ended
    → Replies disks old (record stop { text = text }) (ask.Tick now)
tick_line {Disk} disks old first here mid stop now number ended due told text counts is sends fits calls marked tells says names said =
    let begun : here ≡ record old {
      count = number;
      text = old.text ++ send_lines (sent_again now old.waits);
      waits =
          waits_on now old.waits;
      timers = told_time now old.timers;
    } =
    sends ∙ ap (λ (p : Progress Disk). record p { text = p.text ++ send_lines (sent_again now p.waits); waits = waits_on now p.waits }) is
    in
    called_so disks old here mid stop fired_news (Timely (Fires here.waits here.timers mid.timers))
    (ask.Tick now) number (send_lines (sent_again now old.waits)) ended due (λ t. next_line due ++ closing number ended)
    (old.text ++ send_lines (sent_again now old.waits)) text (told_time now old.timers) refl counts refl
    begun (λ self nodes slots s turns may. may.0) calls marked (λ t stands.
    both_texts stop.text told text (next_line due) (closing number ended) names said) tells
    (subst (λ (t : Timers). Times disks old stop (Timely (Fires here.waits here.timers t)) (ask.Tick now) due)
    (ap (λ (p : Progress Disk). p.timers) marked)
    (tick_times disks old here stop now due (ap (λ (p : Progress Disk). p.waits) begun) (ap (λ (p : Progress Disk). p.timers) begun) says))
    (λ self nodes slots s turns may so. ap (λ (e : CallEnd). send_lines (sent_again now old.waits)
    ++ (turns_text fired_news self nodes s turns ++ (next_line due ++ closing number e))) (sym so))
    (subst (λ (p : Progress Disk). All IsMessage (sent_again now p.waits)) is fits)

pub loss_line : {Disk : Type 0} (disks : Disk → DiskState) (old here mid stop : Progress Disk) (node number : ℕ) (ended : CallEnd)
    (text : List ℕ)
    → number ≡ old.count + 1 → here ≡ record old { count = number }
    → Calls disks here mid fired_news (Timely (GivesUp node here.timers mid.timers)) (Ok None) ended
    → stop ≡ record mid { stopped = is_failed ended } → text ≡ stop.text ++ closing number ended
    → Replies disks old (record stop { text = text }) (ask.Lost node)
loss_line {Disk} disks old here mid stop node number ended text counts is calls marked said =
    called_so disks old here mid stop fired_news (Timely (GivesUp node here.timers mid.timers))
    (ask.Lost node) number [] ended None (λ t. closing number ended) old.text text old.timers refl counts (sym (append-nil old.text)) is
    (λ self nodes slots s turns may. may.0) calls marked (λ t stands. said) (λ t stands. refl)
    (λ slots s turns may stands id waits. subst (λ (t : Timers). GivesUp node old.timers t old.node.id old.node.nodes s turns)
    (sym (ap (λ (p : Progress Disk). p.timers) marked))
    (subst (λ (t : Timers). GivesUp node t mid.timers old.node.id old.node.nodes s turns) (ap (λ (p : Progress Disk). p.timers) is) may.1))
    (λ self nodes slots s turns may so. ap (λ (e : CallEnd). turns_text fired_news self nodes s turns ++ closing number e) (sym so))
    (All-nil IsMessage)

-- a line that asks nothing of the node but what it knows
pub quiet_line : {Disk : Type 0} (disks : Disk → DiskState) (old new : Progress Disk) (a : Asked) → old.stopped ≡ false
    → ((self nodes slots : ℕ) (s : NodeState) → MayCome self nodes slots s a [] × IsTold a s None)
    → ((self nodes : ℕ) (s : NodeState) (w : Waits) (t : Timers) → IsTimed self nodes s w a (record { turns = []; due = None }) t t)
    → new.timers ≡ old.timers
    → new.node ≡ old.node → new.stopped ≡ false → new.count ≡ next old.count a → new.waits ≡ waits_begun a old.waits → new.seal ≡ old.seal
    → sent_first a old.waits ≡ []
    → ((s : NodeState) → Stands disks old.node s → new.text ≡ old.text
    ++ answer old.node.id old.node.nodes (next old.count a) s old.waits a (record { turns = []; due = None }))
    → Replies disks old new a
quiet_line {Disk} disks old new a runs may stays timers same goes count waits seal none text = record {
  node = subst (λ n. IsNodeOf disks old.node n) (sym same) (node_refl disks old.node);
  seal = seal;
  replied = λ was s at stands. record {
    turns = [];
    due = None;
    told = (may old.node.id old.node.nodes (slots_for (disks was).sectors) s).1;
    may = (may old.node.id old.node.nodes (slots_for (disks was).sectors) s).0;
    exact = same;
    timed = subst (λ (t : Timers). IsTimed old.node.id old.node.nodes s old.waits a (record { turns = []; due = None }) old.timers t)
        (sym timers) (stays old.node.id old.node.nodes s old.waits old.timers);
    messages = subst (λ (ms : List Envelope). All IsMessage (ms ++ [])) (sym none) (All-nil IsMessage);
    honest = λ honest. tt;
    stands = subst (λ n. Stands disks n s) (sym same) stands;
    stopped = goes;
    count = count;
    text = text s stands;
    waits = waits;
  };
}

-- ---- as the code does it, behind the counting of the request

pub on_ok : {T E P Q : Type 0} (r : Result T E) → (P → Q) → OnOk r P → OnOk r Q
on_ok (Ok x) f h = f h
on_ok (Err e) f h = tt

-- what is so of a request that makes no call
record MakesNone (a : Asked) : Type 0 where
  pub may : (self nodes slots : ℕ) (s : NodeState) → MayCome self nodes slots s a [] × IsTold a s None
  pub timed : (self nodes : ℕ) (s : NodeState) (w : Waits) (t : Timers) → IsTimed self nodes s w a (record { turns = []; due = None }) t t
  pub counts : (n : ℕ) → next n a ≡ n + 1
  pub waits : (w : Waits) → waits_begun a w ≡ w
  pub none : (w : Waits) → sent_first a w ≡ []
  pub answer : (self nodes n : ℕ) (s : NodeState) (w : Waits) (came : LineOutcome) → answer self nodes n s w a came ≡ answer_at_once n s a

makes_none : (a : Asked) → IsAtOnce a → MakesNone a
makes_none ask.State once = record {
  may = λ self nodes slots s. (tt, refl);
  timed = λ self nodes s w t. refl;
  counts = λ n. refl;
  waits =
      λ w. refl;
  none = λ w. refl;
  answer = λ self nodes n s w came. refl;
}
makes_none ask.Jobs once = record {
  may = λ self nodes slots s. (tt, refl);
  timed = λ self nodes s w t. refl;
  counts = λ n. refl;
  waits =
      λ w. refl;
  none = λ w. refl;
  answer = λ self nodes n s w came. refl;
}
makes_none ask.Bad once = record {
  may = λ self nodes slots s. (tt, refl);
  timed = λ self nodes s w t. refl;
  counts = λ n. refl;
  waits =
      λ w. refl;
  none = λ w. refl;
  answer = λ self nodes n s w came. refl;
}
makes_none (ask.Refused why) once = record {
  may = λ self nodes slots s. (tt, refl);
  timed = λ self nodes s w t. refl;
  counts =
      λ n. refl;
  waits = λ w. refl;
  none = λ w. refl;
  answer = λ self nodes n s w came. refl;
}
makes_none a once = absurd once

pub at_once : {Disk : Type 0} (disks : Disk → DiskState) (old here : Progress Disk) (a : Asked) (number : ℕ) (text : List ℕ)
    → old.stopped ≡ false → IsAtOnce a → number ≡ old.count + 1
    → here ≡ record old { count = number } → ((s : NodeState) → Stands disks here.node s → text ≡ here.text ++ answer_at_once number s a)
    → Replies disks old (record here { text = text }) a
at_once disks old here a number text runs once counts is said =
    let none = makes_none a once in
    let numbered : number ≡ next old.count a = counts ∙ sym (none.counts old.count) in
    quiet_line disks old (record here { text = text }) a runs none.may none.timed (ap (λ p. p.timers) is) (ap (λ p. p.node) is)
    (ap (λ p. p.stopped) is ∙ runs) (ap (λ p. p.count) is ∙ numbered) (ap (λ p. p.waits) is ∙ sym (none.waits old.waits))
    (ap (λ p. p.seal) is) (none.none old.waits)
    (λ s stands. said s (subst (λ n. Stands disks n s) (sym (ap (λ p. p.node) is)) stands)
    ∙ (ap (λ p. p.text ++ answer_at_once number s a) is
    ∙ ap (λ (t : List ℕ). old.text ++ t) (ap (λ (n : ℕ). answer_at_once n s a) numbered
    ∙ sym (none.answer old.node.id old.node.nodes (next old.count a) s old.waits (record { turns = []; due = None })))))

pub all_ok : {T E A Q : Type 0} {S P : A → Type 0} (r : Result T E) → ((x : A) → S x → OnOk r (P x)) → (((x : A) → S x → P x) → Q)
    → OnOk r Q
all_ok (Ok y) said so = so said
all_ok (Err e) said so = tt

-- an empty line
pub nothing_line : {Disk : Type 0} (disks : Disk → DiskState) (old : Progress Disk) → old.stopped ≡ false
    → Replies disks old old ask.Nothing
nothing_line disks old runs = quiet_line disks old old ask.Nothing runs (λ self nodes slots s. (tt, refl))
    (λ self nodes s w t. refl) refl refl runs refl refl refl refl (λ s stands. sym (append-nil old.text))

pub sealed_ok : {Disk T E Q : Type 0} (disks : Disk → DiskState) (start : ℕ) (mid new : Progress Disk) (r : Result T E)
    → new ≡ record mid { text = new.text; seal = new.seal }
    → ((t : NodeState) → Stands disks mid.node t → OnOk r (new.text
    ≡ take start mid.text ++ written mid.seal (life_of t) (drop start mid.text)))
    → ((t : NodeState) → Stands disks mid.node t → OnOk r (new.seal ≡ sealed_behind mid.seal (life_of t) (drop start mid.text)))
    → (IsSealed disks start mid new → Q) → OnOk r Q
sealed_ok disks start mid new (Ok x) same text seal so = so (record { same = same; text = text; seal = seal })
sealed_ok disks start mid new (Err e) same text seal so = tt
