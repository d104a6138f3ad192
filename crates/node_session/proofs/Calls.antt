-- Calls of the node, one behind another.
use Rattle.std.proofs.Common.{◌≡◌, ℕ, List, [], ◌∷◌, ◌++◌, Bool, true, false, None, Some, refl, sym, ap, ◌∙◌, subst, append_assoc}
use Rattle.std.proofs.Common.{append-nil, Result, Ok, Err}
use Rattle.std.specs.Prelude.{All, IfOk}
use Rattle.std.proofs.lemmas.List.Elements.{All-append, All-nil}
use Rattle.sector_disk.specs.Disk.{DiskState}
use Rattle.wire_msg.specs.Envelope.{Envelope}
use Rattle.wire_msg.specs.Spelling.{IsMessage}
use Rattle.node_core.specs.declared.event.Event.{Event}
use Rattle.node_store.specs.Store.{slots_for}
use Rattle.durable_node.specs.Node.{Node, Stands}
use Rattle.histories.specs.NodeState.{NodeState}
use Rattle.node_session.proofs.Happens.{caused}
use Rattle.node_core.specs.State.{State, is_down}
use Rattle.node_session.specs.Turns.{CallEnd, Turn, after_turn, cause, end_of, sent_in, IsFired, IsTimely, IsGoing, MayComeOf, MayCompact}
use Rattle.node_timers.specs.Retransmission.{Waits}
use Rattle.node_session.specs.Chains.{AreGoing, AreTimely, ComesAndEnds, IsOne, IsWrittenAnew, brought_up, after_turns, last_end}
use Rattle.node_session.specs.Chains.{waits_turn, waits_turns}
use Rattle.node_session.specs.Text.{fired_by, fired_line, fired_news, turn_text, turns_text, no_news}
use Rattle.node_session.specs.Exact.{IsCallOf, AreCallsOf}
use Rattle.node_session.specs.Sending.{sent_turns}
use Rattle.node_session.specs.Serving.{Progress, IsNodeOf, Turned, Turns, Calls}
use Rattle.node_session.specs.Timing.{Timers, Timely}

-- ---- one more turn behind others

after_more : (self nodes : ℕ) (s : NodeState) (ts : List Turn) (t : Turn)
    → after_turns self nodes s (ts ++ t ∷ []) ≡ after_turn self nodes (after_turns self nodes s ts) t
after_more self nodes s [] t = refl
after_more self nodes s (u ∷ ts) t = after_more self nodes (after_turn self nodes s u) ts t

end_more : (self nodes : ℕ) (before : CallEnd) (s : NodeState) (ts : List Turn) (t : Turn)
    → last_end self nodes before s (ts ++ t ∷ []) ≡ end_of self nodes (after_turns self nodes s ts) t
end_more self nodes before s [] t = refl
end_more self nodes before s (u ∷ ts) t = end_more self nodes (end_of self nodes s u) (after_turn self nodes s u) ts t

going_more : (ts : List Turn) (t : Turn) → AreGoing ts → IsGoing t → AreGoing (ts ++ t ∷ [])
going_more [] t all more = (more, tt)
going_more (u ∷ ts) t all more = (all.0, going_more ts t all.1 more)

timely_more : (self nodes slots : ℕ) (s : NodeState) (ts : List Turn) (t : Turn) → AreTimely self nodes slots s ts
    → IsTimely self nodes slots (after_turns self nodes s ts) t
    → AreTimely self nodes slots s (ts ++ t ∷ [])
timely_more self nodes slots s [] t all more = (more, tt)
timely_more self nodes slots s (u ∷ ts) t all more = (all.0, timely_more self nodes slots (after_turn self nodes s u) ts t all.1 more)

waits_more : (self nodes : ℕ) (s : NodeState) (ts : List Turn) (t : Turn) (w : Waits)
    → waits_turns self nodes s (ts ++ t ∷ []) w ≡ waits_turn self nodes (after_turns self nodes s ts) t (waits_turns self nodes s ts w)
waits_more self nodes s [] t w = refl
waits_more self nodes s (u ∷ ts) t w = waits_more self nodes (after_turn self nodes s u) ts t (waits_turn self nodes s u w)

calls_more : {Disk : Type 0} (disks : Disk → DiskState) (self nodes : ℕ) (s : NodeState) (ts : List Turn) (t : Turn)
    (old mid new : Node Disk) → AreCallsOf disks self nodes s ts old mid
    → IsCallOf disks self nodes (after_turns self nodes s ts) t mid new → AreCallsOf disks self nodes s (ts ++ t ∷ []) old new
calls_more {Disk} disks self nodes s [] t old mid new all more =
    (new, subst (λ (n : Node Disk). IsCallOf disks self nodes s t n new) all more, refl)
calls_more disks self nodes s (u ∷ ts) t old mid new all more =
    (all.0, all.1, calls_more disks self nodes (after_turn self nodes s u) ts t all.0 mid new all.2 more)

sends_more : (self nodes : ℕ) (s : NodeState) (ts : List Turn) (t : Turn)
    → sent_turns self nodes s (ts ++ t ∷ []) ≡ sent_turns self nodes s ts ++ sent_in self nodes (after_turns self nodes s ts) t
sends_more self nodes s [] t = append-nil (sent_in self nodes s t)
sends_more self nodes s (u ∷ ts) t =
    let v = after_turn self nodes s u in
    ap (λ (ms : List Envelope). sent_in self nodes s u ++ ms) (sends_more self nodes v ts t)
    ∙ sym (append_assoc (sent_in self nodes s u) (sent_turns self nodes v ts) (sent_in self nodes (after_turns self nodes v ts) t))

messages_more : (self nodes : ℕ) (s : NodeState) (ts : List Turn) (t : Turn) → All IsMessage (sent_turns self nodes s ts)
    → All IsMessage (sent_in self nodes (after_turns self nodes s ts) t)
    → All IsMessage (sent_turns self nodes s (ts ++ t ∷ []))
messages_more self nodes s ts t all more =
    subst (All IsMessage) (sym (sends_more self nodes s ts t))
    (All-append IsMessage (sent_turns self nodes s ts) (sent_in self nodes (after_turns self nodes s ts) t) all more)

-- those of one
one_sends : (self nodes : ℕ) (s : NodeState) (t : Turn) → All IsMessage (sent_in self nodes s t)
    → All IsMessage (sent_turns self nodes s (t ∷ []))
one_sends self nodes s t all = All-append IsMessage (sent_in self nodes s t) [] all (All-nil IsMessage)

three_and_more : (a b c d : List ℕ) → a ++ (b ++ (c ++ d)) ≡ (a ++ (b ++ c)) ++ d
three_and_more a b c d = ap (λ (x : List ℕ). a ++ x) (sym (append_assoc b c d)) ∙ sym (append_assoc a (b ++ c) d)

text_more : (heading : Turn → List ℕ) (self nodes : ℕ) (s : NodeState) (ts : List Turn) (t : Turn)
    → turns_text heading self nodes s (ts ++ t ∷ []) ≡ turns_text heading self nodes s ts
    ++ (heading t ++ turn_text self nodes (after_turns self nodes s ts) t)
text_more heading self nodes s [] t = ap (λ (x : List ℕ). heading t ++ x) (append-nil (turn_text self nodes s t))
text_more heading self nodes s (u ∷ ts) t =
    ap (λ (x : List ℕ). heading u ++ (turn_text self nodes s u ++ x)) (text_more heading self nodes (after_turn self nodes s u) ts t)
    ∙ three_and_more (heading u) (turn_text self nodes s u) (turns_text heading self nodes (after_turn self nodes s u) ts) _

-- what is written before a call names the event that it is of
fired_so : (self nodes slots : ℕ) (s : NodeState) (event : Event) (turn : Turn) → MayComeOf self nodes event slots s turn
    → fired_line event ≡ fired_news turn
fired_so self nodes slots s event turn may = ap fired_by (caused self nodes slots s event turn may)

-- ---- the node stays the same

pub node_refl : {Disk : Type 0} (disks : Disk → DiskState) (n : Node Disk) → IsNodeOf disks n n
node_refl disks n = record { id = refl; nodes = refl; disk = λ was is. record { now = was; is = is; sectors = refl; honest = refl } }

pub node_then : {Disk : Type 0} (disks : Disk → DiskState) (old mid new : Node Disk) → IsNodeOf disks old mid → IsNodeOf disks mid new
    → IsNodeOf disks old new
node_then disks old mid new a b = record {
  id = b.id ∙ a.id;
  nodes = b.nodes ∙ a.nodes;
  disk = λ was is. (let d = a.disk was is in
      let e = b.disk d.now d.is in
      record { now = e.now; is = e.is; sectors = e.sectors ∙ d.sectors; honest = e.honest ∙ d.honest });
}

-- what is so of the node by its id and how many nodes there are is so of the one that it was
pub at_node : {Disk : Type 0} (P : ℕ → ℕ → Type 0) (old mid : Node Disk) → mid.id ≡ old.id → mid.nodes ≡ old.nodes → P mid.id mid.nodes
    → P old.id old.nodes
at_node P old mid id nodes p = subst (λ (n : ℕ). P old.id n) nodes (subst (λ (n : ℕ). P n mid.nodes) id p)

-- ---- the rest stays the same

-- a call leaves the timers
same_timers : {Disk : Type 0} (old new : Progress Disk) → new ≡ record old { node = new.node; text = new.text; waits = new.waits }
    → new ≡ record old { node = new.node; text = new.text; waits = new.waits; timers = new.timers }
same_timers {Disk} old new is = is ∙ ap (λ (t : Timers). record old { node = new.node; text = new.text; waits = new.waits; timers = t })
    (sym (ap (λ (p : Progress Disk). p.timers) is))

same_behind : {Disk : Type 0} (old mid new : Progress Disk)
    → mid ≡ record old { node = mid.node; text = mid.text; waits = mid.waits; timers = mid.timers }
    → new ≡ record mid { node = new.node; text = new.text; waits = new.waits; timers = new.timers }
    → new ≡ record old { node = new.node; text = new.text; waits = new.waits; timers = new.timers }
same_behind {Disk} old mid new first second = second ∙ ap (λ (p : Progress Disk). record p {
  node = new.node;
  text = new.text;
  waits =
      new.waits;
  timers = new.timers;
}) first

-- ---- calls

pub one_call : {Disk : Type 0} (disks : Disk → DiskState) (old new : Progress Disk) (May : ℕ → ℕ → ℕ → NodeState → Turn → Type 0)
    (before ended : CallEnd) → Turns disks old new May ended
    → Calls disks old new no_news (λ i n slots s turns. IsOne (May i n slots s) turns) before ended
one_call disks old new May before ended a = record {
  node = a.node;
  same = same_timers old new a.same;
  called = λ was s is stands. (let x = a.turned was s is stands in
      record {
        turns = x.turn ∷ [];
        may = x.may;
        exact = (new.node, x.exact, refl);
        messages = one_sends old.node.id old.node.nodes s x.turn x.messages;
        honest = λ honest. (x.honest honest, tt);
        stands = x.stands;
        ended_so = x.ended_so;
        text = x.text ∙ ap (λ (t : List ℕ). old.text ++ t) (sym (append-nil (turn_text old.node.id old.node.nodes s x.turn)));
        waits = x.waits;
      });
}

both_texts : (a b c x y : List ℕ) → b ≡ a ++ x → c ≡ b ++ y → c ≡ a ++ (x ++ y)
both_texts a b c x y first second = second ∙ (ap (λ (t : List ℕ). t ++ y) first ∙ append_assoc a x y)

-- a node is brought up as its states say
up_so : {Disk : Type 0} (disks : Disk → DiskState) (old new : Node Disk) (s t : NodeState) (b : Bool) → Stands disks old s
    → Stands disks new t
    → brought_up (is_down old.state.phase) (is_down new.state.phase) ≡ b → brought_up (is_down s.state.phase) (is_down t.state.phase) ≡ b
up_so disks old new s t b before behind is =
    ap (λ (x : State). brought_up (is_down x.phase) (is_down t.state.phase)) (sym before.state)
    ∙ (ap (λ (x : State). brought_up (is_down old.state.phase) (is_down x.phase)) (sym behind.state) ∙ is)

-- the call of an event that brings no node up
pub step_alone : {Disk : Type 0} (disks : Disk → DiskState) (old new : Progress Disk) (event : Event) (ended : CallEnd)
    → Turns disks old new (λ i n. MayComeOf i n event) ended
    → brought_up (is_down old.node.state.phase) (is_down new.node.state.phase) ≡ false
    → Calls disks old new no_news (ComesAndEnds event ended) (Ok None) ended
step_alone {Disk} disks old new event ended a stays = record {
  node = a.node;
  same = same_timers old new a.same;
  called = λ was s is stands. (let x = a.turned was s is stands in
      let t = after_turn old.node.id old.node.nodes s x.turn in
      let none = up_so disks old.node new.node s t false stands x.stands stays in
      record {
        turns = x.turn ∷ [];
        may = (
          (x.may, subst (λ (b : Bool). IsWrittenAnew b old.node.id old.node.nodes (slots_for (disks was).sectors) t []) (sym none) tt),
          x.ended_so,
        );
        exact = (new.node, x.exact, refl);
        messages = one_sends old.node.id old.node.nodes s x.turn x.messages;
        honest = λ honest. (x.honest honest, tt);
        stands = x.stands;
        ended_so = x.ended_so;
        text = x.text ∙ ap (λ (t : List ℕ). old.text ++ t) (sym (append-nil (turn_text old.node.id old.node.nodes s x.turn)));
        waits = x.waits;
      });
}

-- one that does, and the compaction behind it
pub step_anew : {Disk : Type 0} (disks : Disk → DiskState) (old mid new : Progress Disk) (event : Event) (step last : CallEnd)
    → Turns disks old mid (λ i n. MayComeOf i n event) step
    → brought_up (is_down old.node.state.phase) (is_down mid.node.state.phase) ≡ true → Turns disks mid new MayCompact last
    → Calls disks old new no_news (ComesAndEnds event step) (Ok None) last
step_anew {Disk} disks old mid new event step last a up b = record {
  node = node_then disks old.node mid.node new.node a.node b.node;
  same = same_timers old new (b.same ∙ ap (λ (p : Progress Disk). record p { node = new.node; text = new.text; waits = new.waits }) a.same);
  called = λ was s is stands. (let x = a.turned was s is stands in
      let d = a.node.disk was is in
      let id = old.node.id in
      let nodes = old.node.nodes in
      let t = after_turn id nodes s x.turn in
      let y = at_node (λ i n. Turned disks mid new i n MayCompact last d.now t) old.node mid.node a.node.id a.node.nodes
      (b.turned d.now t d.is x.stands) in
      let slots = slots_for (disks was).sectors in
      let may : MayCompact id nodes slots t y.turn = subst (λ (n : ℕ). MayCompact id nodes (slots_for n) t y.turn) d.sectors y.may in
      let brought = up_so disks old.node mid.node s t true stands x.stands up in
      record {
        turns = x.turn ∷ (y.turn ∷ []);
        may = ((x.may, subst (λ (b : Bool). IsWrittenAnew b id nodes slots t (y.turn ∷ [])) (sym brought) may), x.ended_so);
        exact = (mid.node, x.exact, (new.node, y.exact, refl));
        messages = All-append IsMessage (sent_in id nodes s x.turn)
            (sent_turns id nodes t (y.turn ∷ [])) x.messages (one_sends id nodes t y.turn y.messages);
        honest = λ honest. (x.honest honest, (y.honest (d.honest ∙ honest), tt));
        stands = y.stands;
        ended_so = y.ended_so;
        text = both_texts old.text mid.text new.text (turn_text id nodes s x.turn) (turn_text id nodes t y.turn) x.text y.text
            ∙ ap (λ (u : List ℕ). old.text ++ (turn_text id nodes s x.turn ++ u)) (sym (append-nil (turn_text id nodes t y.turn)));
        waits = y.waits ∙ ap (λ (w : Waits). waits_turn id nodes t y.turn w) x.waits;
      });
}

pub no_call : {Disk : Type 0} (disks : Disk → DiskState) (p : Progress Disk) (before : CallEnd)
    (So : ℕ → ℕ → NodeState → List Turn → Type 0) → ((s : NodeState) → Stands disks p.node s → So p.node.id p.node.nodes s [])
    → Calls disks p p fired_news (Timely So) before before
no_call disks p before So so = record {
  node = node_refl disks p.node;
  same = refl;
  called = λ was s is stands. record {
    turns = [];
    may = (tt, so s stands);
    exact = refl;
    messages = All-nil IsMessage;
    honest =
        λ honest. tt;
    stands = stands;
    ended_so = refl;
    text = sym (append-nil p.text);
    waits = refl;
  };
}

-- the timers alone were looked at behind calls
pub look_more : {Disk : Type 0} (disks : Disk → DiskState) (old mid new : Progress Disk) (before ended : CallEnd)
    (Before After : ℕ → ℕ → NodeState → List Turn → Type 0) → new ≡ record mid { timers = new.timers }
    → ((s : NodeState) (turns : List Turn) → Stands disks mid.node (after_turns old.node.id old.node.nodes s turns)
    → mid.node.id ≡ old.node.id → mid.waits ≡ waits_turns old.node.id old.node.nodes s turns old.waits
    → ended ≡ last_end old.node.id old.node.nodes before s turns → Before old.node.id old.node.nodes s turns
    → After old.node.id old.node.nodes s turns)
    → Calls disks old mid fired_news (Timely Before) before ended → Calls disks old new fired_news (Timely After) before ended
look_more {Disk} disks old mid new before ended Before After is goes a =
    let there : new.node ≡ mid.node = ap (λ (p : Progress Disk). p.node) is in
    record {
      node = subst (λ (n : Node Disk). IsNodeOf disks old.node n) (sym there) a.node;
      same = same_behind old mid new a.same (is ∙ (ap (λ (n : Node Disk). record mid { node = n; timers = new.timers }) (sym there)
          ∙ (ap (λ (t : List ℕ). record mid { node = new.node; text = t; timers = new.timers })
          (sym (ap (λ (p : Progress Disk). p.text) is))
          ∙ ap (λ (w : Waits). record mid { node = new.node; text = new.text; waits = w; timers = new.timers })
          (sym (ap (λ (p : Progress Disk). p.waits) is)))));
      called = λ was s at stands. (let x = a.called was s at stands in
          record {
            turns = x.turns;
            may = (x.may.0, goes s x.turns x.stands a.node.id x.waits x.ended_so x.may.1);
            exact = subst (λ (n : Node Disk). AreCallsOf disks old.node.id old.node.nodes s x.turns old.node n) (sym there) x.exact;
            messages = x.messages;
            honest = x.honest;
            stands = subst (λ (n : Node Disk). Stands disks n (after_turns old.node.id old.node.nodes s x.turns)) (sym there) x.stands;
            ended_so = x.ended_so;
            text = ap (λ (p : Progress Disk). p.text) is ∙ x.text;
            waits = ap (λ (p : Progress Disk). p.waits) is ∙ x.waits;
          });
    }

-- one more, behind the line that names its event
pub call_more : {Disk : Type 0} (disks : Disk → DiskState) (old mid new : Progress Disk) (event : Event) (said : List ℕ) (told : Timers)
    (before between ended : CallEnd) (Before After : ℕ → ℕ → NodeState → List Turn → Type 0) → IsFired event
    → said ≡ mid.text ++ fired_line event
    → ((s : NodeState) (turns : List Turn) (turn : Turn) → Stands disks mid.node (after_turns old.node.id old.node.nodes s turns)
    → mid.node.id ≡ old.node.id
    → mid.waits ≡ waits_turns old.node.id old.node.nodes s turns old.waits → between ≡ last_end old.node.id old.node.nodes before s turns
    → cause turn ≡ Some event → ended ≡ end_of old.node.id old.node.nodes (after_turns old.node.id old.node.nodes s turns) turn
    → new.timers ≡ told
    → Before old.node.id old.node.nodes s turns → After old.node.id old.node.nodes s (turns ++ turn ∷ []))
    → Calls disks old mid fired_news (Timely Before) before between
    → Turns disks (record mid { text = said; timers = told }) new (λ i n. MayComeOf i n event) ended
    → Calls disks old new fired_news (Timely After) before ended
call_more {Disk} disks old mid new event said told before between ended Before After fired fires goes a b = record {
  node = node_then disks old.node mid.node new.node a.node b.node;
  same = same_behind old mid new a.same (same_timers (record mid { text = said; timers = told }) new b.same);
  called = λ was s is stands. (let x = a.called was s is stands in
      let d = a.node.disk was is in
      let t = after_turns old.node.id old.node.nodes s x.turns in
      let y = at_node (λ i n. Turned disks (record mid { text = said; timers = told }) new i n (λ i n. MayComeOf i n event) ended d.now t)
      old.node mid.node a.node.id a.node.nodes (b.turned d.now t d.is x.stands) in
      let may : MayComeOf old.node.id old.node.nodes event (slots_for (disks was).sectors) t y.turn =
      subst (λ (n : ℕ). MayComeOf old.node.id old.node.nodes event (slots_for n) t y.turn) d.sectors y.may in
      let more : new.text ≡ mid.text ++ (fired_news y.turn ++ turn_text old.node.id old.node.nodes t y.turn) =
      both_texts mid.text said new.text (fired_news y.turn) (turn_text old.node.id old.node.nodes t y.turn)
      (fires ∙ ap (λ (l : List ℕ). mid.text ++ l) (fired_so old.node.id old.node.nodes (slots_for (disks was).sectors) t event y.turn may))
      y.text in
      record {
        turns = x.turns ++ y.turn ∷ [];
        may = (
          timely_more old.node.id old.node.nodes (slots_for (disks was).sectors) s x.turns y.turn x.may.0 (record {
            event = event;
            fired =
                fired;
            may = may;
          }),
          goes s x.turns y.turn x.stands a.node.id x.waits x.ended_so
              (sym (caused old.node.id old.node.nodes (slots_for (disks was).sectors) t event y.turn may)) y.ended_so
              (ap (λ (p : Progress Disk). p.timers) b.same) x.may.1,
        );
        exact = calls_more disks old.node.id old.node.nodes s x.turns y.turn old.node mid.node new.node x.exact y.exact;
        messages = messages_more old.node.id old.node.nodes s x.turns y.turn x.messages y.messages;
        honest = λ honest. going_more x.turns y.turn (x.honest honest) (y.honest (d.honest ∙ honest));
        stands = subst (λ (u : NodeState). Stands disks new.node u) (sym (after_more old.node.id old.node.nodes s x.turns y.turn)) y.stands;
        ended_so = y.ended_so ∙ sym (end_more old.node.id old.node.nodes before s x.turns y.turn);
        text = both_texts old.text mid.text new.text (turns_text fired_news old.node.id old.node.nodes s x.turns)
            (fired_news y.turn ++ turn_text old.node.id old.node.nodes t y.turn) x.text more
            ∙ ap (λ (z : List ℕ). old.text ++ z) (sym (text_more fired_news old.node.id old.node.nodes s x.turns y.turn));
        waits = (y.waits ∙ ap (λ (w : Waits). waits_turn old.node.id old.node.nodes t y.turn w) x.waits)
            ∙ sym (waits_more old.node.id old.node.nodes s x.turns y.turn old.waits);
      });
}

pub if_ok : {T E : Type 0} (r : Result T E) (P Q : T → Type 0) → ((x : T) → P x → Q x) → IfOk r P → IfOk r Q
if_ok (Ok x) P Q f h = f x h
if_ok (Err e) P Q f h = tt
