-- The processes of a node are one history of it: each message that it takes was to be delivered, and each that is handed out was sent.
use Rattle.std.proofs.Common.{◌≡◌, ◌⊎◌, ℕ, Bool, true, false, ◌||◌, List, [], ◌∷◌, ◌++◌, refl, sym, ◌∙◌, subst, inl, inr, Option}
use Rattle.std.proofs.Common.{Some, filter}
use Rattle.std.specs.Prelude.{map, take, drop}
use Rattle.std.proofs.lemmas.Bool.{cond_both}
use Rattle.std.proofs.lemmas.List.{map-append, take-append-drop}
use Rattle.wire_msg.specs.Envelope.{Envelope}
use Rattle.node_core.specs.declared.event.Event.{Event}
use Rattle.node_core.specs.declared.event.Event.TheVariants as on
use Rattle.node_core.specs.State.{State, is_down}
use Rattle.histories.specs.Lists.{IsAmong}
use Rattle.histories.specs.NodeState.{NodeState}
use Rattle.histories.specs.declared.history_event.HistoryEvent.{HistoryEvent}
use Rattle.histories.specs.declared.history_event.HistoryEvent.TheVariants.{Refused, NoOp, Crashed}
use Rattle.histories.specs.HistoryEvent.{Entry, event_of, brought}
use Rattle.histories.specs.After.{after, sent_at}
use Rattle.histories.specs.History.{Follows, replay, sent_in}
use Rattle.histories.proofs.PublicLaws.{among_either, among_left, among_right}
use Rattle.node_timers.specs.declared.repeat.Repeat.{Repeat}
use Rattle.node_timers.specs.declared.retransmission.TheConstants.{MOST_AT_ONCE}
use Rattle.node_timers.specs.Retransmission.{Waits, answerer, first, has_come, is_due, is_resting, is_waited, is_waited_still, message_of}
use Rattle.node_timers.specs.Retransmission.{nearer, overdue, rested, waits_behind}
use Rattle.node_session.specs.declared.asked.Asked.{Asked}
use Rattle.node_session.specs.declared.asked.Asked.TheVariants as ask
use Rattle.node_session.specs.Turns.{Turn, Goes, after_turn, cause, IsFired, MayCompact}
use Rattle.node_session.specs.Turns as turns
use Rattle.node_session.specs.Chains.{LineOutcome, AreGoing, AllGoing, AreTimely, ComesOfEvent, IsNone, IsOne, IsWrittenAnew, MayCome}
use Rattle.node_session.specs.Chains.{after_turns, brought_up, entries_in, waits_begun, waits_turn, waits_turns}
use Rattle.node_session.specs.Chains as chains
use Rattle.node_session.specs.Lines.{At, AreOf, Comes, after_by, after_line}
use Rattle.node_session.specs.Seals.{asked_under}
use Rattle.node_session.specs.Sending.{again, handed_out, sent_turns}
use Rattle.node_session.specs.Sending as sending
use Rattle.node_session.specs.Serving.{OneHistory}
use Rattle.processes.specs.Files.{taken, taken_in}
use Rattle.processes.specs.Processes.{Process, AreProcesses, begun, brings, carried, delivered_in, delivered_to, entries_from, entries_of}
use Rattle.processes.specs.Processes.{found, handed_by, handed_in, left, process_entries, settles}
use Rattle.processes.proofs.Prelude.{follows_both}
use Rattle.processes.proofs.Settling.{Ended, Simulates, settles_sends, settles_takes, simulates}

-- ---- one history

pub begun_state : (self nodes : ℕ) (s : NodeState) (p : Process) → (begun self nodes s p).state ≡ found self s p
begun_state self nodes s p = cond_both p.keyed _ _ (λ (a : At). a.state ≡ found self s p) (λ _. refl) (λ _. refl)

module _ (one : OneHistory) (self nodes slots : ℕ) where
  -- one process
  pub process_follows : (s : NodeState) (p : Process) (ps : List Process) → AreProcesses self nodes slots s (p ∷ ps)
      → Follows self nodes (found self s p) (process_entries self nodes s p)
      × (replay self nodes (found self s p) (process_entries self nodes s p) ≡ left self nodes s p)
  process_follows s p ps are =
      let here = one self nodes slots (begun self nodes s p) p.life.lines p.life.all are.1 are.2 in
      let state = begun_state self nodes s p in (
        subst (λ (x : NodeState). Follows self nodes x (entries_in self nodes x p.life.all)) state here.0,
        subst (λ (x : NodeState). replay self nodes x (entries_in self nodes x p.life.all) ≡ left self nodes s p) state here.2,
      )

  module _ {kept : Bool} {t s : NodeState} (p : Process) (ps : List Process) (ended : Ended self kept t s)
      (are : AreProcesses self nodes slots s (p ∷ ps)) where
    -- with the doubt of before
    pub process_simulates : Simulates self nodes (kept || p.kept) (after self nodes t Crashed) (found self s p)
        (process_entries self nodes s p)
    process_simulates =
        simulates self nodes kept t s p (process_entries self nodes s p) ended are.0 (process_follows s p ps are).0

    -- where it leaves both
    pub process_ends : Ended self (carried (kept || p.kept) (process_entries self nodes s p)) (replay self nodes
        (after self nodes t Crashed) (settles (kept || p.kept) (process_entries self nodes s p))) (left self nodes s p)
    process_ends =
        let es = process_entries self nodes s p in
        let k = kept || p.kept in
        subst (λ (x : NodeState). Ended self (carried k es) (replay self nodes (after self nodes t Crashed) (settles k es)) x)
        (process_follows s p ps are).1 process_simulates.ends

  follow_from : (ps : List Process) {kept : Bool} {t s : NodeState} → Ended self kept t s → AreProcesses self nodes slots s ps
      → Follows self nodes t (entries_from self nodes kept s ps)
  follow_from [] ended are = tt
  follow_from (p ∷ ps) {t = t} ended are = (
    tt,
    refl,
    follows_both self nodes (after self nodes t Crashed) _ _ (process_simulates p ps ended are).follows
        (follow_from ps (process_ends p ps ended are) are.3),
  )

  pub all_follow : (s : NodeState) (ps : List Process) → AreProcesses self nodes slots s ps
      → Follows self nodes s (entries_of self nodes s ps)
  all_follow s ps are = follow_from ps {kept = false} {t = s} (inl (refl, refl)) are

-- a line leaves the state that its turns leave
pub none_left : (self nodes : ℕ) (s : NodeState) (ts : List Turn) → IsNone ts → after_turns self nodes s ts ≡ s
none_left self nodes s [] none = refl
none_left self nodes s (t ∷ ts) none = absurd none

pub line_leaves : (self nodes slots : ℕ) (b : Bool) (a : At) (line : List ℕ) (came : LineOutcome)
    → Comes self nodes slots b a.state (asked_under a.seal line) came
    → after_turns self nodes a.state came.turns ≡ (after_by self nodes b a line came).state
line_leaves self nodes slots true a line came comes = none_left self nodes a.state came.turns comes
line_leaves self nodes slots false a line came comes = refl

-- ---- what is taken was to be delivered

taken_brought : (what : HistoryEvent) (m : Envelope) → IsAmong m (taken what) → IsAmong m (brought (event_of what))
taken_brought (Refused event fault) m i = absurd i
taken_brought what m i = i

-- the messages that turns take
abbrev takes : List Turn → List Envelope
takes [] = []
takes (Goes what ∷ ts) = taken what ++ takes ts
takes (turn ∷ ts) = takes ts

module _ (self nodes slots : ℕ) (m : Envelope) where
  taken_append : (es fs : List Entry) → IsAmong m (taken_in (es ++ fs)) → IsAmong m (taken_in es) ⊎ IsAmong m (taken_in fs)
  taken_append [] fs i = inr i
  taken_append (e ∷ es) fs i = elim (among_either m (taken e.what) (taken_in (es ++ fs)) i) [
    | inl l ↦ inl (among_left m (taken e.what) (taken_in es) l)
    | inr r ↦ elim (taken_append es fs r) [ inl l ↦ inl (among_right m (taken e.what) (taken_in es) l) | inr k ↦ inr k ]
  ]

  taken_turns : (s : NodeState) (ts : List Turn) (later : List Entry) → AreGoing ts
      → IsAmong m (taken_in (chains.entries_of self nodes s ts later)) → IsAmong m (takes ts) ⊎ IsAmong m (taken_in later)
  taken_turns s [] later going i = inr i
  taken_turns s (Goes what ∷ ts) later going i =
      elim (among_either m (taken what) (taken_in (chains.entries_of self nodes (after self nodes s what) ts later)) i) [
        | inl l ↦ inl (among_left m (taken what) (takes ts) l)
        | inr r ↦ elim (taken_turns (after self nodes s what) ts later going.1 r) [
          | inl l ↦ inl (among_right m (taken what) (takes ts) l)
          | inr k ↦ inr k
        ]
      ]
  taken_turns s (t ∷ ts) later going i = absurd going.0

  no_takes : (ts : List Turn) → IsNone ts → IsAmong m (takes ts) → ⊥
  no_takes [] none i = i
  no_takes (t ∷ ts) none i = none

  -- what a compaction comes of is no message
  compact_takes : (s : NodeState) (ts : List Turn) → IsOne (MayCompact self nodes slots s) ts → IsAmong m (takes ts) → ⊥
  compact_takes s [] may i = may
  compact_takes s (Goes (NoOp rest) ∷ []) may i = i
  compact_takes s (Goes Crashed ∷ []) may i = i
  compact_takes s (Goes what ∷ []) may i = may.0
  compact_takes s (t ∷ []) may i = may
  compact_takes s (t ∷ u ∷ ts) may i = may

  fired_brings : (event : Event) → IsFired event → IsAmong m (brought (Some event)) → ⊥
  fired_brings (on.Timer timer) fired i = i
  fired_brings on.Recover fired i = i
  fired_brings event fired i = fired

  event_takes : (event : Event) (what : HistoryEvent) → event_of what ≡ Some event → IsAmong m (taken what)
      → IsAmong m (brought (Some event))
  event_takes event what is i = subst (λ (e : Option Event). IsAmong m (brought e)) is (taken_brought what m i)

  timely_takes : (s : NodeState) (ts : List Turn) → AreTimely self nodes slots s ts → AreGoing ts → IsAmong m (takes ts) → ⊥
  timely_takes s [] may going i = i
  timely_takes s (Goes what ∷ ts) may going i = elim (among_either m (taken what) (takes ts) i) [
    | inl l ↦ fired_brings may.0.event may.0.fired (event_takes may.0.event what may.0.may.0 l)
    | inr r ↦ timely_takes (after self nodes s what) ts may.1 going.1 r
  ]
  timely_takes s (t ∷ ts) may going i = going.0

  anew_takes : (b : Bool) (s : NodeState) (ts : List Turn) → IsWrittenAnew b self nodes slots s ts → IsAmong m (takes ts) → ⊥
  anew_takes true s ts may i = compact_takes s ts may i
  anew_takes false s ts may i = no_takes ts may i

  deliver_brings : (event : Event) → IsAmong m (brought (Some event)) → IsAmong m (brings false (ask.Event event))
  deliver_brings (on.Deliver x) i = i
  deliver_brings event i = absurd i

  event_line_takes : (s : NodeState) (event : Event) (ts : List Turn) → ComesOfEvent self nodes slots s event ts → AreGoing ts
      → IsAmong m (takes ts) → IsAmong m (brings false (ask.Event event))
  event_line_takes s event [] may going i = absurd may
  event_line_takes s event (Goes what ∷ ts) may going i = elim (among_either m (taken what) (takes ts) i) [
    | inl l ↦ deliver_brings event (event_takes event what may.0.0 l)
    | inr r ↦ absurd (anew_takes (brought_up (is_down s.state.phase) (is_down (after self nodes s what).state.phase))
        (after self nodes s what) ts may.1 r)
  ]
  event_line_takes s event (t ∷ ts) may going i = absurd going.0

  asked_takes : (s : NodeState) (a : Asked) (ts : List Turn) → MayCome self nodes slots s a ts → AreGoing ts → IsAmong m (takes ts)
      → IsAmong m (brings false a)
  asked_takes s (ask.Event event) ts may going i = event_line_takes s event ts may going i
  asked_takes s ask.Compact ts may going i = absurd (compact_takes s ts may i)
  asked_takes s (ask.Tick now) ts may going i = absurd (timely_takes s ts may going i)
  asked_takes s (ask.Lost id) ts may going i = absurd (timely_takes s ts may going i)
  asked_takes s a ts may going i = absurd (no_takes ts may i)

  line_takes : (b : Bool) (a : At) (line : List ℕ) (came : LineOutcome) → Comes self nodes slots b a.state (asked_under a.seal line) came
      → AreGoing came.turns → IsAmong m (takes came.turns) → IsAmong m (brings b (asked_under a.seal line))
  line_takes true a line came comes going i = absurd (no_takes came.turns comes i)
  line_takes false a line came comes going i = asked_takes a.state (asked_under a.seal line) came.turns comes.0 going i

  lines_take : (a : At) (lines : List (List ℕ)) (all : List LineOutcome) → AreOf self nodes slots a lines all → AllGoing all
      → IsAmong m (taken_in (entries_in self nodes a.state all)) → IsAmong m (delivered_in self nodes a lines all)
  lines_take a [] [] of going i = i
  lines_take a (line ∷ lines) (came ∷ all) of going i =
      let here = brings a.stopped (asked_under a.seal line) in
      let next = after_line self nodes a line came in
      elim (taken_turns a.state came.turns (entries_in self nodes (after_turns self nodes a.state came.turns) all) going.0 i) [
        | inl l ↦ among_left m here (delivered_in self nodes next lines all) (line_takes a.stopped a line came of.0 going.0 l)
        | inr r ↦ among_right m here (delivered_in self nodes next lines all) (lines_take next lines all of.1 going.1
            (subst (λ (x : NodeState). IsAmong m (taken_in (entries_in self nodes x all)))
            (line_leaves self nodes slots a.stopped a line came of.0) r))
      ]
  lines_take a lines all of going i = absurd of

  taken_from : (kept : Bool) (s : NodeState) (ps : List Process) → AreProcesses self nodes slots s ps
      → IsAmong m (taken_in (entries_from self nodes kept s ps)) → IsAmong m (delivered_to self nodes s ps)
  taken_from kept s [] are i = i
  taken_from kept s (p ∷ ps) are i =
      let here = delivered_in self nodes (begun self nodes s p) p.life.lines p.life.all in
      let later = delivered_to self nodes (left self nodes s p) ps in
      let es = process_entries self nodes s p in
      let k = kept || p.kept in
      elim (taken_append (settles k es) (entries_from self nodes (carried k es) (left self nodes s p) ps) i) [
        | inl l ↦ among_left m here later (lines_take (begun self nodes s p) p.life.lines p.life.all are.1 are.2
            (subst (λ (x : NodeState). IsAmong m (taken_in (entries_in self nodes x p.life.all))) (sym (begun_state self nodes s p))
            (subst (λ (ms : List Envelope). IsAmong m ms) (settles_takes k es) l)))
        | inr r ↦ among_right m here later (taken_from (carried k es) (left self nodes s p) ps are.3 r)
      ]

  pub taken_delivered : (s : NodeState) (ps : List Process) → AreProcesses self nodes slots s ps
      → IsAmong m (taken_in (entries_of self nodes s ps)) → IsAmong m (delivered_to self nodes s ps)
  taken_delivered s ps are i = taken_from false s ps are i

-- ---- what is handed out was sent

-- the messages that are waited for
abbrev waited : Waits → List Envelope
waited w = map message_of w.repeats

abbrev said : List Repeat → List Envelope
said rs = map message_of rs

-- behind a time at which messages are sent again: those that are left for the next, those that rest, and those that were sent
abbrev left_due : Waits → List Repeat
left_due w = map nearer (drop MOST_AT_ONCE (overdue w.repeats))

abbrev resting : Waits → List Repeat
resting w = map nearer (filter is_resting w.repeats)

abbrev sent_now : Waits → List Repeat
sent_now w = map rested (take MOST_AT_ONCE (overdue w.repeats))

module _ (m : Envelope) where
  among_filtered : (test : Envelope → Bool) (ms : List Envelope) → IsAmong m (filter test ms) → IsAmong m ms
  among_filtered test [] i = absurd i
  among_filtered test (x ∷ ms) i = cond_both (test x) _ _ (λ xs. IsAmong m xs → IsAmong m (x ∷ ms))
      (λ _ j. elim j [ inl e ↦ inl e | inr k ↦ inr (among_filtered test ms k) ]) (λ _ j. inr (among_filtered test ms j)) i

  said_append : (rs more : List Repeat) → IsAmong m (said (rs ++ more)) → IsAmong m (said rs) ⊎ IsAmong m (said more)
  said_append rs more i = among_either m (said rs) (said more)
      (subst (λ (ms : List Envelope). IsAmong m ms) (map-append message_of rs more) i)

  said_filtered : (test : Repeat → Bool) (rs : List Repeat) → IsAmong m (said (filter test rs)) → IsAmong m (said rs)
  said_filtered test [] i = absurd i
  said_filtered test (r ∷ rs) i = cond_both (test r) _ _ (λ xs. IsAmong m (said xs) → IsAmong m (said (r ∷ rs)))
      (λ _ j. elim j [ inl e ↦ inl e | inr k ↦ inr (said_filtered test rs k) ]) (λ _ j. inr (said_filtered test rs j)) i

  said_of_both : (n : ℕ) (rs : List Repeat) → IsAmong m (said (take n rs) ++ said (drop n rs)) → IsAmong m (said rs)
  said_of_both n rs i = subst (λ (xs : List Repeat). IsAmong m (said xs)) (take-append-drop n rs)
      (subst (λ (ms : List Envelope). IsAmong m ms) (sym (map-append message_of (take n rs) (drop n rs))) i)

  -- resting changes no message
  said_changed : (f : Repeat → Repeat) → ((r : Repeat) → message_of (f r) ≡ message_of r) → (rs : List Repeat)
      → IsAmong m (said (map f rs)) → IsAmong m (said rs)
  said_changed f same [] i = absurd i
  said_changed f same (r ∷ rs) i = elim i [ inl e ↦ inl (e ∙ same r) | inr j ↦ inr (said_changed f same rs j) ]

  said_first : (ms : List Envelope) → IsAmong m (said (map first ms)) → IsAmong m ms
  said_first [] i = absurd i
  said_first (x ∷ ms) i = elim i [ inl e ↦ inl e | inr j ↦ inr (said_first ms j) ]

  -- a call adds to them what it sends
  turn_waits : (event : Option Event) (sent : List Envelope) (v : State) (w : Waits)
      → IsAmong m (waited (waits_behind event sent v w)) → IsAmong m (waited w) ⊎ IsAmong m sent
  turn_waits event sent v w i =
      let test = is_waited (answerer event) v in
      let still = is_waited_still (answerer event) v in
      elim (said_append (filter still w.repeats) (map first (filter test sent)) i) [
        | inl l ↦ inl (said_filtered still w.repeats l)
        | inr k ↦ inr (among_filtered test sent (said_first (filter test sent) k))
      ]

  was_taken : (w : Waits) → IsAmong m (said (take MOST_AT_ONCE (overdue w.repeats))) → IsAmong m (waited w)
  was_taken w i = said_filtered is_due w.repeats (said_of_both MOST_AT_ONCE (overdue w.repeats)
      (among_left m (said (take MOST_AT_ONCE (overdue w.repeats))) (said (drop MOST_AT_ONCE (overdue w.repeats))) i))

  come_waits : (w : Waits) → IsAmong m (said (left_due w ++ resting w ++ sent_now w)) → IsAmong m (waited w)
  come_waits w i = elim (said_append (left_due w ++ resting w) (sent_now w) i) [
    | inl l ↦ elim (said_append (left_due w) (resting w) l) [
      | inl k ↦ said_filtered is_due w.repeats (said_of_both MOST_AT_ONCE (overdue w.repeats)
          (among_right m (said (take MOST_AT_ONCE (overdue w.repeats))) (said (drop MOST_AT_ONCE (overdue w.repeats)))
          (said_changed nearer (λ r. refl) (drop MOST_AT_ONCE (overdue w.repeats)) k)))
      | inr k ↦ said_filtered is_resting w.repeats (said_changed nearer (λ r. refl) (filter is_resting w.repeats) k)
    ]
    | inr r ↦ was_taken w (said_changed rested (λ r. refl) (take MOST_AT_ONCE (overdue w.repeats)) r)
  ]

  begun_waits : (a : Asked) (w : Waits) → IsAmong m (waited (waits_begun a w)) → IsAmong m (waited w)
  begun_waits (ask.Tick now) w i = cond_both (has_come now w) _ _ (λ (v : Waits). IsAmong m (waited v) → IsAmong m (waited w))
      (λ _ j. come_waits w j) (λ _ j. j) i
  begun_waits a w i = i

  -- what is sent again was waited for
  again_waited : (a : Asked) (w : Waits) → IsAmong m (again a w) → IsAmong m (waited w)
  again_waited (ask.Tick now) w i = cond_both (has_come now w) _ _ (λ ms. IsAmong m ms → IsAmong m (waited w))
      (λ _ j. was_taken w j) (λ _ j. absurd j) i
  again_waited a w i = absurd i

  sent_append : (es fs : List Entry) → IsAmong m (sent_in es) ⊎ IsAmong m (sent_in fs) → IsAmong m (sent_in (es ++ fs))
  sent_append [] fs i = elim i [ inl l ↦ absurd l | inr r ↦ r ]
  sent_append (e ∷ es) fs i = elim i [
    | inl l ↦ elim (among_either m e.sent (sent_in es) l) [
      | inl k ↦ among_left m e.sent (sent_in (es ++ fs)) k
      | inr k ↦ among_right m e.sent (sent_in (es ++ fs)) (sent_append es fs (inl k))
    ]
    | inr r ↦ among_right m e.sent (sent_in (es ++ fs)) (sent_append es fs (inr r))
  ]

module _ (self nodes slots : ℕ) (m : Envelope) where
  turns_wait : (s : NodeState) (ts : List Turn) (w : Waits) → IsAmong m (waited (waits_turns self nodes s ts w))
      → IsAmong m (waited w) ⊎ IsAmong m (sent_turns self nodes s ts)
  turns_wait s [] w i = inl i
  turns_wait s (t ∷ ts) w i =
      let next = after_turn self nodes s t in
      let here = turns.sent_in self nodes s t in
      elim (turns_wait next ts (waits_turn self nodes s t w) i) [
        | inl l ↦ elim (turn_waits m (cause t) here next.state w l) [
          | inl k ↦ inl k
          | inr k ↦ inr (among_left m here (sent_turns self nodes next ts) k)
        ]
        | inr r ↦ inr (among_right m here (sent_turns self nodes next ts) r)
      ]

  sent_entries : (s : NodeState) (ts : List Turn) (later : List Entry) → AreGoing ts
      → IsAmong m (sent_turns self nodes s ts) ⊎ IsAmong m (sent_in later) → IsAmong m (sent_in (chains.entries_of self nodes s ts later))
  sent_entries s [] later going i = elim i [ inl l ↦ absurd l | inr r ↦ r ]
  sent_entries s (Goes what ∷ ts) later going i =
      let here = sent_at self nodes s what in
      let next = after self nodes s what in
      let rest = sent_in (chains.entries_of self nodes next ts later) in
      elim i [
        | inl l ↦ elim (among_either m here (sent_turns self nodes next ts) l) [
          | inl k ↦ among_left m here rest k
          | inr k ↦ among_right m here rest (sent_entries next ts later going.1 (inl k))
        ]
        | inr r ↦ among_right m here rest (sent_entries next ts later going.1 (inr r))
      ]
  sent_entries s (t ∷ ts) later going i = absurd going.0

  -- what a line hands out, and what is waited for behind it, was waited for or is sent by its calls
  line_hands : (b : Bool) (a : At) (line : List ℕ) (came : LineOutcome)
      → IsAmong m (sending.handed_by self nodes b a (asked_under a.seal line) came)
      ⊎ IsAmong m (waited (after_by self nodes b a line came).waits)
      → IsAmong m (waited a.waits) ⊎ IsAmong m (sent_turns self nodes a.state came.turns)
  line_hands true a line came i = elim i [ inl l ↦ absurd l | inr r ↦ inl r ]
  line_hands false a line came i = elim i [
    | inl l ↦ elim (among_either m (again (asked_under a.seal line) a.waits) (sent_turns self nodes a.state came.turns) l) [
      | inl k ↦ inl (again_waited m (asked_under a.seal line) a.waits k)
      | inr k ↦ inr k
    ]
    | inr r ↦ elim (turns_wait a.state came.turns (waits_begun (asked_under a.seal line) a.waits) r) [
      | inl k ↦ inl (begun_waits m (asked_under a.seal line) a.waits k)
      | inr k ↦ inr k
    ]
  ]

  lines_hand : (a : At) (lines : List (List ℕ)) (all : List LineOutcome) → AreOf self nodes slots a lines all → AllGoing all
      → IsAmong m (handed_in self nodes a lines all) → IsAmong m (waited a.waits) ⊎ IsAmong m (sent_in (entries_in self nodes a.state all))
  lines_hand a [] [] of going i = absurd i
  lines_hand a (line ∷ lines) (came ∷ all) of going i =
      let next = after_line self nodes a line came in
      let rest = entries_in self nodes (after_turns self nodes a.state came.turns) all in
      let there : IsAmong m (sent_turns self nodes a.state came.turns)
      → IsAmong m (sent_in (chains.entries_of self nodes a.state came.turns rest)) =
      λ j. sent_entries a.state came.turns rest going.0 (inl j) in
      elim (among_either m (handed_out self nodes a line came) (handed_in self nodes next lines all) i) [
        | inl l ↦ elim (line_hands a.stopped a line came (inl l)) [ inl k ↦ inl k | inr k ↦ inr (there k) ]
        | inr r ↦ elim (lines_hand next lines all of.1 going.1 r) [
          | inl k ↦ elim (line_hands a.stopped a line came (inr k)) [ inl j ↦ inl j | inr j ↦ inr (there j) ]
          | inr k ↦ inr (sent_entries a.state came.turns rest going.0
              (inr (subst (λ (x : NodeState). IsAmong m (sent_in (entries_in self nodes x all)))
              (sym (line_leaves self nodes slots a.stopped a line came of.0)) k)))
        ]
      ]
  lines_hand a lines all of going i = absurd of

  none_begun : (s : NodeState) (p : Process) → IsAmong m (waited (begun self nodes s p).waits) → ⊥
  none_begun s p i = cond_both p.keyed _ _ (λ (a : At). IsAmong m (waited a.waits) → ⊥) (λ _ j. j) (λ _ j. j) i

  handed_from : (kept : Bool) (s : NodeState) (ps : List Process) → AreProcesses self nodes slots s ps
      → IsAmong m (handed_by self nodes s ps) → IsAmong m (sent_in (entries_from self nodes kept s ps))
  handed_from kept s [] are i = i
  handed_from kept s (p ∷ ps) are i =
      let es = process_entries self nodes s p in
      let k = kept || p.kept in
      let later = entries_from self nodes (carried k es) (left self nodes s p) ps in
      elim (among_either m (handed_in self nodes (begun self nodes s p) p.life.lines p.life.all)
      (handed_by self nodes (left self nodes s p) ps) i) [
        | inl l ↦ elim (lines_hand (begun self nodes s p) p.life.lines p.life.all are.1 are.2 l) [
          | inl j ↦ absurd (none_begun s p j)
          | inr j ↦ sent_append m (settles k es) later (inl (subst (λ (ms : List Envelope). IsAmong m ms) (sym (settles_sends k es))
              (subst (λ (x : NodeState). IsAmong m (sent_in (entries_in self nodes x p.life.all))) (begun_state self nodes s p) j)))
        ]
        | inr r ↦ sent_append m (settles k es) later (inr (handed_from (carried k es) (left self nodes s p) ps are.3 r))
      ]

  pub handed_sent : (s : NodeState) (ps : List Process) → AreProcesses self nodes slots s ps
      → IsAmong m (handed_by self nodes s ps) → IsAmong m (sent_in (entries_of self nodes s ps))
  handed_sent s ps are i = handed_from false s ps are i
