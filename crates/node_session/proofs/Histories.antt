-- The chains of histories that calls make.
use Rattle.std.proofs.Common.{◌≡◌, ℕ, List, [], ◌∷◌, Bool, true, false, refl, sym, subst, Option}
use Rattle.job_model.specs.Durable.{Durable}
use Rattle.histories.specs.declared.history_event.HistoryEvent.{HistoryEvent}
use Rattle.histories.specs.HistoryEvent.{Entry}
use Rattle.histories.specs.After.{after}
use Rattle.histories.specs.NodeState.{NodeState}
use Rattle.histories.specs.Possible.{IsPossible, IsOfSlots}
use Rattle.histories.specs.History.{Follows, FollowsSlots, replay}
use Rattle.node_core.specs.declared.event.Event.{Event}
use Rattle.node_session.specs.declared.asked.Asked.{Asked}
use Rattle.node_session.specs.declared.asked.Asked.TheVariants as ask
use Rattle.node_session.specs.Seals.{asked_under}
use Rattle.node_core.specs.State.{is_down}
use Rattle.node_session.specs.Turns.{Turn, Goes, Unmounted, Begins, begun, after_begun, after_turn, MayCompact}
use Rattle.node_session.specs.Chains.{LineOutcome, AreGoing, AllGoing, AreTimely, IsNone, IsOne, MayCome, after_turns, entries_of}
use Rattle.node_session.specs.Chains.{entries_in, first_turn, IsWrittenAnew, ComesOfEvent, brought_up}
use Rattle.node_session.specs.Lines.{At, AreOf, Comes, after_by, after_line, after_lines}

-- each turn by which a history went on was possible there
abbrev pub ArePossible : ℕ → ℕ → ℕ → NodeState → List Turn → Type 0
ArePossible self nodes slots s [] = Unit {0}
ArePossible self nodes slots s (Goes what ∷ turns) = IsPossible self nodes s what × IsOfSlots slots self nodes s what
    × ArePossible self nodes slots (after self nodes s what) turns
ArePossible self nodes slots s (Unmounted fault ∷ turns) = ⊥
ArePossible self nodes slots s (Begins mounted what ∷ turns) = ⊥

timely_possible : (self nodes slots : ℕ) (s : NodeState) (turns : List Turn) → AreTimely self nodes slots s turns → AreGoing turns
    → ArePossible self nodes slots s turns
timely_possible self nodes slots s [] may going = tt
timely_possible self nodes slots s (Goes what ∷ turns) may going =
    (may.0.may.1, may.0.may.2, timely_possible self nodes slots (after self nodes s what) turns may.1 going.1)
timely_possible self nodes slots s (Unmounted fault ∷ turns) may going = absurd going.0
timely_possible self nodes slots s (Begins mounted what ∷ turns) may going = absurd going.0

compact_possible : (self nodes slots : ℕ) (s : NodeState) (turns : List Turn) → IsOne (MayCompact self nodes slots s) turns
    → ArePossible self nodes slots s turns
compact_possible self nodes slots s [] may = absurd may
compact_possible self nodes slots s (Goes what ∷ []) may = (may.1, may.2, tt)
compact_possible self nodes slots s (Unmounted fault ∷ []) may = absurd may
compact_possible self nodes slots s (Begins mounted what ∷ []) may = absurd may
compact_possible self nodes slots s (t ∷ u ∷ turns) may = absurd may

none_possible : (self nodes slots : ℕ) (s : NodeState) (turns : List Turn) → IsNone turns → ArePossible self nodes slots s turns
none_possible self nodes slots s [] may = tt
none_possible self nodes slots s (t ∷ turns) may = absurd may

anew_possible : (self nodes slots : ℕ) (b : Bool) (s : NodeState) (turns : List Turn) → IsWrittenAnew b self nodes slots s turns
    → ArePossible self nodes slots s turns
anew_possible self nodes slots true s turns may = compact_possible self nodes slots s turns may
anew_possible self nodes slots false s turns may = none_possible self nodes slots s turns may

-- what comes behind the call of an event
behind_possible : (self nodes slots : ℕ) (s : NodeState) (event : Event) (t : Turn) (turns : List Turn)
    → ComesOfEvent self nodes slots s event (t ∷ turns) → ArePossible self nodes slots (after_turn self nodes s t) turns
behind_possible self nodes slots s event t turns may =
    anew_possible self nodes slots (brought_up (is_down s.state.phase) (is_down (after_turn self nodes s t).state.phase))
    (after_turn self nodes s t) turns may.1

event_possible : (self nodes slots : ℕ) (s : NodeState) (event : Event) (turns : List Turn) → ComesOfEvent self nodes slots s event turns
    → AreGoing turns → ArePossible self nodes slots s turns
event_possible self nodes slots s event [] may going = absurd may
event_possible self nodes slots s event (Goes what ∷ turns) may going =
    (may.0.1, may.0.2, behind_possible self nodes slots s event (Goes what) turns may)
event_possible self nodes slots s event (Unmounted fault ∷ turns) may going = absurd going.0
event_possible self nodes slots s event (Begins mounted what ∷ turns) may going = absurd going.0

pub asked_possible : (self nodes slots : ℕ) (s : NodeState) (a : Asked) (turns : List Turn) → MayCome self nodes slots s a turns
    → AreGoing turns → ArePossible self nodes slots s turns
asked_possible self nodes slots s (ask.Event event) turns may going = event_possible self nodes slots s event turns may going
asked_possible self nodes slots s ask.Compact turns may going = compact_possible self nodes slots s turns may
asked_possible self nodes slots s (ask.Tick now) turns may going = timely_possible self nodes slots s turns may going
asked_possible self nodes slots s (ask.Lost id) turns may going = timely_possible self nodes slots s turns may going
asked_possible self nodes slots s asked turns may going = none_possible self nodes slots s turns may

-- entries in front of others that follow
abbrev IsHistory : ℕ → ℕ → ℕ → NodeState → List Entry → NodeState → Type 0
IsHistory self nodes slots s es t = Follows self nodes s es × FollowsSlots slots self nodes s es × (replay self nodes s es ≡ t)

in_front : (self nodes slots : ℕ) (s : NodeState) (turns : List Turn) (later : List Entry) (t : NodeState)
    → ArePossible self nodes slots s turns → IsHistory self nodes slots (after_turns self nodes s turns) later t
    → IsHistory self nodes slots s (entries_of self nodes s turns later) t
in_front self nodes slots s [] later t possible follows = follows
in_front self nodes slots s (Goes what ∷ turns) later t possible follows =
    let behind = in_front self nodes slots (after self nodes s what) turns later t possible.2 follows in
    ((possible.0, refl, behind.0), (possible.1, behind.1), behind.2)
in_front self nodes slots s (Unmounted fault ∷ turns) later t possible follows = absurd possible
in_front self nodes slots s (Begins mounted what ∷ turns) later t possible follows = absurd possible

-- a line that isn't answered leaves all as it is
line_possible : (self nodes slots : ℕ) (b : Bool) (a : At) (l : List ℕ) (came : LineOutcome)
    → Comes self nodes slots b a.state (asked_under a.seal l) came → AreGoing came.turns
    → ArePossible self nodes slots a.state came.turns × (after_turns self nodes a.state came.turns ≡ (after_by self nodes b a l came).state)
line_possible self nodes slots true a l came comes going = none_came came.turns comes where
  none_came : (turns : List Turn) → IsNone turns → ArePossible self nodes slots a.state turns
      × (after_turns self nodes a.state turns ≡ a.state)
  none_came [] none = (tt, refl)
  none_came (t ∷ turns) none = absurd none
line_possible self nodes slots false a l came comes going =
    (asked_possible self nodes slots a.state (asked_under a.seal l) came.turns comes.0 going, refl)

pub one : (self nodes slots : ℕ) (a : At) (ls : List (List ℕ)) (all : List LineOutcome) → AreOf self nodes slots a ls all → AllGoing all
    → IsHistory self nodes slots a.state (entries_in self nodes a.state all) (after_lines self nodes a ls all).state
one self nodes slots a [] [] of going = (tt, tt, refl)
one self nodes slots a [] (c ∷ all) of going = absurd of
one self nodes slots a (l ∷ ls) [] of going = absurd of
one self nodes slots a (l ∷ ls) (came ∷ all) of going =
    let next = after_line self nodes a l came in
    let here = line_possible self nodes slots a.stopped a l came of.0 going.0 in
    let later : IsHistory self nodes slots next.state (entries_in self nodes next.state all) (after_lines self nodes next ls all).state =
    one self nodes slots next ls all of.1 going.1 in
    in_front self nodes slots a.state came.turns (entries_in self nodes (after_turns self nodes a.state came.turns) all)
    (after_lines self nodes next ls all).state here.0
    (subst (λ (t : NodeState). IsHistory self nodes slots t (entries_in self nodes t all) (after_lines self nodes next ls all).state)
    (sym here.1) later)

-- ---- a history begins

-- the first entry is possible where the history begins, and what comes behind it is
record IsBegun (self nodes slots : ℕ) (s : NodeState) (mounted : Durable) (what : HistoryEvent) (turns : List Turn) : Type 0 where
  pub first : IsPossible self nodes (begun self mounted) what
  pub behind : ArePossible self nodes slots (after_begun self nodes s mounted what) turns

compact_begins : (self nodes slots : ℕ) (s : NodeState) (mounted : Durable) (what : HistoryEvent) (turns : List Turn)
    → IsOne (MayCompact self nodes slots s) (Begins mounted what ∷ turns) → ⊥
compact_begins self nodes slots s mounted what [] may = may
compact_begins self nodes slots s mounted what (t ∷ turns) may = may

begun_possible : (self nodes slots : ℕ) (s : NodeState) (a : Asked) (mounted : Durable) (what : HistoryEvent) (turns : List Turn)
    → MayCome self nodes slots s a (Begins mounted what ∷ turns) → AreGoing turns
    → IsBegun self nodes slots s mounted what turns
begun_possible self nodes slots s (ask.Event event) mounted what turns may going =
    record { first = may.0.3; behind = behind_possible self nodes slots s event (Begins mounted what) turns may }
begun_possible self nodes slots s (ask.Tick now) mounted what turns may going =
    record { first = may.0.may.3; behind = timely_possible self nodes slots (after_begun self nodes s mounted what) turns may.1 going }
begun_possible self nodes slots s (ask.Lost id) mounted what turns may going =
    record { first = may.0.may.3; behind = timely_possible self nodes slots (after_begun self nodes s mounted what) turns may.1 going }
begun_possible self nodes slots s ask.Compact mounted what turns may going =
    absurd (compact_begins self nodes slots s mounted what turns may)
begun_possible self nodes slots s asked mounted what turns may going = absurd may

line_begun : (self nodes slots : ℕ) (b : Bool) (a : At) (l : List ℕ) (mounted : Durable) (what : HistoryEvent) (turns : List Turn)
    (due : Option ℕ)
    → Comes self nodes slots b a.state (asked_under a.seal l) (first_turn (Begins mounted what) turns due) → AreGoing turns
    → IsBegun self nodes slots a.state mounted what turns
    × ((after_by self nodes b a l (first_turn (Begins mounted what) turns due)).state
    ≡ after_turns self nodes (after_begun self nodes a.state mounted what) turns)
line_begun self nodes slots true a l mounted what turns due comes going = absurd comes
line_begun self nodes slots false a l mounted what turns due comes going =
    (begun_possible self nodes slots a.state (asked_under a.seal l) mounted what turns comes.0 going, refl)

pub begun_one : (self nodes slots : ℕ) (a : At) (l : List ℕ) (ls : List (List ℕ)) (mounted : Durable) (what : HistoryEvent)
    (turns : List Turn) (due : Option ℕ) (all : List LineOutcome)
    → AreOf self nodes slots a (l ∷ ls) (first_turn (Begins mounted what) turns due ∷ all)
    → AreGoing turns → AllGoing all → after_begun self nodes a.state mounted what ≡ after self nodes (begun self mounted) what
    → Follows self nodes (begun self mounted) (entries_in self nodes (begun self mounted) (first_turn (Goes what) turns due ∷ all))
    × (replay self nodes (begun self mounted) (entries_in self nodes (begun self mounted) (first_turn (Goes what) turns due ∷ all))
    ≡ (after_lines self nodes a (l ∷ ls) (first_turn (Begins mounted what) turns due ∷ all)).state)
begun_one self nodes slots a l ls mounted what turns due all of going goes same =
    let next = after_line self nodes a l (first_turn (Begins mounted what) turns due) in
    let end = (after_lines self nodes next ls all).state in
    let here = line_begun self nodes slots a.stopped a l mounted what turns due of.0 going in
    let start = after_begun self nodes a.state mounted what in
    let later : IsHistory self nodes slots next.state (entries_in self nodes next.state all) end =
    one self nodes slots next ls all of.1 goes in
    let moved = subst (λ (t : NodeState). IsHistory self nodes slots t (entries_in self nodes t all) end) here.1 later in
    let front = in_front self nodes slots start turns (entries_in self nodes (after_turns self nodes start turns) all) end here.0.behind
    moved in
    let behind = subst (λ (t : NodeState). IsHistory self nodes slots t
    (entries_of self nodes t turns (entries_in self nodes (after_turns self nodes t turns) all)) end) same front in
    ((here.0.first, refl, behind.0), behind.2)
