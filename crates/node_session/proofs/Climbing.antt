-- No stamp is sealed twice: the counter of a node never falls, it rises where a node comes up, and the numbers rise meanwhile.
use Rattle.std.proofs.Common.{◌≡◌, ◌≤◌, ◌<◌, ◌⊎◌, ◌+◌, ◌++◌, ◌==◌, ◌&&◌, ◌||◌, inl, inr, ℕ, Bool, true, false, List, [], ◌∷◌, refl, sym, ap}
use Rattle.std.proofs.Common.{◌∙◌, subst, append_assoc, arith, Option, Some, None}
use Rattle.std.specs.Prelude.{nat_lt}
use Rattle.std.proofs.lemmas.Bool.{cases_lt, eq-eqb, lt-ltb}
use Rattle.std.proofs.Math.Bool.{or-true}
use Rattle.job_model.specs.Answer.{answer_to}
use Rattle.node_core.specs.State.{State, is_down}
use Rattle.node_core.specs.Start.{down}
use Rattle.node_core.specs.declared.event.Event.{Event}
use Rattle.histories.specs.NodeState.{NodeState, wants_at}
use Rattle.histories.specs.declared.history_event.HistoryEvent.{HistoryEvent}
use Rattle.histories.specs.declared.history_event.HistoryEvent.TheVariants.{Did, Refused, Faulted, NoOp, Crashed, Recovered, MountFailed}
use Rattle.histories.specs.declared.history_event.HistoryEvent.TheVariants.{RaiseFailed, RaiseRefused}
use Rattle.histories.specs.After.{after}
use Rattle.histories.specs.Possible.{IsPossible, Takes}
use Rattle.histories.proofs.PublicLaws.{at_down, settled_grows, stays_up, wanted_grows}
use Rattle.sealed_msg.specs.declared.stamp.Stamp.{Stamp}
use Rattle.sealed_msg.specs.Stamps.{is_above}
use Rattle.line_words.specs.Lines.{lines_of}
use Rattle.line_words.specs.Words.{words_of}
use Rattle.wire_msg.specs.Envelope.{Envelope}
use Rattle.node_session.specs.Turns.{Turn, Goes, Unmounted, Begins}
use Rattle.node_session.specs.Chains.{LineOutcome, AllGoing, AreGoing, after_turns}
use Rattle.node_session.specs.Lines.{At, AreOf, Comes, after_by, after_line, after_lines, plain_answer}
use Rattle.node_session.specs.Seals.{Brought, NoBytes, Strange, Garbled, Opened, Seals, asked_under, brought_by, brought_word, is_fresh}
use Rattle.node_session.specs.Seals.{life_by, life_of, message_in, no_stamp, number_by, numbered, sealed_behind, taken_brought, taken_fresh}
use Rattle.node_session.specs.Seals.{taken_told, taken_under, taken_words, told_life}
use Rattle.node_session.specs.Stamping.{Climbs, Life, AreLives, NoStampTwice, life_begun, life_left, stamps_asked, stamps_by, stamps_given}
use Rattle.node_session.specs.Stamping.{stamps_in, stamps_of, stamps_over}
use Rattle.node_session.proofs.Histories.{ArePossible, asked_possible}

-- ---- the counter

-- from one state to a later one
record Moves (s t : NodeState) : Type 0 where
  pub counter : s.durable.counter ≤ t.durable.counter
  pub up : is_down t.state.phase ≡ false → (is_down s.state.phase ≡ false) ⊎ (s.durable.counter < t.durable.counter)

-- a node that is down is in the one state of these
abbrev Fallen : ℕ → NodeState → Type 0
Fallen self s = is_down s.state.phase ≡ true → s.state ≡ down self

stays : (s : NodeState) → Moves s s
stays s = record { counter = omega arith; up = λ up. inl up }

-- to a node that is down
falls : (self : ℕ) (s t : NodeState) → s.durable.counter ≤ t.durable.counter → t.state ≡ down self → Moves s t × Fallen self t
falls self s t grows is = (
  record { counter = grows; up = λ up. (let bad : true ≡ false = sym (ap (λ (v : State). is_down v.phase) is) ∙ up in absurd cc) },
  λ fallen. is,
)

did_moves : (self nodes : ℕ) (s : NodeState) (event : Event) (b : Bool) → is_down s.state.phase ≡ b → Fallen self s
    → Takes self nodes s event
    → Moves s (after self nodes s (Did event)) × Fallen self (after self nodes s (Did event))
did_moves self nodes s event true is fallen takes =
    let x = at_down self nodes s event (fallen is) takes.0 takes.1.by_core in
    falls self s (after self nodes s (Did event)) (wanted_grows s.durable (wants_at self nodes s event)) x.state
did_moves self nodes s event false is fallen takes =
    let up = stays_up nodes self s.durable.pending event (answer_to s.durable (wants_at self nodes s event)) s.state is in (
      record { counter = wanted_grows s.durable (wants_at self nodes s event); up = λ _. inl is },
      λ fallen. (let bad : false ≡ true = sym up ∙ fallen in absurd cc),
    )

step_moves : (self nodes : ℕ) (s : NodeState) (what : HistoryEvent) → Fallen self s → IsPossible self nodes s what
    → Moves s (after self nodes s what) × Fallen self (after self nodes s what)
step_moves self nodes s (Did event) fallen may = did_moves self nodes s event (is_down s.state.phase) refl fallen may
step_moves self nodes s (Refused event fault) fallen may = (stays s, fallen)
step_moves self nodes s (Faulted event) fallen may = falls self s (after self nodes s (Faulted event)) (omega arith) refl
step_moves self nodes s (NoOp rest) fallen may = (stays s, fallen)
step_moves self nodes s Crashed fallen may = falls self s (after self nodes s Crashed) (omega arith) refl
step_moves self nodes s (Recovered kept) fallen may = (
  record { counter = omega (arith, settled_grows kept s); up = λ _. inr (omega (arith, settled_grows kept s)) },
  λ fallen. (let bad : false ≡ true = fallen in absurd cc),
)
step_moves self nodes s MountFailed fallen may = (stays s, fallen)
step_moves self nodes s (RaiseFailed kept) fallen may = falls self s (after self nodes s (RaiseFailed kept)) (settled_grows kept s) refl
step_moves self nodes s (RaiseRefused kept) fallen may = (stays s, fallen)

moves_then : (s t u : NodeState) → Moves s t → Moves t u → Moves s u
moves_then s t u a b = record { counter = omega (arith, a.counter, b.counter); up = λ up. by_later (b.up up) }
  where
    by_first : (is_down s.state.phase ≡ false) ⊎ (s.durable.counter < t.durable.counter)
        → (is_down s.state.phase ≡ false) ⊎ (s.durable.counter < u.durable.counter)
    by_first (inl up) = inl up
    by_first (inr less) = inr (omega (arith, less, b.counter))

    by_later : (is_down t.state.phase ≡ false) ⊎ (t.durable.counter < u.durable.counter)
        → (is_down s.state.phase ≡ false) ⊎ (s.durable.counter < u.durable.counter)
    by_later (inl up) = by_first (a.up up)
    by_later (inr less) = inr (omega (arith, less, a.counter))

turns_move : (self nodes slots : ℕ) (s : NodeState) (turns : List Turn) → Fallen self s → ArePossible self nodes slots s turns
    → Moves s (after_turns self nodes s turns) × Fallen self (after_turns self nodes s turns)
turns_move self nodes slots s [] fallen may = (stays s, fallen)
turns_move self nodes slots s (Goes what ∷ turns) fallen may =
    let first = step_moves self nodes s what fallen may.0 in
    let later = turns_move self nodes slots (after self nodes s what) turns first.1 may.2 in
    (moves_then s (after self nodes s what) (after_turns self nodes (after self nodes s what) turns) first.0 later.0, later.1)
turns_move self nodes slots s (Unmounted fault ∷ turns) fallen may = absurd may
turns_move self nodes slots s (Begins mounted what ∷ turns) fallen may = absurd may

-- ---- stamps that are below all that are to come

record IsLow (counter n : ℕ) (low : Stamp) : Type 0 where
  pub life : low.life ≤ counter
  pub number : low.life ≡ counter → low.number ≤ n

-- while a node is up, also among those of its count
record Low (s : NodeState) (n : ℕ) (low : Stamp) : Type 0 where
  pub life : low.life ≤ s.durable.counter
  pub number : is_down s.state.phase ≡ false → low.life ≡ s.durable.counter → low.number ≤ n

low_moves : (s t : NodeState) (number : ℕ) (low : Stamp) → Moves s t → Low s number low → Low t number low
low_moves s t number low moves is = record { life = omega (arith, is.life, moves.counter); number = λ up same. by_case same (moves.up up) }
  where
    by_case : low.life ≡ t.durable.counter → (is_down s.state.phase ≡ false) ⊎ (s.durable.counter < t.durable.counter) → low.number ≤ number
    by_case same (inl up) = is.number up (omega (arith, same, is.life, moves.counter))
    by_case same (inr less) = absurd (omega (arith, same, is.life, less))

above_by : (life counter number n : ℕ) → life ≤ counter → (life ≡ counter → number ≤ n)
    → (nat_lt life counter || (counter == life && nat_lt number (n + 1))) ≡ true
above_by life counter number n least below = by_order (cases_lt life counter)
  where
    by_order : (life < counter) ⊎ (counter ≤ life) → (nat_lt life counter || (counter == life && nat_lt number (n + 1))) ≡ true
    by_order (inl less) = ap (λ (b : Bool). b || (counter == life && nat_lt number (n + 1))) (lt-ltb life counter less)
    by_order (inr most) =
        let same : counter ≡ life = omega (arith, least, most) in
        let less : number < n + 1 = omega (arith, below (sym same)) in
        ap (λ (b : Bool). nat_lt life counter || (b && nat_lt number (n + 1))) (eq-eqb counter life same)
        ∙ (ap (λ (b : Bool). nat_lt life counter || b) (lt-ltb number (n + 1) less) ∙ or-true (nat_lt life counter))

above : (counter n : ℕ) (low : Stamp) → IsLow counter n low → is_above (record { life = counter; number = n + 1 }) low ≡ true
above counter n low is = above_by low.life counter low.number n is.life is.number

-- ---- the lines of an answer

climb_in : (c : ℕ) (lines : List (List ℕ)) (n : ℕ) (low : Stamp) (later : List Stamp) → IsLow c n low
    → ((l : Stamp) → IsLow c (numbered (Some c) n lines) l → Climbs l later)
    → Climbs low (stamps_in (Some c) n lines ++ later)
climb_in c [] n low later is goes = goes low is
climb_in c (line ∷ []) n low later is goes = goes low is
climb_in c (line ∷ next ∷ lines) n low later is goes = by_message (message_in line)
    (λ m l below goes_on. climb_in c (next ∷ lines) m l later below goes_on) goes
  where
    by_message : (o : Option (List ℕ))
        → ((m : ℕ) (l : Stamp) → IsLow c m l → ((k : Stamp) → IsLow c (numbered (Some c) m (next ∷ lines)) k → Climbs k later)
        → Climbs l (stamps_in (Some c) m (next ∷ lines) ++ later))
        → ((l : Stamp) → IsLow c (numbered (Some c) (number_by (Some c) n o) (next ∷ lines)) l → Climbs l later)
        → Climbs low (stamps_by (Some c) n o (stamps_in (Some c) (number_by (Some c) n o) (next ∷ lines)) ++ later)
    by_message None more goes = more n low is goes
    by_message (Some message) more goes =
        let stamp : Stamp = record { life = c; number = n + 1 } in
        (above c n low is, more (n + 1) stamp (record { life = omega arith; number = λ _. omega arith }) goes)

-- a node that is down seals nothing
none_in : (n : ℕ) (lines : List (List ℕ)) → (stamps_in None n lines ≡ []) × (numbered None n lines ≡ n)
none_in n [] = (refl, refl)
none_in n (line ∷ []) = (refl, refl)
none_in n (line ∷ next ∷ lines) = by_message (message_in line) (none_in n (next ∷ lines))
  where
    by_message : (o : Option (List ℕ)) → (stamps_in None n (next ∷ lines) ≡ []) × (numbered None n (next ∷ lines) ≡ n)
        → (stamps_by None n o (stamps_in None (number_by None n o) (next ∷ lines)) ≡ [])
        × (numbered None (number_by None n o) (next ∷ lines) ≡ n)
    by_message None later = later
    by_message (Some message) later = later

abbrev number_of : Option Seals → ℕ
number_of None = 0
number_of (Some q) = q.number

climb_by : (t : NodeState) (b : Bool) (q : Seals) (lines : List (List ℕ)) (low : Stamp) (later : List Stamp) → is_down t.state.phase ≡ b
    → Low t q.number low
    → ((l : Stamp) → Low t (numbered (life_by b t.durable.counter) q.number lines) l → Climbs l later)
    → Climbs low (stamps_in (life_by b t.durable.counter) q.number lines ++ later)
climb_by t true q lines low later is below goes =
    let none = none_in q.number lines in
    subst (λ (x : List Stamp). Climbs low (x ++ later)) (sym none.0) (goes low (subst (λ (n : ℕ). Low t n low) (sym none.1) below))
climb_by t false q lines low later is below goes =
    climb_in t.durable.counter lines q.number low later (record { life = below.life; number = below.number is })
    (λ l low'. goes l (record { life = low'.life; number = λ _. low'.number }))

climb_text : (t : NodeState) (seal : Option Seals) (text : List ℕ) (low : Stamp) (later : List Stamp) → Low t (number_of seal) low
    → ((l : Stamp) → Low t (number_of (sealed_behind seal (life_of t) text)) l → Climbs l later)
    → Climbs low (stamps_of seal (life_of t) text ++ later)
climb_text t None text low later below goes = goes low below
climb_text t (Some q) text low later below goes = climb_by t (is_down t.state.phase) q (lines_of text) low later refl below goes

-- what is taken is not sealed
taken_number : (seal : Option Seals) (line : List ℕ) → number_of (taken_under seal line) ≡ number_of seal
taken_number None line = refl
taken_number (Some q) line = by_word (brought_word (words_of line))
  where
    by_fresh : (b : Bool) (m : Envelope) (stamp : Stamp) → (taken_fresh b q m stamp).number ≡ q.number
    by_fresh true m stamp = refl
    by_fresh false m stamp = refl

    by_brought : (brought : Brought) → (taken_brought q brought).number ≡ q.number
    by_brought NoBytes = refl
    by_brought Strange = refl
    by_brought Garbled = refl
    by_brought (Opened m stamp) = by_fresh (is_fresh q m stamp) m stamp

    by_told : (o : Option (ℕ × List ℕ)) → (taken_told q o).number ≡ q.number
    by_told None = refl
    by_told (Some it) = refl

    by_word : (o : Option (List ℕ)) → (taken_words q line o).number ≡ q.number
    by_word None = by_told (told_life line)
    by_word (Some word) = by_brought (brought_by q word)

-- ---- lines, and lives

line_climbs : (self nodes slots : ℕ) (b : Bool) (a : At) (line : List ℕ) (came : LineOutcome) (low : Stamp) (later : List Stamp)
    → Comes self nodes slots b a.state (asked_under a.seal line) came → AreGoing came.turns
    → Fallen self a.state → Low a.state (number_of a.seal) low
    → ((l : Stamp) → Fallen self (after_by self nodes b a line came).state
    → Low (after_by self nodes b a line came).state (number_of (after_by self nodes b a line came).seal) l → Climbs l later)
    → Climbs low (stamps_asked self nodes b a (asked_under a.seal line) (taken_under a.seal line) came ++ later)
line_climbs self nodes slots true a line came low later comes going fallen below goes = goes low fallen below
line_climbs self nodes slots false a line came low later comes going fallen below goes =
    let t = after_turns self nodes a.state came.turns in
    let moves = turns_move self nodes slots a.state came.turns fallen
    (asked_possible self nodes slots a.state (asked_under a.seal line) came.turns comes.0 going) in
    climb_text t (taken_under a.seal line) (plain_answer self nodes a (asked_under a.seal line) came) low later
    (subst (λ (n : ℕ). Low t n low) (sym (taken_number a.seal line)) (low_moves a.state t (number_of a.seal) low moves.0 below))
    (λ l low'. goes l moves.1 low')

lines_climb : (self nodes slots : ℕ) (a : At) (lines : List (List ℕ)) (all : List LineOutcome) (low : Stamp) (later : List Stamp)
    → AreOf self nodes slots a lines all → AllGoing all
    → Fallen self a.state → Low a.state (number_of a.seal) low
    → ((l : Stamp) → Low (after_lines self nodes a lines all).state (number_of (after_lines self nodes a lines all).seal) l
    → Climbs l later)
    → Climbs low (stamps_given self nodes a lines all ++ later)
lines_climb self nodes slots a [] [] low later of going fallen below goes = goes low below
lines_climb self nodes slots a [] (came ∷ all) low later of going fallen below goes = absurd of
lines_climb self nodes slots a (line ∷ lines) [] low later of going fallen below goes = absurd of
lines_climb self nodes slots a (line ∷ lines) (came ∷ all) low later of going fallen below goes =
    let b = after_line self nodes a line came in
    let stamps = stamps_asked self nodes a.stopped a (asked_under a.seal line) (taken_under a.seal line) came in
    subst (λ (x : List Stamp). Climbs low x) (sym (append_assoc stamps (stamps_given self nodes b lines all) later))
    (line_climbs self nodes slots a.stopped a line came low (stamps_given self nodes b lines all ++ later) of.0 going.0 fallen below
    (λ l fallen' low'. lines_climb self nodes slots b lines all l later of.1 going.1 fallen' low' goes))

lives_climb : (self nodes slots : ℕ) (s : NodeState) (lives : List Life) (low : Stamp) → AreLives self nodes slots s lives
    → low.life ≤ s.durable.counter → Climbs low (stamps_over self nodes s lives)
lives_climb self nodes slots s [] low are below = tt
lives_climb self nodes slots s (life ∷ lives) low are below =
    let begun = life_begun self nodes s life in
    lines_climb self nodes slots begun life.lines life.all low (stamps_over self nodes (life_left self nodes s life) lives) are.0 are.1
    (λ _. refl)
    (record { life = below; number = λ up. (let bad : true ≡ false = up in absurd cc) })
    (λ l low'. lives_climb self nodes slots (life_left self nodes s life) lives l are.2 low'.life)

pub no_stamp_twice : NoStampTwice
no_stamp_twice self nodes slots s lives are = lives_climb self nodes slots s lives no_stamp are (omega arith)
