-- A turn that was kept is that turn again, and stays so whatever is kept after it.
use Rattle.std.specs.Prelude.{min}
use Rattle.std.proofs.Common.{◌≡◌, ℕ, zero, suc, ◌+◌, ◌-◌, ◌<◌, ◌≤◌, List, [], ◌∷◌, ◌++◌, length, take, drop, map, All, slice_get, Option}
use Rattle.std.proofs.Common.{Some, get_or, option_map, Bool, true, false, refl, sym, ap, ◌∙◌, subst, arith}
use Rattle.std.proofs.Math.Nat.{min-le_right}
use Rattle.std.proofs.lemmas.List.{map-append, length-append}
use Rattle.std.proofs.lemmas.Option.{slice_get-map, slice_get_read, same_Some}
use Rattle.std.proofs.lemmas.List.Elements.{All-head, All-tail, All-push, All-weaker}
use Rattle.wire_msg.specs.Envelope.{Envelope}
use Rattle.node_core.specs.declared.event.Event.{Event}
use Rattle.histories.specs.declared.event_outcome.EventOutcome.{EventOutcome}
use Rattle.histories.specs.declared.event_outcome.EventOutcome.TheVariants as event_outcome
use Rattle.histories.specs.declared.history_event.HistoryEvent.{HistoryEvent}
use Rattle.histories.specs.declared.history_event.HistoryEvent.TheVariants as what
use Rattle.histories.specs.EventOutcomes.{what_of}
use Rattle.node_lock.specs.declared.worker.Worker.{Worker}
use Rattle.node_lock.specs.declared.line.Quiet.{Quiet}
use Rattle.node_lock.specs.declared.line.Quiet.TheVariants as quiet
use Rattle.node_lock.specs.declared.line.PackedHistoryEvent.{PackedHistoryEvent}
use Rattle.node_lock.specs.declared.line.PackedHistoryEvent.TheVariants as kept
use Rattle.node_lock.specs.declared.line.Line.{Line}
use Rattle.node_lock.specs.declared.line.TheConstants.{MOST_KEPT}
use Rattle.node_lock.specs.History.{Turn}
use Rattle.node_lock.specs.Kept.{IsQuietAt, IsHandledAt, what_quiet, what_came, what_in, turn_in, WhatStands, LineStands}
use Rattle.trace_check.specs.Kept.{part}
use Rattle.trace_check.proofs.PublicLaws.{get_same, get_again, part_same, part_again, part_length}

abbrev pub line_by : Worker → ℕ → ℕ → PackedHistoryEvent → ℕ → ℕ → Line
line_by worker index number t start end = record { worker = worker; index = index; number = number; what = t; start = start; end = end }

abbrev pub turn_by : Worker → ℕ → HistoryEvent → List Envelope → Turn
turn_by worker index w sent = record { worker = worker; index = index; entry = record { what = w; sent = sent } }

-- ---- more is kept, and a line says what it said

what_same : (es more : List Event) (t : PackedHistoryEvent) → WhatStands (length es) t → what_in (es ++ more) t ≡ what_in es t
what_same es more (kept.Handed event_outcome place) h = ap (λ (o : Option Event). what_came o event_outcome) (get_same es more place h)
what_same es more (kept.Quiet q) h = refl

line_same : (ms sent : List Envelope) (es more : List Event) (l : Line) → LineStands (length ms) (length es) l
    → turn_in (ms ++ sent) (es ++ more) l ≡ turn_in ms es l
line_same ms sent es more l h =
    ap (λ (w : HistoryEvent). turn_by l.worker l.index w (part l.start l.end (ms ++ sent))) (what_same es more l.what h.what)
    ∙ ap (λ (xs : List Envelope). turn_by l.worker l.index (what_in es l.what) xs)
    (part_same ms sent l.start (l.end - l.start) (let front = h.sent.0 in let back = h.sent.1 in omega (arith, front, back)))

lines_same : (ms sent : List Envelope) (es more : List Event) (ls : List Line) → All (LineStands (length ms) (length es)) ls
    → map (turn_in (ms ++ sent) (es ++ more)) ls ≡ map (turn_in ms es) ls
lines_same ms sent es more [] h = refl
lines_same ms sent es more (l ∷ ls) h =
    ap (λ (t : Turn). t ∷ map (turn_in (ms ++ sent) (es ++ more)) ls)
    (line_same ms sent es more l (All-head (LineStands (length ms) (length es)) l ls h))
    ∙ ap (λ (ts : List Turn). turn_in ms es l ∷ ts) (lines_same ms sent es more ls (All-tail (LineStands (length ms) (length es)) l ls h))

-- ---- a turn with an event

-- its line, behind so many messages and events
abbrev pub line_for : Worker → ℕ → ℕ → EventOutcome → List Envelope → ℕ → ℕ → Line
line_for worker index number event_outcome sent messages events =
    line_by worker index number (kept.Handed event_outcome events) messages (messages + length sent)

pub pushed : (ls new : List Line) (ms sent all : List Envelope) (es : List Event) (worker : Worker) (index number : ℕ)
    (event_outcome : EventOutcome) (place start end : ℕ)
    → new ≡ ls ++ line_by worker index number (kept.Handed event_outcome place) start end ∷ [] → place ≡ length es → start ≡ length ms
    → end ≡ length all → all ≡ ms ++ sent
    → new ≡ ls ++ line_for worker index number event_outcome sent (length ms) (length es) ∷ []
pushed ls new ms sent all es worker index number event_outcome place start end is place_so start_so end_so all_so =
    let many : end ≡ length ms + length sent = end_so ∙ (ap (λ (xs : List Envelope). length xs) all_so ∙ length-append ms sent) in
    is ∙ (λ i. ls ++ line_by worker index number (kept.Handed event_outcome (place_so i)) (start_so i) (many i) ∷ [])

line_again : (ms : List Envelope) (es : List Event) (worker : Worker) (index number : ℕ) (e : Event) (event_outcome : EventOutcome)
    (sent : List Envelope)
    → turn_in (ms ++ sent) (es ++ e ∷ []) (line_for worker index number event_outcome sent (length ms) (length es))
    ≡ turn_by worker index (what_of e event_outcome) sent
line_again ms es worker index number e event_outcome sent =
    ap (λ (o : Option Event). turn_by worker index (what_came o event_outcome) (part (length ms) (length ms + length sent) (ms ++ sent)))
    (get_again es e)
    ∙ ap (λ (xs : List Envelope). turn_by worker index (what_of e event_outcome) xs)
    (ap (λ (k : ℕ). take k (drop (length ms) (ms ++ sent))) (let many : length ms + length sent - length ms ≡ length sent = omega arith in
    many) ∙ part_again ms sent)

-- the line that was kept last says its turn, and the lines before say what they said
pub turns_more : (ls : List Line) (ms : List Envelope) (es : List Event) (worker : Worker) (index number : ℕ) (e : Event)
    (event_outcome : EventOutcome) (sent : List Envelope) → All (LineStands (length ms) (length es)) ls
    → map (turn_in (ms ++ sent) (es ++ e ∷ [])) (ls ++ line_for worker index number event_outcome sent (length ms) (length es) ∷ [])
    ≡ map (turn_in ms es) ls ++ turn_by worker index (what_of e event_outcome) sent ∷ []
turns_more ls ms es worker index number e event_outcome sent h =
    let f = turn_in (ms ++ sent) (es ++ e ∷ []) in
    let l = line_for worker index number event_outcome sent (length ms) (length es) in
    map-append f ls (l ∷ [])
    ∙ (ap (λ (ts : List Turn). ts ++ f l ∷ []) (lines_same ms sent es (e ∷ []) ls h)
    ∙ ap (λ (t : Turn). map (turn_in ms es) ls ++ t ∷ []) (line_again ms es worker index number e event_outcome sent))

what_longer : (n m : ℕ) → n ≤ m → (t : PackedHistoryEvent) → WhatStands n t → WhatStands m t
what_longer n m le (kept.Handed event_outcome place) h = omega (arith, h, le)
what_longer n m le (kept.Quiet q) h = tt

longer : (n n' m m' : ℕ) → n ≤ n' → m ≤ m' → (l : Line) → LineStands n m l → LineStands n' m' l
longer n n' m m' le more l h = record {
  sent = (h.sent.0, let back = h.sent.1 in omega (arith, back, le));
  what = what_longer m m' more l.what h.what;
}

pub all_stand_more : (ls : List Line) (ms : List Envelope) (es : List Event) (worker : Worker) (index number : ℕ) (e : Event)
    (event_outcome : EventOutcome) (sent : List Envelope) → All (LineStands (length ms) (length es)) ls
    → All (LineStands (length (ms ++ sent)) (length (es ++ e ∷ [])))
    (ls ++ line_for worker index number event_outcome sent (length ms) (length es) ∷ [])
all_stand_more ls ms es worker index number e event_outcome sent h =
    let messages = length-append ms sent in
    let events = length-append es (e ∷ []) in
    let n = length (ms ++ sent) in
    let m = length (es ++ e ∷ []) in
    All-push (LineStands n m) ls (line_for worker index number event_outcome sent (length ms) (length es))
    (All-weaker (LineStands (length ms) (length es)) (LineStands n m)
    (longer (length ms) n (length es) m (omega (arith, messages)) (omega (arith, events))) ls h)
    (record { sent = (omega arith, omega (arith, messages)); what = omega (arith, events) })

-- the messages stay as many as are kept
pub kept_within : (ms sent : List Envelope) (room sends : ℕ) → length ms ≤ MOST_KEPT → length sent ≤ sends
    → min room (MOST_KEPT - length ms) ≡ sends → length (ms ++ sent) ≤ MOST_KEPT
kept_within ms sent room sends within few is =
    let long = length-append ms sent in
    let less = min-le_right room (MOST_KEPT - length ms) in
    omega (arith, within, few, is, long, less)

-- ---- a turn with no event

abbrev pub quiet_line : Worker → ℕ → ℕ → Quiet → Line
quiet_line worker index number q = line_by worker index number (kept.Quiet q) 0 0

pub turns_quiet : (ls : List Line) (ms : List Envelope) (es : List Event) (worker : Worker) (index number : ℕ) (q : Quiet)
    → map (turn_in ms es) (ls ++ quiet_line worker index number q ∷ [])
    ≡ map (turn_in ms es) ls ++ turn_by worker index (what_quiet q) [] ∷ []
turns_quiet ls ms es worker index number q = map-append (turn_in ms es) ls (quiet_line worker index number q ∷ [])

pub all_stand_quiet : (n m : ℕ) (ls : List Line) (worker : Worker) (index number : ℕ) (q : Quiet) → All (LineStands n m) ls
    → All (LineStands n m) (ls ++ quiet_line worker index number q ∷ [])
all_stand_quiet n m ls worker index number q h = All-push (LineStands n m) ls (quiet_line worker index number q) h (record {
  sent = (omega arith, omega arith);
  what = tt;
})

pub quiet_at : (ls : List Line) (ms : List Envelope) (es : List Event) (place : ℕ) (l : Line) (q : Quiet) → slice_get ls place ≡ Some l
    → l.what ≡ kept.Quiet q → l.start ≡ l.end → IsQuietAt place q (map (turn_in ms es) ls)
quiet_at ls ms es place l q at is_kept same = record {
  turn = turn_in ms es l;
  at = slice_get-map (turn_in ms es) ls place ∙ ap (λ (o : Option Line). option_map (turn_in ms es) o) at;
  what = ap (λ (t : PackedHistoryEvent). what_in es t) is_kept;
  sent = ap (λ (k : ℕ). take k (drop l.start ms)) (let none : l.end - l.start ≡ 0 = omega (arith, same) in none);
}

-- ---- a turn that handed over an event, or sent some, is not quiet

abbrev is_quiet : HistoryEvent → Bool
is_quiet (what.NoOp rest) = true
is_quiet what.Crashed = true
is_quiet w = false

came_of : (e : Event) (event_outcome : EventOutcome) → is_quiet (what_of e event_outcome) ≡ false
came_of e event_outcome.Done = refl
came_of e o = refl

came_in : (es : List Event) (place : ℕ) (f : EventOutcome) → place < length es → is_quiet (what_in es (kept.Handed f place)) ≡ false
came_in [] place f within = absurd (omega (arith, within))
came_in (e ∷ es) zero f within = came_of e f
came_in (e ∷ es) (suc place) f within = came_in es place f (omega (arith, within))

quiet_of : (q : Quiet) → is_quiet (what_quiet q) ≡ true
quiet_of quiet.Rested = refl
quiet_of quiet.Crashed = refl

-- the line that is read at a place
pub line_read : (read ls : List Line) (place : ℕ) (l : Line) → read ≡ ls → place < length read → l ≡ get_or read place l
    → slice_get ls place ≡ Some l
line_read read ls place l is within at = subst (λ (xs : List Line). slice_get xs place
    ≡ Some l) is (slice_get_read read (length read) place l refl within at)

stands_at : (P : Line → Type 0) (ls : List Line) (place : ℕ) (l : Line) → All P ls → slice_get ls place ≡ Some l → P l
stands_at P [] place l all at = absurd (let bad = at in cc)
stands_at P (x ∷ ls) zero l all at = subst P (same_Some x l at) (All-head P x ls all)
stands_at P (x ∷ ls) (suc place) l all at = stands_at P ls place l (All-tail P x ls all) at

turn_at : (ls : List Line) (ms : List Envelope) (es : List Event) (place : ℕ) (l : Line) (q : Quiet) → slice_get ls place ≡ Some l
    → (h : IsQuietAt place q (map (turn_in ms es) ls)) → h.turn ≡ turn_in ms es l
turn_at ls ms es place l q at h =
    same_Some h.turn (turn_in ms es l) (sym h.at ∙ (slice_get-map (turn_in ms es) ls place
    ∙ ap (λ (o : Option Line). option_map (turn_in ms es) o) at))

pub event_at : (ls : List Line) (ms : List Envelope) (es : List Event) (place : ℕ) (l : Line) (q : Quiet) (k : ℕ) (f : EventOutcome)
    → All (LineStands (length ms) (length es)) ls → slice_get ls place ≡ Some l → l.what ≡ kept.Handed f k
    → IsQuietAt place q (map (turn_in ms es) ls) → ⊥
event_at ls ms es place l q k f all at is h =
    let stands : k < length es = subst (WhatStands (length es)) is (stands_at (LineStands (length ms) (length es)) ls place l all at).what
    in
    let what : what_in es (kept.Handed f k) ≡ what_quiet q = ap (λ (t : PackedHistoryEvent). what_in es t) (sym is)
    ∙ (ap (λ (t : Turn). t.entry.what) (sym (turn_at ls ms es place l q at h)) ∙ h.what) in
    let bad : false ≡ true = sym (came_in es k f stands) ∙ (ap is_quiet what ∙ quiet_of q) in
    absurd cc

pub sent_at : (ls : List Line) (ms : List Envelope) (es : List Event) (place : ℕ) (l : Line) (q : Quiet)
    → All (LineStands (length ms) (length es)) ls → slice_get ls place ≡ Some l → (l.start ≡ l.end → ⊥)
    → IsQuietAt place q (map (turn_in ms es) ls) → ⊥
sent_at ls ms es place l q all at some h =
    let stands = stands_at (LineStands (length ms) (length es)) ls place l all at in
    let first = stands.sent.0 in
    let none : part l.start l.end ms ≡ [] = ap (λ (t : Turn). t.entry.sent) (sym (turn_at ls ms es place l q at h)) ∙ h.sent in
    let long : length (part l.start l.end ms) ≡ l.end - l.start = part_length ms l.start l.end stands.sent.0 stands.sent.1 in
    let short : length (part l.start l.end ms) ≡ 0 = ap (λ (xs : List Envelope). length xs) none in
    some (omega (arith, first, long, short))

-- ---- a turn in which an event was handled

pub handled_at : (ls : List Line) (ms : List Envelope) (es : List Event) (place : ℕ) (l : Line) (k : ℕ) (e : Event)
    → slice_get ls place ≡ Some l → l.what ≡ kept.Handed event_outcome.Done k → slice_get es k ≡ Some e
    → IsHandledAt place e (part l.start l.end ms) (map (turn_in ms es) ls)
handled_at ls ms es place l k e at is event = record {
  turn = turn_in ms es l;
  at = slice_get-map (turn_in ms es) ls place ∙ ap (λ (o : Option Line). option_map (turn_in ms es) o) at;
  what = ap (λ (t : PackedHistoryEvent). what_in es t) is ∙ ap (λ (o : Option Event). what_came o event_outcome.Done) event;
  sent = refl;
}
