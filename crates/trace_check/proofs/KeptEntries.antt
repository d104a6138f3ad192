-- What was kept of an entry is that entry again, and stays so whatever is kept after it.
use Rattle.std.proofs.Common.{◌≡◌, ℕ, zero, suc, ◌+◌, ◌-◌, ◌<◌, ◌≤◌, List, [], ◌∷◌, ◌++◌, length, take, drop, map, All, slice_get, Option}
use Rattle.std.proofs.Common.{Some, None, refl, sym, ap, ◌∙◌, subst, arith}
use Rattle.std.proofs.lemmas.List.{map-append, length-append, take-append-le, drop-append-le, length-drop, length-take, length-take-le}
use Rattle.std.proofs.Math.Nat.{min-le_left}
use Rattle.std.proofs.lemmas.Option.{slice_get_past}
use Rattle.std.proofs.Math.Seq.{drop-append_seam}
use Rattle.std.proofs.lemmas.List.Elements.{All-head, All-tail, All-push, All-weaker}
use Rattle.job_model.specs.declared.payload.TheConstants.{PAYLOAD_CAPACITY}
use Rattle.wire_msg.specs.Envelope.{Envelope}
use Rattle.node_core.specs.declared.event.Event.{Event}
use Rattle.node_core.specs.declared.event.Event.TheVariants as on
use Rattle.histories.specs.HistoryEvent.{brought}
use Rattle.trace_check.specs.declared.trace.TraceAction.{TraceAction}
use Rattle.trace_check.specs.declared.trace.TraceAction.TheVariants as action
use Rattle.trace_check.specs.declared.kept.PackedEvent.{PackedEvent}
use Rattle.trace_check.specs.declared.kept.PackedEvent.TheVariants as kept
use Rattle.trace_check.specs.declared.kept.PackedAction.{PackedAction}
use Rattle.trace_check.specs.declared.kept.PackedAction.TheVariants as done
use Rattle.trace_check.specs.declared.kept.PackedEntry.{PackedEntry}
use Rattle.trace_check.specs.declared.stored.StoredEntry.{StoredEntry}
use Rattle.trace_check.specs.Claims.{Claim, brought_by}
use Rattle.trace_check.specs.Traces.{claim}
use Rattle.trace_check.specs.Kept.{kept_event, kept_action, payload_of, payload_in, delivered, part, event_said, action_said, claim_said}
use Rattle.trace_check.specs.Kept.{EventStands, ActionStands, EntryStands}
use Rattle.trace_check.specs.Stored.{claim_stored, entry_of, IsStored}

-- ---- more is kept, and an entry says what it said

pub get_same : {A : Type 0} → (xs more : List A) (i : ℕ) → i < length xs → slice_get (xs ++ more) i ≡ slice_get xs i
get_same [] more i within = absurd (omega (arith, within))
get_same (x ∷ xs) more zero within = refl
get_same (x ∷ xs) more (suc i) within = get_same xs more i (omega (arith, within))

pub part_same : {A : Type 0} → (xs more : List A) (start len : ℕ) → start + len ≤ length xs
    → take len (drop start (xs ++ more)) ≡ take len (drop start xs)
part_same {A} xs more start len within =
    ap (λ (ys : List A). take len ys) (drop-append-le start xs more (omega (arith, within)))
    ∙ take-append-le len (drop start xs) more (omega (arith, within, length-drop start xs))

pub event_same : (ms more : List Envelope) (p bytes : List ℕ) (e : PackedEvent) → EventStands (length ms) (length p) e
    → event_said (ms ++ more) (p ++ bytes) e ≡ event_said ms p e
event_same ms more p bytes (kept.Deliver place) h = ap (λ (o : Option Envelope). delivered o) (get_same ms more place h)
event_same ms more p bytes (kept.Submit queue priority len start) h =
    ap (λ (xs : List ℕ). on.Submit (record { queue = queue; priority = priority; payload = xs })) (part_same p bytes start len h.0)
event_same ms more p bytes e h = refl

action_same : (ms more : List Envelope) (p bytes : List ℕ) (d : PackedAction) → ActionStands (length ms) (length p) d
    → action_said (ms ++ more) (p ++ bytes) d ≡ action_said ms p d
action_same ms more p bytes (done.Done event) h = ap (λ (e : Event). action.Done e) (event_same ms more p bytes event h)
action_same ms more p bytes (done.Faulted event) h = ap (λ (e : Event). action.Faulted e) (event_same ms more p bytes event h)
action_same ms more p bytes d h = refl

claim_same : (ms more : List Envelope) (p bytes : List ℕ) (e : PackedEntry) → EntryStands (length ms) (length p) e
    → claim_said (ms ++ more) (p ++ bytes) e ≡ claim_said ms p e
claim_same ms more p bytes e h =
    ap (λ (d : TraceAction). claim d (part e.start e.end (ms ++ more))) (action_same ms more p bytes e.action h.action)
    ∙ ap (λ (xs : List Envelope). claim (action_said ms p e.action) xs)
    (part_same ms more e.start (e.end - e.start) (let front = h.sent.0 in let back = h.sent.1 in omega (arith, front, back)))

claims_same : (ms more : List Envelope) (p bytes : List ℕ) (es : List StoredEntry) → All (IsStored (length ms) (length p)) es
    → map (claim_stored (ms ++ more) (p ++ bytes)) es ≡ map (claim_stored ms p) es
claims_same ms more p bytes [] h = refl
claims_same ms more p bytes (e ∷ es) h =
    ap (λ (c : Claim). c ∷ map (claim_stored (ms ++ more) (p ++ bytes)) es)
    (claim_same ms more p bytes (entry_of e) (All-head (IsStored (length ms) (length p)) e es h))
    ∙ ap (λ (cs : List Claim). claim_stored ms p e ∷ cs) (claims_same ms more p bytes es
    (All-tail (IsStored (length ms) (length p)) e es h))

-- ---- an entry that was kept last is read back

pub get_again : {A : Type 0} → (xs : List A) (x : A) → slice_get (xs ++ x ∷ []) (length xs) ≡ Some x
get_again [] x = refl
get_again (y ∷ xs) x = get_again xs x

pub take_whole : {A : Type 0} → (xs : List A) → take (length xs) xs ≡ xs
take_whole [] = refl
take_whole {A} (x ∷ xs) = ap (λ (ys : List A). x ∷ ys) (take_whole xs)

pub part_again : {A : Type 0} → (xs ys : List A) → take (length ys) (drop (length xs) (xs ++ ys)) ≡ ys
part_again {A} xs ys = ap (λ (zs : List A). take (length ys) zs) (drop-append_seam xs ys) ∙ take_whole ys

pub event_again : (ms : List Envelope) (p : List ℕ) (e : Event)
    → event_said (ms ++ brought (Some e)) (p ++ payload_of e) (kept_event (length ms) (length p) e) ≡ e
event_again ms p (on.Deliver m) = ap (λ (o : Option Envelope). delivered o) (get_again ms m)
event_again ms p (on.Submit work) = ap (λ (xs : List ℕ). on.Submit (record work { payload = xs })) (part_again p work.payload)
event_again ms p e = refl

pub action_again : (ms : List Envelope) (p : List ℕ) (d : TraceAction)
    → action_said (ms ++ brought_by d) (p ++ payload_in d) (kept_action (length ms) (length p) d) ≡ d
action_again ms p (action.Done event) = ap (λ (e : Event). action.Done e) (event_again ms p event)
action_again ms p (action.Faulted event) = ap (λ (e : Event). action.Faulted e) (event_again ms p event)
action_again ms p d = refl

pub event_stands : (ms : List Envelope) (p : List ℕ) (e : Event) → length (payload_of e) ≤ PAYLOAD_CAPACITY
    → EventStands (length (ms ++ brought (Some e))) (length (p ++ payload_of e)) (kept_event (length ms) (length p) e)
event_stands ms p (on.Deliver m) few = omega (arith, length-append ms (m ∷ []))
event_stands ms p (on.Submit work) few = (omega (arith, length-append p work.payload), few)
event_stands ms p e few = tt

pub action_stands : (ms : List Envelope) (p : List ℕ) (d : TraceAction) → length (payload_in d) ≤ PAYLOAD_CAPACITY
    → ActionStands (length (ms ++ brought_by d)) (length (p ++ payload_in d)) (kept_action (length ms) (length p) d)
action_stands ms p (action.Done event) few = event_stands ms p event few
action_stands ms p (action.Faulted event) few = event_stands ms p event few
action_stands ms p d few = tt

-- ---- where more can be read, what could be read still can

pub event_longer : (m m' p p' : ℕ) (e : PackedEvent) → m ≤ m' → p ≤ p' → EventStands m p e → EventStands m' p' e
event_longer m m' p p' (kept.Deliver place) a b h = omega (arith, a, h)
event_longer m m' p p' (kept.Submit queue priority len start) a b h = (let within = h.0 in omega (arith, b, within), h.1)
event_longer m m' p p' e a b h = tt

pub action_longer : (m m' p p' : ℕ) (d : PackedAction) → m ≤ m' → p ≤ p' → ActionStands m p d → ActionStands m' p' d
action_longer m m' p p' (done.Done event) a b h = event_longer m m' p p' event a b h
action_longer m m' p p' (done.Faulted event) a b h = event_longer m m' p p' event a b h
action_longer m m' p p' d a b h = tt

pub entry_longer : (m m' p p' : ℕ) → m ≤ m' → p ≤ p' → (e : PackedEntry) → EntryStands m p e → EntryStands m' p' e
entry_longer m m' p p' a b e h = record {
  action = action_longer m m' p p' e.action a b h.action;
  sent =
      (h.sent.0, let back = h.sent.1 in omega (arith, a, back));
}

-- ---- one entry more

-- the entry, as it is kept behind these messages and payloads
abbrev pub kept_entry : ℕ → ℕ → TraceAction → List Envelope → PackedEntry
kept_entry messages payloads d sent = record {
  action = kept_action messages payloads d;
  start = messages + length (brought_by d);
  end =
      messages + length (brought_by d) + length sent;
}

sent_again : (ms : List Envelope) (d : TraceAction) (sent : List Envelope)
    → part (length ms + length (brought_by d)) (length ms + length (brought_by d) + length sent) (ms ++ brought_by d ++ sent) ≡ sent
sent_again ms d sent =
    ap (λ (k : ℕ). take k (drop (length ms + length (brought_by d)) (ms ++ brought_by d ++ sent)))
    (let many : length ms + length (brought_by d) + length sent - (length ms + length (brought_by d)) ≡ length sent = omega arith in
    many)
    ∙ ap (λ (k : ℕ). take (length sent) (drop k (ms ++ brought_by d ++ sent))) (sym (length-append ms (brought_by d)))
    ∙ part_again (ms ++ brought_by d) sent

claim_again : (ms : List Envelope) (p : List ℕ) (d : TraceAction) (sent : List Envelope) → length (payload_in d) ≤ PAYLOAD_CAPACITY
    → claim_said (ms ++ brought_by d ++ sent) (p ++ payload_in d) (kept_entry (length ms) (length p) d sent) ≡ claim d sent
claim_again ms p d sent few =
    ap (λ (x : TraceAction). claim x (part (length ms + length (brought_by d)) (length ms + length (brought_by d) + length sent) (ms
    ++ brought_by d ++ sent)))
    (action_later ms p d sent few ∙ action_again ms p d)
    ∙ ap (λ (xs : List Envelope). claim d xs) (sent_again ms d sent)
  where
    action_later : (ms : List Envelope) (p : List ℕ) (d : TraceAction) (sent : List Envelope) → length (payload_in d) ≤ PAYLOAD_CAPACITY
        → action_said (ms ++ brought_by d ++ sent) (p ++ payload_in d) (kept_action (length ms) (length p) d)
        ≡ action_said (ms ++ brought_by d) (p ++ payload_in d) (kept_action (length ms) (length p) d)
    action_later ms p d sent few =
        ap (λ (q : List ℕ). action_said (ms ++ brought_by d ++ sent) q (kept_action (length ms) (length p) d))
        (sym (append_none (p ++ payload_in d)))
        ∙ action_same (ms ++ brought_by d) sent (p ++ payload_in d) [] (kept_action (length ms) (length p) d) (action_stands ms p d few)
      where
        append_none : (xs : List ℕ) → xs ++ [] ≡ xs
        append_none [] = refl
        append_none (x ∷ xs) = ap (λ (ys : List ℕ). x ∷ ys) (append_none xs)

-- it can be read back behind them
pub entry_stands : (ms : List Envelope) (p : List ℕ) (d : TraceAction) (sent : List Envelope) → length (payload_in d) ≤ PAYLOAD_CAPACITY
    → EntryStands (length (ms ++ brought_by d ++ sent)) (length (p ++ payload_in d)) (kept_entry (length ms) (length p) d sent)
entry_stands ms p d sent few =
    let p' = length (p ++ payload_in d) in
    let first = length-append ms (brought_by d) in
    let second = length-append (ms ++ brought_by d) sent in
    record {
      action = action_longer (length (ms ++ brought_by d)) (length (ms ++ brought_by d ++ sent)) p' p'
          (kept_action (length ms) (length p) d) (omega (arith, second)) (omega arith) (action_stands ms p d few);
      sent = (omega arith, omega (arith, first, second));
    }

module _ (es : List StoredEntry) (e : StoredEntry) (ms : List Envelope) (p : List ℕ) (d : TraceAction) (sent : List Envelope)
    (few : length (payload_in d) ≤ PAYLOAD_CAPACITY) (is : entry_of e ≡ kept_entry (length ms) (length p) d sent)
    (h : All (IsStored (length ms) (length p)) es) where
  pub claims_more : map (claim_stored (ms ++ brought_by d ++ sent) (p ++ payload_in d)) (es ++ e ∷ [])
      ≡ map (claim_stored ms p) es ++ claim d sent ∷ []
  claims_more =
      let f = claim_stored (ms ++ brought_by d ++ sent) (p ++ payload_in d) in
      map-append f es (e ∷ [])
      ∙ ap (λ (cs : List Claim). cs ++ f e ∷ []) (rw (append_twice ms (brought_by d) sent)
      (claims_same ms (brought_by d ++ sent) p (payload_in d) es h))
      ∙ ap (λ (c : Claim). map (claim_stored ms p) es ++ c ∷ [])
      (ap (claim_said (ms ++ brought_by d ++ sent) (p ++ payload_in d)) is ∙ claim_again ms p d sent few)
    where
      append_twice : (a b c : List Envelope) → a ++ b ++ c ≡ a ++ (b ++ c)
      append_twice [] b c = refl
      append_twice (x ∷ a) b c = ap (λ (ys : List Envelope). x ∷ ys) (append_twice a b c)

  pub all_stand_more : All (IsStored (length (ms ++ brought_by d ++ sent)) (length (p ++ payload_in d))) (es ++ e ∷ [])
  all_stand_more =
      let m' = length (ms ++ brought_by d ++ sent) in
      let p' = length (p ++ payload_in d) in
      let first = length-append ms (brought_by d) in
      let second = length-append (ms ++ brought_by d) sent in
      let bytes = length-append p (payload_in d) in
      All-push (IsStored m' p') es e
      (All-weaker (IsStored (length ms) (length p)) (IsStored m' p') (λ x.
      entry_longer (length ms) m' (length p) p' (omega (arith, first, second)) (omega (arith, bytes)) (entry_of x)) es h)
      (subst (λ (x : PackedEntry). EntryStands m' p' x) (sym is) (entry_stands ms p d sent few))

-- ---- a part of the messages, read by place

get_take : (ms : List Envelope) (n i : ℕ) → i < n → slice_get (take n ms) i ≡ slice_get ms i
get_take ms zero i within = absurd (omega (arith, within))
get_take [] (suc n) i within = refl
get_take (m ∷ ms) (suc n) zero within = refl
get_take (m ∷ ms) (suc n) (suc i) within = get_take ms n i (omega (arith, within))

get_drop : (ms : List Envelope) (start i : ℕ) → slice_get (drop start ms) i ≡ slice_get ms (start + i)
get_drop ms zero i = ap (λ (k : ℕ). slice_get ms k) (let same : i ≡ zero + i = omega arith in same)
get_drop [] (suc start) i = refl
get_drop (m ∷ ms) (suc start) i = get_drop ms start i ∙ ap (λ (k : ℕ). slice_get (m ∷ ms) k)
    (let same : suc (start + i) ≡ suc start + i = omega arith in same)

pub part_within : (ms : List Envelope) (start end place : ℕ) → place < end - start
    → slice_get (part start end ms) place ≡ slice_get ms (start + place)
part_within ms start end place within = get_take (drop start ms) (end - start) place within ∙ get_drop ms start place

pub part_past : (ms : List Envelope) (start end place : ℕ) → end - start ≤ place → slice_get (part start end ms) place ≡ None
part_past ms start end place past =
    let few : length (part start end ms) ≤ end - start = subst (λ (k : ℕ). k ≤ end - start)
    (sym (length-take (end - start) (drop start ms))) (min-le_left (end - start) (length (drop start ms))) in
    slice_get_past (part start end ms) place (omega (arith, few, past))

pub part_length : (ms : List Envelope) (start end : ℕ) → start ≤ end → end ≤ length ms → length (part start end ms) ≡ end - start
part_length ms start end first last =
    let left = length-drop start ms in length-take-le (end - start) (drop start ms) (omega (arith, first, last, left))
