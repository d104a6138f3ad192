-- Events that were kept are those events again, and stay so whatever is kept after them.
use Rattle.std.proofs.Common.{◌≡◌, ℕ, ◌≤◌, List, [], ◌∷◌, ◌++◌, length, map, All, Some, refl, ap, ◌∙◌, arith}
use Rattle.std.proofs.lemmas.List.{map-append, length-append}
use Rattle.std.proofs.lemmas.List.Elements.{All-head, All-tail, All-push, All-weaker}
use Rattle.job_model.specs.declared.payload.TheConstants.{PAYLOAD_CAPACITY}
use Rattle.wire_msg.specs.Envelope.{Envelope}
use Rattle.node_core.specs.declared.event.Event.{Event}
use Rattle.histories.specs.HistoryEvent.{brought}
use Rattle.trace_check.specs.declared.kept.PackedEvent.{PackedEvent}
use Rattle.trace_check.specs.Kept.{kept_event, payload_of, event_said, EventStands}
use Rattle.trace_check.proofs.PublicLaws.{event_same, event_again, event_stands, event_longer}

-- ---- more is kept, and an event is what it was

events_same : (ms more : List Envelope) (p bytes : List ℕ) (es : List PackedEvent) → All (EventStands (length ms) (length p)) es
    → map (event_said (ms ++ more) (p ++ bytes)) es ≡ map (event_said ms p) es
events_same ms more p bytes [] h = refl
events_same ms more p bytes (e ∷ es) h =
    ap (λ (x : Event). x ∷ map (event_said (ms ++ more) (p ++ bytes)) es)
    (event_same ms more p bytes e (All-head (EventStands (length ms) (length p)) e es h))
    ∙ ap (λ (xs : List Event). event_said ms p e ∷ xs) (events_same ms more p bytes es
    (All-tail (EventStands (length ms) (length p)) e es h))

-- the events, with one more
pub events_more : (es : List PackedEvent) (ms : List Envelope) (p : List ℕ) (e : Event) → All (EventStands (length ms) (length p)) es
    → map (event_said (ms ++ brought (Some e)) (p ++ payload_of e)) (es ++ kept_event (length ms) (length p) e ∷ [])
    ≡ map (event_said ms p) es ++ e ∷ []
events_more es ms p e h =
    let f = event_said (ms ++ brought (Some e)) (p ++ payload_of e) in
    map-append f es (kept_event (length ms) (length p) e ∷ [])
    ∙ ap (λ (xs : List Event). xs ++ f (kept_event (length ms) (length p) e) ∷ []) (events_same ms (brought (Some e)) p (payload_of e) es h)
    ∙ ap (λ (x : Event). map (event_said ms p) es ++ x ∷ []) (event_again ms p e)

-- ---- what is kept can be read

pub all_read_more : (es : List PackedEvent) (ms : List Envelope) (p : List ℕ) (e : Event) → length (payload_of e) ≤ PAYLOAD_CAPACITY
    → All (EventStands (length ms) (length p)) es
    → All (EventStands (length (ms ++ brought (Some e))) (length (p ++ payload_of e))) (es ++ kept_event (length ms) (length p) e ∷ [])
all_read_more es ms p e few h =
    let m' = length (ms ++ brought (Some e)) in
    let p' = length (p ++ payload_of e) in
    let messages = length-append ms (brought (Some e)) in
    let bytes = length-append p (payload_of e) in
    All-push (EventStands m' p') es (kept_event (length ms) (length p) e)
    (All-weaker (EventStands (length ms) (length p)) (EventStands m' p') (λ x.
    event_longer (length ms) m' (length p) p' x (omega (arith, messages)) (omega (arith, bytes))) es h)
    (event_stands ms p e few)
