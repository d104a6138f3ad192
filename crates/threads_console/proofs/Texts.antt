-- Texts of items that are written one after another.
use Rattle.std.proofs.Common.{◌≡◌, ◌<◌, ◌≤◌, ◌+◌, ℕ, Bool, true, List, [], ◌∷◌, ◌++◌, length, drop, slice_get, IfSome, refl, sym, ap, ap₂}
use Rattle.std.proofs.Common.{◌∙◌, append_assoc}
use Rattle.serde_json.specs.Written.{comma_if, compact_text}
use Rattle.histories.specs.declared.history_event.HistoryEvent.{HistoryEvent}
use Rattle.hex.specs.Hex.{encode_lower}
use Rattle.json.specs.Token.{Token, string}
use Rattle.wire_msg.specs.Envelope.{Envelope}
use Rattle.wire_msg.specs.Spelling.{Spells}
use Rattle.node_lock.specs.declared.line.Quiet.{Quiet}
use Rattle.node_lock.specs.History.{Turn}
use Rattle.node_core.specs.declared.event.Event.{Event}
use Rattle.node_lock.specs.Kept.{IsHandledAt, IsQuietAt, Log}
use Rattle.trace_check.specs.Claims.{Claim}
use Rattle.cluster_sim.specs.Traced.{action_of, done}
use Rattle.trace_text.specs.Tokens.{message_tokens}
use Rattle.trace_text.specs.Written.{entry_data, history_data}
use Rattle.trace_text.proofs.PublicLaws.{there, drop_get, drop_all, messages_more}
use Rattle.threads_console.specs.Texts.{IsTextAt, entries_text, histories_text, log_claims, quiet_claim, turn_claim}

-- a text with one item more: what is left has that item no more
more : (text new comma item rest : List ℕ) → new ≡ text ++ (comma ++ item) → new ++ rest ≡ text ++ (comma ++ (item ++ rest))
more text new comma item rest added =
    ap (λ s. s ++ rest) added ∙ append_assoc text (comma ++ item) rest ∙ ap (λ s. text ++ s) (append_assoc comma item rest)

pub turn_more : (text new item bytes : List ℕ) (later : Bool) (turns : List Turn) (i : ℕ) → IsTextAt i turns bytes → item ≡ bytes
    → new ≡ text ++ (comma_if later ++ item) → new ++ entries_text true (drop (i + 1) turns) ≡ text ++ entries_text later (drop i turns)
turn_more text new item bytes later turns i is same added =
    let whole = compact_text (entry_data (turn_claim is.turn)) in
    more text new (comma_if later) whole (entries_text true (drop (i + 1) turns))
    (added ∙ ap (λ (s : List ℕ). text ++ (comma_if later ++ s)) (same ∙ is.is_text))
    ∙ ap (λ (ts : List Turn). text ++ entries_text later ts) (sym (drop_get turns i is.turn is.at))

quiet_is : (turns : List Turn) (i : ℕ) (q : Quiet) (is : IsQuietAt i q turns) → quiet_claim q ≡ turn_claim is.turn
quiet_is turns i q is = sym (ap₂ (λ (what : HistoryEvent) (sent : List Envelope). record { action = action_of what; sent = sent }) is.what
    is.sent)

pub quiet_more : (text new item : List ℕ) (later : Bool) (turns : List Turn) (i : ℕ) (q : Quiet) → IsQuietAt i q turns
    → item ≡ compact_text (entry_data (quiet_claim q)) → new ≡ text ++ (comma_if later ++ item)
    → new ++ entries_text true (drop (i + 1) turns) ≡ text ++ entries_text later (drop i turns)
quiet_more text new item later turns i q is same added =
    turn_more text new item item later turns i (record {
      turn = is.turn;
      at = is.at;
      is_text = same
          ∙ ap (λ (c : Claim). compact_text (entry_data c)) (quiet_is turns i q is);
    }) refl added

pub history_more : (text new : List ℕ) (later : Bool) (h : Log) (rest : List Log)
    → new ≡ text ++ (comma_if later ++ compact_text (history_data (log_claims h)))
    → new ++ histories_text true rest ≡ text ++ histories_text later (h ∷ rest)
history_more text new later h rest added = more text new (comma_if later) (compact_text (history_data (log_claims h)))
    (histories_text true rest) added

-- no turn is left
pub turns_all : (text all : List ℕ) (later : Bool) (turns : List Turn) (i : ℕ) → length turns ≤ i
    → text ++ entries_text later (drop i turns) ≡ all → text ++ 93 ∷ [] ≡ all
turns_all text all later turns i past is = ap (λ ts. text ++ entries_text later ts) (sym (drop_all turns i past)) ∙ is

-- a message more that was sent
pub message_more : (out new : List Token) (item bytes : List ℕ) (ms : List Envelope) (i : ℕ) → i < length ms
    → IfSome (slice_get ms i) (λ m. Spells m bytes) → item ≡ bytes → new ≡ out ++ string (encode_lower item) ∷ []
    → new ++ message_tokens (drop (i + 1) ms) ≡ out ++ message_tokens (drop i ms)
message_more out new item bytes ms i within spelled same added =
    let (m, at, spells) = there (λ (m : Envelope). Spells m bytes) ms i within spelled in
    messages_more out new ms i m at (added ∙ ap (λ (bs : List ℕ). out ++ string (encode_lower bs) ∷ []) (same ∙ spells.spelled))

-- the entry of an event that was handled is that of its turn
pub handled_text : (place : ℕ) (turns : List Turn) (event : Event) (sent : List Envelope) → IsHandledAt place event sent turns
    → (text : List ℕ) → text ≡ compact_text (entry_data (record { action = done event; sent = sent })) → IsTextAt place turns text
handled_text place turns event sent is text said = record {
  turn = is.turn;
  at = is.at;
  is_text = said ∙ ap (λ (c : Claim). compact_text (entry_data c))
      (sym (ap₂ (λ (what : HistoryEvent) (ms : List Envelope). record { action = action_of what; sent = ms }) is.what is.sent));
}
