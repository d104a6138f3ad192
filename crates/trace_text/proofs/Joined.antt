-- The text of a trace, from its parts.
use Rattle.std.proofs.Common.{◌≡◌, ◌<◌, ℕ, zero, suc, true, false, List, [], ◌∷◌, ◌++◌, length, map, slice_get, Some, codes, decimal, sym}
use Rattle.std.proofs.Common.{refl, ap, ◌∙◌, subst, append_assoc, append-nil, arith}
use Rattle.std.specs.Prelude.{OnOk, IfSome, Result}
use Rattle.std.specs.declared.alloc.AllocError.{AllocError}
use Rattle.json.specs.Print.{print, print_from, escape_byte}
use Rattle.json.specs.Token.{Token}
use Rattle.json.specs.Token as token
use Rattle.json.specs.Written.{Written}
use Rattle.serde_json.specs.View.{items_of}
use Rattle.serde_json.specs.Written.{compact_text, items_text}
use Rattle.wire_msg.specs.Envelope.{Envelope}
use Rattle.trace_check.specs.declared.trace.TraceAction.{TraceAction}
use Rattle.trace_check.specs.Claims.{Claim}
use Rattle.trace_text.specs.Ordered.{Ordered, order_text, ordered_data}
use Rattle.trace_text.specs.Parts.{ordered_end, trace_end, trace_head}
use Rattle.trace_text.specs.Tokens.{Adds, action_tokens, message_tokens, head_tokens, end_tokens, entry_tokens}
use Rattle.trace_text.specs.Written.{action_name, entry_data, history_data, trace_data}
use Rattle.trace_text.proofs.Printing.{entry_printed, ok_then}

-- ---- an entry

entry_joined : (d : TraceAction) (ms : List Envelope) → head_tokens d ++ (message_tokens ms ++ end_tokens)
    ≡ entry_tokens (record { action = d; sent = ms })
entry_joined d ms =
    ap (λ (ts : List Token). token.begin_object ∷ token.key (codes "do") ∷ token.string (action_name d) ∷ ts)
    (append_assoc (action_tokens d) (token.key (codes "sent") ∷ token.begin_array ∷ []) (message_tokens ms ++ end_tokens))

pub entry_added : (d : TraceAction) (ms : List Envelope) (r : Result (Unit {0}) AllocError) (a b c e : Written) → Adds a b (head_tokens d)
    → Adds b c (message_tokens ms) → OnOk r (Adds c e end_tokens)
    → OnOk r (Adds a e (entry_tokens (record { action = d; sent = ms })))
entry_added d ms r a b c e begun middle ended =
    subst (λ (ts : List Token). OnOk r (Adds a e ts)) (entry_joined d ms)
    (ok_then r a b e (head_tokens d) (message_tokens ms ++ end_tokens) begun
    (ok_then r b c e (message_tokens ms) end_tokens middle ended))

pub no_messages : (a : Written) → Adds a a (message_tokens [])
no_messages a = record { before = refl; tokens = sym (append-nil a.tokens) }

pub entry_written : (d : TraceAction) (ms : List Envelope) (a b c e : Written) (items : List ℕ) → a.before ≡ [] → a.tokens ≡ []
    → Adds a b (head_tokens d) → Adds b c (message_tokens ms) → Adds c e end_tokens
    → items ≡ e.before ++ print e.tokens → items ≡ compact_text (entry_data (record { action = d; sent = ms }))
entry_written d ms a b c e items none empty begun middle ended is =
    let tokens : e.tokens ≡ entry_tokens (record { action = d; sent = ms }) =
    rw (ended.tokens, middle.tokens, begun.tokens, empty) (append_assoc (head_tokens d) (message_tokens ms) end_tokens ∙ entry_joined d ms)
    in
    rw (is, ended.before, middle.before, begun.before, none, tokens) (entry_printed (record { action = d; sent = ms }))

-- ---- a message that is spelled

pub there : (P : Envelope → Type 0) (ms : List Envelope) (i : ℕ) → i < length ms → IfSome (slice_get ms i) P
    → (m : Envelope) × (slice_get ms i ≡ Some m) × P m
there P [] i within holds = absurd (omega (arith, within))
there P (m ∷ ms) zero within holds = (m, refl, holds)
there P (m ∷ ms) (suc i) within holds = there P ms i (omega (arith, within)) holds

-- ---- the whole

body_joined : (hs : List (List Claim)) (body last : List ℕ)
    → body ++ 93 ∷ [] ≡ trace_head ++ items_text false (items_of (map history_data hs))
    → body ++ 93 ∷ last ≡ trace_head ++ (items_text false (items_of (map history_data hs)) ++ last)
body_joined hs body last is = sym (append_assoc body (93 ∷ []) last) ∙ ap (λ (xs : List ℕ). xs ++ last) is
    ∙ append_assoc trace_head (items_text false (items_of (map history_data hs))) last

-- what stands behind the bracket of the histories
tail : ℕ → List ℕ
tail n = print_from true (token.key (codes "nodes") ∷ token.number (decimal n) ∷ token.end_object ∷ [])

pub whole_text : (hs : List (List Claim)) (n : ℕ) (body : List ℕ) → n ≡ length hs
    → body ++ 93 ∷ [] ≡ trace_head ++ items_text false (items_of (map history_data hs)) → body ++ trace_end n ≡ compact_text (trace_data hs)
unfolding print_from escape_byte tail
whole_text hs n body many is =
    rw many (body_joined hs body (tail (length hs)) is)

ordered_tail : ℕ → List ℕ → List ℕ
ordered_tail n words = print_from true (token.key (codes "nodes") ∷ token.number (decimal n) ∷ token.key (codes "order") ∷ token.string
    words ∷ token.end_object ∷ [])

pub ordered_whole : (hs : List (List Claim)) (o : Ordered) (n : ℕ) (body : List ℕ) → n ≡ length hs
    → body ++ 93 ∷ [] ≡ trace_head ++ items_text false (items_of (map history_data hs))
    → body ++ ordered_end n (order_text o) ≡ compact_text (ordered_data hs o)
unfolding print_from escape_byte ordered_tail
ordered_whole hs o n body many is =
    rw many (body_joined hs body (ordered_tail (length hs) (order_text o)) is)
