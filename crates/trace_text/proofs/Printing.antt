-- The tokens of a trace are those of its JSON value.
use Rattle.std.proofs.Common.{◌≡◌, ◌≤◌, ◌+◌, ℕ, Bool, true, false, List, [], ◌∷◌, ◌++◌, length, drop, map, slice_get, Some, codes, decimal}
use Rattle.std.proofs.Common.{refl, sym, ap, ap₂, ◌∙◌, subst, append_assoc, arith}
use Rattle.std.specs.Prelude.{OnOk, Result, Ok, Err, if◌then◌else◌, ◌==◌}
use Rattle.std.specs.declared.alloc.AllocError.{AllocError}
use Rattle.std.proofs.lemmas.Result.{on_ok_weaker}
use Rattle.json.specs.Written.{Written}
use Rattle.std.proofs.lemmas.List.{drop_more, length-drop}
use Rattle.std.proofs.lemmas.Option.{slice_get_within, get_or_from_slice_get}
use Rattle.hex.specs.Hex.{encode_lower}
use Rattle.json.specs.Token.{Token}
use Rattle.json.specs.Token as token
use Rattle.json.specs.Tree.{json_tokens, items_tokens, members_tokens}
use Rattle.json.specs.Print.{print}
use Rattle.serde_json.specs.Data.{Members, array, number, unsigned, no_members, member}
use Rattle.serde_json.specs.View.{items_of}
use Rattle.serde_json.specs.Written.{outline, items_outline, members_outline, compact_text}
use Rattle.serde_json.proofs.Texts.{print-outline}
use Rattle.histories.specs.Lists.{Each}
use Rattle.wire_msg.specs.Envelope.{Envelope}
use Rattle.wire_msg.specs.Spelling.{spelling}
use Rattle.node_core.specs.declared.event.Event.{Event}
use Rattle.node_core.specs.declared.event.Event.TheVariants as on
use Rattle.trace_check.specs.declared.trace.TraceAction.{TraceAction}
use Rattle.trace_check.specs.declared.trace.TraceAction.TheVariants as action
use Rattle.trace_check.specs.Claims.{Claim}
use Rattle.trace_text.specs.Written.{message_data, event_members, priority_members, action_name, action_members, entry_data, history_data}
use Rattle.trace_text.specs.Written.{trace_data}
use Rattle.trace_text.specs.Tokens.{Adds, priority_tokens, event_tokens, action_tokens, message_tokens, entry_tokens, entries_tokens}
use Rattle.trace_text.specs.Tokens.{history_tokens, histories_tokens, trace_tokens}

messages_of : (ms : List Envelope) → items_tokens (items_outline (items_of (map message_data ms)))
    ≡ message_tokens ms ++ token.end_array ∷ []
messages_of [] = refl
messages_of (m ∷ ms) = ap (λ (ts : List Token). token.string (encode_lower (spelling m)) ∷ ts) (messages_of ms)

priority_of : (priority : ℕ) (rest : Members) → members_tokens (members_outline (priority_members priority rest))
    ≡ priority_tokens priority ++ members_tokens (members_outline rest)
priority_of priority rest = by_zero (priority == 0)
  where
    by_zero : (b : Bool) → members_tokens (members_outline (if b then rest
        else member (codes "priority") (number (unsigned priority)) rest))
        ≡ (if b then [] else token.key (codes "priority") ∷ token.number (decimal priority) ∷ []) ++ members_tokens (members_outline rest)
    by_zero true = refl
    by_zero false = refl

event_of : (e : Event) (rest : Members) → members_tokens (members_outline (event_members e rest))
    ≡ event_tokens e ++ members_tokens (members_outline rest)
event_of (on.Submit work) rest =
    ap (λ (ts : List Token). token.key (codes "payload") ∷ token.string (encode_lower work.payload) ∷ ts)
    (priority_of work.priority (member (codes "queue") (number (unsigned work.queue)) rest)
    ∙ sym (append_assoc (priority_tokens work.priority) (token.key (codes "queue") ∷ token.number (decimal work.queue) ∷ [])
    (members_tokens (members_outline rest))))
event_of _ rest = refl

action_of : (d : TraceAction) (rest : Members) → members_tokens (members_outline (action_members d rest))
    ≡ action_tokens d ++ members_tokens (members_outline rest)
action_of (action.Done event) rest = event_of event rest
action_of (action.Faulted event) rest = ap (λ (ts : List Token). token.key (codes "fault") ∷ token.string (codes "device") ∷ ts)
    (event_of event rest)
action_of _ rest = refl

entry_of : (c : Claim) → json_tokens (outline (entry_data c)) ≡ entry_tokens c
entry_of c =
    let sent = items_outline (items_of (map message_data c.sent)) in
    ap (λ (ts : List Token). token.begin_object ∷ token.key (codes "do") ∷ token.string (action_name c.action) ∷ ts)
    (action_of c.action (member (codes "sent") (array (items_of (map message_data c.sent))) no_members)
    ∙ ap (λ (ts : List Token). action_tokens c.action ++ token.key (codes "sent") ∷ token.begin_array ∷ (ts ++ token.end_object ∷ []))
    (messages_of c.sent)
    ∙ ap (λ (ts : List Token). action_tokens c.action ++ token.key (codes "sent") ∷ token.begin_array ∷ ts)
    (append_assoc (message_tokens c.sent) (token.end_array ∷ []) (token.end_object ∷ [])))

pub entry_printed : (c : Claim) → print (entry_tokens c) ≡ compact_text (entry_data c)
entry_printed c = ap print (sym (entry_of c)) ∙ print-outline (entry_data c)

entries_of : (h : List Claim) → items_tokens (items_outline (items_of (map entry_data h))) ≡ entries_tokens h ++ token.end_array ∷ []
entries_of [] = refl
entries_of (c ∷ h) =
    ap₂ (λ (ts us : List Token). ts ++ us) (entry_of c) (entries_of h)
    ∙ sym (append_assoc (entry_tokens c) (entries_tokens h) (token.end_array ∷ []))

history_of : (h : List Claim) → json_tokens (outline (history_data h)) ≡ history_tokens h
history_of h = ap (λ (ts : List Token). token.begin_array ∷ ts) (entries_of h)

pub histories_of : (hs : List (List Claim)) → items_tokens (items_outline (items_of (map history_data hs)))
    ≡ histories_tokens hs ++ token.end_array ∷ []
histories_of [] = refl
histories_of (h ∷ hs) =
    ap₂ (λ (ts us : List Token). ts ++ us) (history_of h) (histories_of hs)
    ∙ sym (append_assoc (history_tokens h) (histories_tokens hs) (token.end_array ∷ []))

pub trace_tokens_of : (hs : List (List Claim)) → json_tokens (outline (trace_data hs)) ≡ trace_tokens hs
trace_tokens_of hs =
    let rest = token.key (codes "nodes") ∷ token.number (decimal (length hs)) ∷ token.end_object ∷ [] in
    ap (λ (ts : List Token). token.begin_object ∷ token.key (codes "histories") ∷ token.begin_array ∷ (ts ++ rest)) (histories_of hs)
    ∙ ap (λ (ts : List Token). token.begin_object ∷ token.key (codes "histories") ∷ token.begin_array ∷ ts)
    (append_assoc (histories_tokens hs) (token.end_array ∷ []) rest)

pub trace_printed : (hs : List (List Claim)) → print (trace_tokens hs) ≡ compact_text (trace_data hs)
trace_printed hs = ap print (sym (trace_tokens_of hs)) ∙ print-outline (trace_data hs)

-- ---- lists that are written one after another, by place

pub drop_get : {A : Type 0} → (xs : List A) (i : ℕ) (x : A) → slice_get xs i ≡ Some x → drop i xs ≡ x ∷ drop (i + 1) xs
drop_get {A} xs i x is = drop_more xs i x (slice_get_within xs i x is)
    ∙ ap (λ (y : A). y ∷ drop (i + 1) xs) (get_or_from_slice_get xs i x x is)

pub drop_all : {A : Type 0} → (xs : List A) (i : ℕ) → length xs ≤ i → drop i xs ≡ []
drop_all xs i past = none_left (drop i xs) (let left = length-drop i xs in omega (arith, past, left))
  where
    none_left : {A : Type 0} → (ys : List A) → length ys ≡ 0 → ys ≡ []
    none_left [] is = refl
    none_left (y ∷ ys) is = absurd (omega (arith, is))

-- what holds of each from here on, once it holds of the one at this place
pub each_more : {A : Type 0} (P : A → Type 0) (xs : List A) (i : ℕ) (x : A) → slice_get xs i ≡ Some x → P x → Each P (drop (i + 1) xs)
    → Each P (drop i xs)
each_more P xs i x is here rest = subst (Each P) (sym (drop_get xs i x is)) (here, rest)

-- the tokens of a list are those of its first, and then those of the others
one_more : {A : Type 0} (first : A → List Token) (tokens : List A → List Token)
    → ((x : A) (rest : List A) → tokens (x ∷ rest) ≡ first x ++ tokens rest) → (out more : List Token) (xs : List A) (i : ℕ) (x : A)
    → slice_get xs i ≡ Some x → more ≡ out ++ first x
    → more ++ tokens (drop (i + 1) xs) ≡ out ++ tokens (drop i xs)
one_more first tokens law out more xs i x is added =
    let rest = drop (i + 1) xs in
    ap (λ (ts : List Token). ts ++ tokens rest) added ∙ append_assoc out (first x) (tokens rest)
    ∙ ap (λ (ts : List Token). out ++ ts) (sym (law x rest) ∙ ap tokens (sym (drop_get xs i x is)))

pub entries_more : (out more : List Token) (h : List Claim) (i : ℕ) (c : Claim) → slice_get h i ≡ Some c → more ≡ out ++ entry_tokens c
    → more ++ entries_tokens (drop (i + 1) h) ≡ out ++ entries_tokens (drop i h)
entries_more = one_more entry_tokens entries_tokens (λ x rest. refl)

pub messages_more : (out more : List Token) (ms : List Envelope) (i : ℕ) (m : Envelope) → slice_get ms i ≡ Some m
    → more ≡ out ++ token.string (encode_lower (spelling m)) ∷ []
    → more ++ message_tokens (drop (i + 1) ms) ≡ out ++ message_tokens (drop i ms)
messages_more = one_more (λ k. token.string (encode_lower (spelling k)) ∷ []) message_tokens (λ x rest. refl)

-- ---- what is added one after another

pub ok_then : (r : Result (Unit {0}) AllocError) (a b c : Written) (ts us : List Token) → Adds a b ts → OnOk r (Adds b c us)
    → OnOk r (Adds a c (ts ++ us))
ok_then r a b c ts us x h = on_ok_weaker r (λ (y : Adds b c us). adds_then a b c ts us x y) h
  where
    adds_then : (a b c : Written) (ts us : List Token) → Adds a b ts → Adds b c us → Adds a c (ts ++ us)
    adds_then a b c ts us x y = record {
      before = y.before ∙ x.before;
      tokens = y.tokens ∙ ap (λ (zs : List Token). zs ++ us) x.tokens
          ∙ append_assoc a.tokens ts us;
    }

-- a whole of its head, its histories and its end
pub whole_added : (hs : List (List Claim)) (end : List Token) (r : Result (Unit {0}) AllocError) (a b c d : Written)
    → Adds a b (token.begin_object ∷ token.key (codes "histories") ∷ token.begin_array ∷ []) → Adds b c (histories_tokens hs)
    → OnOk r (Adds c d end)
    → OnOk r (Adds a d (token.begin_object ∷ token.key (codes "histories") ∷ token.begin_array ∷ (histories_tokens hs ++ end)))
whole_added hs end r a b c d begun middle ended =
    ok_then r a b d (token.begin_object ∷ token.key (codes "histories") ∷ token.begin_array ∷ [])
    (histories_tokens hs ++ end) begun (ok_then r b c d (histories_tokens hs) end middle ended)

pub if_ok : (r : Result (Unit {0}) AllocError) (P : Type 0) → P → OnOk r P
if_ok (Ok u) P p = p
if_ok (Err e) P p = tt

pub written_text : (hs : List (List Claim)) (a b : Written) (items : List ℕ) → a.before ≡ [] → a.tokens ≡ [] → Adds a b (trace_tokens hs)
    → items ≡ b.before ++ print b.tokens → items ≡ compact_text (trace_data hs)
written_text hs a b items none empty adds is =
    rw (is, adds.before, none, adds.tokens, empty) (trace_printed hs)
