-- What was read entry by entry is what the value of JSON stands for.
use Rattle.std.proofs.Common.{◌≡◌, ℕ, suc, ◌+◌, Bool, true, false, ◌&&◌, List, [], ◌∷◌, ◌++◌, length, Option, Some, None, Result, Ok, Err}
use Rattle.std.proofs.Common.{option_map, option_and_then, codes, refl, sym, ap, ap₂, ◌∙◌, arith, length-append, append_assoc, append-nil}
use Rattle.std.specs.Prelude.{◌==◌, if◌then◌else◌, nat_lt, nat_le}
use Rattle.std.specs.Option.{option_or}
use Rattle.std.specs.Str.{bytes_eq, IsUtf8}
use Rattle.json.specs.Token.{Token}
use Rattle.json.specs.Json.{parse_map, value}
use Rattle.json.specs.Lex.{tokens}
use Rattle.serde_json.specs.Data.{Data, array, object, Items, no_items, item, Members}
use Rattle.serde_json.specs.Find.{as_array, get_member}
use Rattle.trace_text.proofs.Turns.{whole_read}
use Rattle.group_task.specs.declared.node.TheConstants.{NODES}
use Rattle.wire_msg.specs.Envelope.{Envelope}
use Rattle.trace_check.specs.declared.trace.TraceAction.{TraceAction}
use Rattle.trace_check.specs.Claims.{Claim}
use Rattle.trace_text.specs.declared.fault.Location.{Location}
use Rattle.trace_text.specs.declared.stream.Entries.{Entries}
use Rattle.trace_text.specs.Drafts.{listed_by, unless_bad}
use Rattle.trace_text.specs.Fields.{fields_in, fields_put, plain}
use Rattle.trace_text.specs.Entries.{message_in, messages_in, number_in, action_in, claim_in}
use Rattle.trace_text.specs.Streams.{Drafted, Judged, Listed, data_at, drafted_in, drafted_put, judged_in, judged_of, members_at, parted_in}
use Rattle.trace_text.specs.Streams.{sent_in, shaped}
use Rattle.trace_text.specs.Pieces.{after_good, entries_then, histories_then, lists_then, listed_then, list_then}
use Rattle.trace_text.specs.Wholes.{all_lists, count_items, entries_from, first_entry, first_history, histories_from, in_shape, is_shape}
use Rattle.trace_text.specs.Wholes.{shape_in, trace_of}
use Rattle.trace_text.proofs.Lists.{and_then, one_more}
use Rattle.trace_text.proofs.Plain.{action_same}
use Rattle.trace_text.proofs.Texts.{bad_text, good_text}
use Rattle.trace_text.proofs.Walks.{in_object, mapped_some}

-- ---- messages

abbrev pub messages_then : Bool → List Envelope → Items → Option (List Envelope)
messages_then false ms ds = None
messages_then true ms ds = and_then ms (messages_in ds)

pub messages_begun : (ds : Items) → messages_in ds ≡ messages_then true [] ds
messages_begun ds = begun (messages_in ds)
  where
    begun : (o : Option (List Envelope)) → o ≡ and_then [] o
    begun None = refl
    begun (Some ms) = refl

pub message_more : (all : Bool) (ms : List Envelope) (d : Data) (m : Envelope) (ds : Items) → message_in (Some d) ≡ Some m
    → messages_then all ms (item d ds) ≡ messages_then all (ms ++ m ∷ []) ds
message_more false ms d m ds is = refl
message_more true ms d m ds is = rw is (one_more ms m (messages_in ds))

pub message_bad : (all : Bool) (ms new : List Envelope) (d : Data) (ds : Items) → message_in (Some d) ≡ None
    → messages_then all ms (item d ds) ≡ messages_then false new ds
message_bad false ms new d ds is = refl
message_bad true ms new d ds is = rw is refl

pub messages_done : (all : Bool) (ms : List Envelope) → messages_then all ms no_items ≡ (if all then Some ms else None)
messages_done false ms = refl
messages_done true ms = ap (λ (xs : List Envelope). Some xs) (append-nil ms)

-- ---- an entry

abbrev claim_with : Option TraceAction → Option (List Envelope) → Option Claim
claim_with done sent = option_and_then (λ (d : TraceAction).
    option_map (λ (messages : List Envelope). record { action = d; sent = messages }) sent) done

abbrev pub claim_drafted : Drafted → Option Claim
claim_drafted s = claim_with (action_in s.0) s.1

sent_same : (o : Option Data) → option_and_then messages_in (option_and_then as_array o) ≡ option_and_then sent_in o
sent_same None = refl
sent_same (Some d) = refl

claim_law : (ms : Members) → claim_in (object ms) ≡ claim_drafted (drafted_in ms)
claim_law ms = ap₂ claim_with (sym (action_same (fields_in (object ms)))) (sent_same (get_member (codes "sent") ms))

abbrev pub added_in : List Claim → Data → Option (List Claim)
added_in old d = option_map (λ (c : Claim). old ++ c ∷ []) (claim_in d)

pub entry_read : (ts r new : List Token) (s : Drafted) (o : Option Claim) (old : List Claim) → ts ≡ Token.begin_object ∷ r
    → parse_map drafted_in (members_at 123 r) ≡ Some (s, new) → claim_drafted s ≡ o
    → parse_map (added_in old) (data_at 124 ts) ≡ Some (option_map (λ (c : Claim). old ++ c ∷ []) o, new)
entry_read ts r new s o old is read says =
    let m = mapped_some drafted_in (members_at 123 r) s new read in
    in_object 124 (omega arith) is (added_in old) (λ (ms : Members). added_in old (object ms)) (λ ms. refl)
    ∙ ap (parse_map (λ (ms : Members). added_in old (object ms))) m.1
    ∙ ap (λ (x : Option Claim). Some (option_map (λ (c : Claim). old ++ c ∷ []) x, new)) (claim_law m.0 ∙ ap claim_drafted m.2 ∙ says)

pub no_sent : (s : Drafted) → s.1 ≡ None → claim_drafted s ≡ None
no_sent s is = ap (claim_with (action_in s.0)) is ∙ none (action_in s.0)
  where
    none : (o : Option TraceAction) → claim_with o None ≡ None
    none None = refl
    none (Some d) = refl

pub no_action : (s : Drafted) → action_in s.0 ≡ None → claim_drafted s ≡ None
no_action s is = ap (λ (o : Option TraceAction). claim_with o s.1) is

pub claim_some : (s : Drafted) (done : TraceAction) (sent : List Envelope) → action_in s.0 ≡ Some done → s.1 ≡ Some sent
    → claim_drafted s ≡ Some (record { action = done; sent = sent })
claim_some s done sent is all = ap₂ claim_with is all

-- a field more
pub field_put : (s : Drafted) (key : List ℕ) (o : Option (Data × List Token)) (x : Data) (r : List Token)
    → bytes_eq key (codes "sent") ≡ false → parse_map plain o ≡ Some (x, r)
    → parse_map (drafted_put s key) o ≡ Some ((fields_put s.0 key x, s.1), r)
field_put s key o x r other read =
    let d = mapped_some plain o x r read in ap (parse_map (drafted_put s key)) d.1 ∙ rw (other, d.2) refl

-- ---- the entries of a list

after_none : {A : Type 0} (r : Result (List A) (Option Location)) → r ≡ after_good [] r
after_none (Ok ys) = refl
after_none (Err location) = refl

good_entry : (node index : ℕ) (old : List Claim) (x : Claim) (later : Result (List Claim) (Option Location))
    → after_good old (first_entry node index (Some x) later) ≡ after_good (old ++ x ∷ []) later
good_entry node index old x (Ok cs) = ap (λ (ys : List Claim). Ok ys) (sym (append_assoc old (x ∷ []) cs))
good_entry node index old x (Err location) = refl

one_longer : {A : Type 0} (xs : List A) (x : A) → length (xs ++ x ∷ []) ≡ length xs + 1
one_longer xs x = omega (arith, length-append xs (x ∷ []))

entry_by : (node : ℕ) (h new : List Claim) (bad : Option Location) (o : Option Claim) (ds : Items)
    → option_map (λ (c : Claim). h ++ c ∷ []) o ≡ Some new
    → (later : Result (List Claim) (Option Location)) → later ≡ entries_from node (length h + 1) ds
    → after_good h (first_entry node (length h) o later) ≡ after_good new (entries_from node (length new) ds)
entry_by node h new bad None ds is later same = absurd (cc)
entry_by node h new bad (Some c) ds is later same =
    let grown : h ++ c ∷ [] ≡ new = cc in
    rw (← grown, one_longer h c, same) (good_entry node (length h) h c (entries_from node (length h + 1) ds))

pub entry_more : (node : ℕ) (h new : List Claim) (bad : Option Location) (d : Data) (ds : Items) → added_in h d ≡ Some new
    → entries_then node h bad (item d ds) ≡ entries_then node new bad ds
entry_more node h new None d ds is = entry_by node h new None (claim_in d) ds is (entries_from node (length h + 1) ds) refl
entry_more node h new (Some location) d ds is = refl

bad_by : (node : ℕ) (h new : List Claim) (o : Option Claim) (later : Result (List Claim) (Option Location))
    → option_map (λ (c : Claim). h ++ c ∷ []) o ≡ None
    → after_good h (first_entry node (length h) o later) ≡ Err (Some (record { node = node; index = length h }))
bad_by node h new None later is = refl
bad_by node h new (Some c) later is = absurd (cc)

pub entry_bad : (node : ℕ) (h new : List Claim) (bad : Option Location) (d : Data) (ds : Items) → added_in h d ≡ None
    → entries_then node h bad (item d ds) ≡ entries_then node new (option_or bad (Some (record { node = node; index = length h }))) ds
entry_bad node h new None d ds is = bad_by node h new (claim_in d) (entries_from node (length h + 1) ds) is
entry_bad node h new (Some location) d ds is = refl

pub entries_done : (node : ℕ) (h : List Claim) (bad : Option Location) → entries_then node h bad no_items ≡ unless_bad bad h
entries_done node h None = ap (λ (xs : List Claim). Ok xs) (append-nil h)
entries_done node h (Some location) = refl

-- ---- the lists

good_history : (old : List (List Claim)) (h : List Claim) (later : Result (List (List Claim)) (Option Location))
    → after_good old (first_history (Ok h) later) ≡ after_good (old ++ h ∷ []) later
good_history old h (Ok hs) = ap (λ (ys : List (List Claim)). Ok ys) (sym (append_assoc old (h ∷ []) hs))
good_history old h (Err location) = refl

pub lists_begun : (ds : Items) → judged_of ds ≡ lists_then true [] None ds
lists_begun ds =
    let count : count_items ds ≡ 0 + count_items ds = omega arith in
    ap₂ (λ (n : ℕ) (r : Result (List (List Claim)) (Option Location)). if all_lists ds then Some (n, r)
    else None) count (after_none (histories_from 0 ds))

pub list_opened : (all : Bool) (hs : List (List Claim)) (bad : Option Location) (es ds : Items)
    → lists_then all hs bad (item (array es) ds) ≡ list_then all hs bad (entries_then (length hs) [] None es) ds
list_opened false hs bad es ds = refl
list_opened true hs (Some location) es ds = refl
list_opened true hs None es ds =
    ap (λ (r : Listed). if all_lists ds then Some (length hs + suc (count_items ds), listed_then hs None r ds) else None)
    (after_none (entries_from (length hs) 0 es))

history_closed : (hs : List (List Claim)) (bad now : Option Location) (h : List Claim) (ds : Items)
    → listed_then hs bad (unless_bad now h) ds ≡ histories_then (hs ++ h ∷ []) (option_or bad now) ds
history_closed hs (Some location) now h ds = refl
history_closed hs None (Some location) h ds = refl
history_closed hs None None h ds =
    rw (one_longer hs h) (good_history hs h (histories_from (length hs + 1) ds))

pub list_closed : (all : Bool) (hs : List (List Claim)) (bad : Option Location) (e : Entries) (ds : Items)
    → list_then all hs bad (listed_by e) ds ≡ lists_then all (hs ++ e.history ∷ []) (option_or bad e.bad) ds
list_closed false hs bad e ds = refl
list_closed true hs bad e ds =
    let longer = one_longer hs e.history in
    let count : length hs + suc (count_items ds) ≡ length (hs ++ e.history ∷ []) + count_items ds = omega (arith, longer) in
    ap₂ (λ (n : ℕ) (r : Result (List (List Claim)) (Option Location)). if all_lists ds then Some (n, r)
    else None) count (history_closed hs bad e.bad e.history ds)

pub lists_bad : (all : Bool) (hs : List (List Claim)) (bad : Option Location) (d : Data) (ds : Items) → as_array d ≡ None
    → lists_then all hs bad (item d ds) ≡ lists_then false hs bad ds
lists_bad false hs bad d ds none = refl
lists_bad true hs bad d ds none = rw none refl

pub lists_done : (all : Bool) (hs : List (List Claim)) (bad : Option Location)
    → lists_then all hs bad no_items ≡ (if all then Some (length hs, unless_bad bad hs) else None)
lists_done false hs bad = refl
lists_done true hs None = let same : length hs + 0 ≡ length hs = omega arith in
    ap₂ (λ (n : ℕ) (xs : List (List Claim)). Some (n, Ok xs)) same (append-nil hs)
lists_done true hs (Some location) = let same : length hs + 0 ≡ length hs = omega arith in
    ap (λ (n : ℕ). Some (n, Err (Some location))) same

-- ---- the whole

judged_same : (o : Option Data) → option_and_then judged_in o ≡ option_and_then judged_of (option_and_then as_array o)
judged_same None = refl
judged_same (Some d) = refl

tested : (some few same lists : Bool) (ds : Items) (n : ℕ)
    → in_shape (if some && (few && (same && lists)) then Some ds else None)
    ≡ (if lists then (if some && (few && same) then histories_from 0 ds else Err None) else Err None)
tested true true true true ds n = refl
tested true true true false ds n = refl
tested true true false true ds n = refl
tested true true false false ds n = refl
tested true false same true ds n = refl
tested true false same false ds n = refl
tested false few same true ds n = refl
tested false few same false ds n = refl

shaped_by : (lists : Bool) (nodes count : ℕ) (r : Result (List (List Claim)) (Option Location))
    → (if lists then (if nat_lt 0 nodes && (nat_le nodes NODES && (count == nodes)) then r else Err None) else Err None)
    ≡ shaped (Some nodes, (if lists then Some (count, r) else None))
shaped_by true nodes count r = refl
shaped_by false nodes count r = refl

whole_by : (nodes : Option ℕ) (lists : Option Items)
    → in_shape (option_and_then (λ (n : ℕ). option_and_then (λ (ds : Items). if is_shape n ds then Some ds else None) lists) nodes)
    ≡ shaped (nodes, option_and_then judged_of lists)
whole_by None lists = refl
whole_by (Some n) None = refl
whole_by (Some n) (Some ds) = tested (nat_lt 0 n) (nat_le n NODES) (count_items ds == n) (all_lists ds) ds n
    ∙ shaped_by (all_lists ds) n (count_items ds) (histories_from 0 ds)

abbrev pub trace_in : Data → Result (List (List Claim)) (Option Location)
trace_in d = in_shape (shape_in d)

pub whole_law : (ms : Members) → trace_in (object ms) ≡ shaped (parted_in ms)
whole_law ms =
    let nodes = number_in (get_member (codes "nodes") ms) in
    let lists = get_member (codes "histories") ms in
    whole_by nodes (option_and_then as_array lists) ∙ ap (λ (j : Judged). shaped (nodes, j)) (sym (judged_same lists))

-- ---- the text

module _ (text : List ℕ) (ts : List Token) (front : ts ≡ tokens text) where
  pub text_read : (r : Result (List (List Claim)) (Option Location)) → IsUtf8 text → parse_map trace_in (data_at 127 ts) ≡ Some (r, [])
      → trace_of text ≡ r
  text_read r utf8 e =
      let d = mapped_some trace_in (data_at 127 ts) r [] e in
      good_text text d.0 utf8 (whole_read (value 127 (tokens text)) d.0 (ap (data_at 127) (sym front) ∙ d.1)) ∙ d.2

pub text_none : (text : List ℕ) → (IsUtf8 text → ⊥) → trace_of text ≡ Err None
text_none text other = bad_text text (λ utf8. absurd (other utf8))
