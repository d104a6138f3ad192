-- The text that is written for a trace is read as the JSON value of that trace.
use Rattle.std.proofs.Common.{◌≡◌, ◌<◌, ◌≤◌, ◌^◌, ℕ, Bool, true, false, List, [], ◌∷◌, ◌++◌, length, map, Option, Some, Ok, codes, refl}
use Rattle.std.proofs.Common.{sym, ap, ap₂, ◌∙◌, arith, append-nil}
use Rattle.std.specs.Prelude.{if◌then◌else◌, ◌==◌, option_map, option_and_then}
use Rattle.std.specs.Str.{IsUtf8}
use Rattle.json.specs.Lex.{tokens}
use Rattle.json.specs.Print.{print}
use Rattle.json.specs.Token.{Token}
use Rattle.json.specs.Written.{Written}
use Rattle.json.specs.Json as json
use Rattle.json.specs.Tree as tree
use Rattle.json.proofs.Printed.Trees.{value-json_tokens}
use Rattle.serde_json.specs.Data.{Data, Items, Members, number, unsigned, array, object, item, no_members, member}
use Rattle.serde_json.specs.View.{items_of}
use Rattle.serde_json.specs.Read.{of_json, of_items, read, max_depth}
use Rattle.serde_json.specs.Written.{outline, items_outline, members_outline}
use Rattle.serde_json.proofs.Numbers.{number_of-decimal}
use Rattle.group_task.specs.declared.node.TheConstants.{NODES}
use Rattle.job_model.specs.declared.work.Work.{Work}
use Rattle.wire_msg.specs.Envelope.{Envelope}
use Rattle.node_core.specs.declared.event.Event.{Event}
use Rattle.node_core.specs.declared.event.Event.TheVariants as on
use Rattle.histories.specs.Lists.{Each}
use Rattle.trace_check.specs.declared.trace.TraceAction.{TraceAction}
use Rattle.trace_check.specs.declared.trace.TraceAction.TheVariants as action
use Rattle.trace_check.specs.Claims.{Claim}
use Rattle.trace_text.specs.Entries.{done_in}
use Rattle.trace_text.specs.Fits.{EventFits, WorkFits, ActionFits, ClaimFits, TraceFits, IsWritable}
use Rattle.trace_text.specs.Tokens.{Adds, trace_tokens}
use Rattle.trace_text.specs.Wholes.{trace_of}
use Rattle.trace_text.specs.Written.{message_data, event_members, action_members, entry_data, history_data, trace_data}
use Rattle.trace_text.proofs.Backs.{claim_with, sent_data, trace_back, work_members}
use Rattle.trace_text.proofs.Printing.{trace_tokens_of}
use Rattle.trace_text.proofs.Texts.{good_text}

-- ---- each value is read as it is

sent_read : (ms : List Envelope) → of_items (items_outline (items_of (map message_data ms))) ≡ Some (items_of (map message_data ms))
sent_read [] = refl
sent_read (m ∷ ms) = ap (λ (o : Option Items). option_map (item (message_data m)) o) (sent_read ms)

-- a priority takes a byte, a queue one too
work_read : (failed b : Bool) (w : Work) (ms : List Envelope) → WorkFits w
    → of_json (outline (object (work_members failed b w ms))) ≡ Some (object (work_members failed b w ms))
work_read true true w ms fits = let queue : w.queue < 2 ^ 64 = omega (arith, fits.queue) in
    rw (number_of-decimal w.queue queue, sent_read ms) refl
work_read false true w ms fits = let queue : w.queue < 2 ^ 64 = omega (arith, fits.queue) in
    rw (number_of-decimal w.queue queue, sent_read ms) refl
work_read _ _ w ms fits =
    let queue : w.queue < 2 ^ 64 = omega (arith, fits.queue) in
    let priority : w.priority < 2 ^ 64 = omega (arith, fits.priority) in
    rw (number_of-decimal w.priority priority, number_of-decimal w.queue queue, sent_read ms) refl

event_read : (failed : Bool) (event : Event) (ms : List Envelope) → EventFits event
    → of_json (outline (entry_data (claim_with (done_in event failed) ms))) ≡ Some (entry_data (claim_with (done_in event failed) ms))
event_read true (on.Submit w) ms fits = work_read true (w.priority == 0) w ms fits
event_read false (on.Submit w) ms fits = work_read false (w.priority == 0) w ms fits
event_read _ (on.Finish origin id) ms fits = let place : origin < 2 ^ 64 = omega (arith, fits.0) in
    rw (number_of-decimal id fits.1, number_of-decimal origin place, sent_read ms) refl
event_read _ _ ms fits = rw (sent_read ms) refl

entry_read : (d : TraceAction) (ms : List Envelope) → ActionFits d
    → of_json (outline (entry_data (claim_with d ms))) ≡ Some (entry_data (claim_with d ms))
entry_read (action.Done event) ms fits = event_read false event ms fits
entry_read (action.Faulted event) ms fits = event_read true event ms fits
entry_read _ ms fits = rw (sent_read ms) refl

abbrev first_read : Option Data → Option Items → Option Items
first_read first rest = option_and_then (λ (d : Data). option_map (item d) rest) first

entries_read : (h : List Claim) → Each ClaimFits h → of_items (items_outline (items_of (map entry_data h)))
    ≡ Some (items_of (map entry_data h))
entries_read [] fits = refl
entries_read (c ∷ h) fits = ap₂ first_read (entry_read c.action c.sent fits.0.0) (entries_read h fits.1)

pub histories_read : (hs : List (List Claim)) → TraceFits hs
    → of_items (items_outline (items_of (map history_data hs))) ≡ Some (items_of (map history_data hs))
histories_read [] fits = refl
histories_read (h ∷ hs) fits = ap₂ (λ (o p : Option Items). first_read (option_map array o) p) (entries_read h fits.0)
    (histories_read hs fits.1)

trace_read : (hs : List (List Claim)) → length hs ≤ NODES → TraceFits hs → of_json (outline (trace_data hs)) ≡ Some (trace_data hs)
trace_read hs most fits = let nodes : length hs < 2 ^ 64 = omega (arith, most) in
    rw (histories_read hs fits, number_of-decimal (length hs) nodes) refl

-- ---- and its lists and objects aren't nested deep

sent_flat : (ms : List Envelope) → tree.items_depth (items_outline (items_of (map message_data ms))) ≡ 0
sent_flat [] = refl
sent_flat (m ∷ ms) = let rest = sent_flat ms in omega (arith, rest)

priority_flat : (b : Bool) (priority : ℕ) (rest : Members)
    → tree.members_depth (members_outline (if b then rest else member (codes "priority") (number (unsigned priority)) rest)) ≤
    tree.members_depth (members_outline rest)
priority_flat true priority rest = omega arith
priority_flat false priority rest = omega arith

event_flat : (e : Event) (rest : Members) → tree.members_depth (members_outline (event_members e rest)) ≤ tree.members_depth
    (members_outline rest)
event_flat (on.Submit w) rest = let ranked = priority_flat (w.priority == 0) w.priority
    (member (codes "queue") (number (unsigned w.queue)) rest) in omega (arith, ranked)
event_flat _ rest = omega arith

action_flat : (d : TraceAction) (rest : Members) → tree.members_depth (members_outline (action_members d rest)) ≤ tree.members_depth
    (members_outline rest)
action_flat (action.Done event) rest = event_flat event rest
action_flat (action.Faulted event) rest = let flat = event_flat event rest in omega (arith, flat)
action_flat _ rest = omega arith

entry_flat : (c : Claim) → tree.depth (outline (entry_data c)) ≤ 2
entry_flat c =
    let sent = sent_flat c.sent in
    let done = action_flat c.action (member (codes "sent") (sent_data c.sent) no_members) in
    omega (arith, sent, done)

entries_flat : (h : List Claim) → tree.items_depth (items_outline (items_of (map entry_data h))) ≤ 2
entries_flat [] = omega arith
entries_flat (c ∷ h) = let first = entry_flat c in let rest = entries_flat h in omega (arith, first, rest)

pub histories_flat : (hs : List (List Claim)) → tree.items_depth (items_outline (items_of (map history_data hs))) ≤ 3
histories_flat [] = omega arith
histories_flat (h ∷ hs) = let first = entries_flat h in let rest = histories_flat hs in omega (arith, first, rest)

trace_flat : (hs : List (List Claim)) → tree.depth (outline (trace_data hs)) ≤ max_depth
trace_flat hs = let inside = histories_flat hs in omega (arith, inside)

-- ---- the text

pub value_read : (text : List ℕ) (j : json.Json) (d : Data) → json.value max_depth (tokens text) ≡ Some (j, []) → of_json j ≡ Some d
    → read text ≡ Some d
value_read text j d is means = ap (λ (r : Option (json.Json × List Token)).
    option_and_then of_json (option_and_then (λ (p : json.Json × List Token). json.if_last p.0 p.1) r)) is ∙ means

reads_back : (hs : List (List Claim)) (text : List ℕ) → tokens text ≡ trace_tokens hs → IsUtf8 text → length hs ≤ NODES → TraceFits hs
    → IsWritable hs → trace_of text ≡ Ok hs
reads_back hs text same utf8 most fits writable =
    let j = outline (trace_data hs) in
    let is : read text ≡ Some (trace_data hs) =
    value_read text j (trace_data hs) (ap (json.value max_depth) (same ∙ sym (trace_tokens_of hs) ∙ sym (append-nil (tree.json_tokens j)))
    ∙ value-json_tokens j max_depth [] (trace_flat hs)) (trace_read hs most fits) in
    good_text text (trace_data hs) utf8 is ∙ trace_back hs most fits writable

pub printed_back : (hs : List (List Claim)) (a b : Written) (items : List ℕ) → a.before ≡ [] → a.tokens ≡ [] → Adds a b (trace_tokens hs)
    → items ≡ b.before ++ print b.tokens
    → tokens (print b.tokens) ≡ b.tokens → IsUtf8 (print b.tokens) → length hs ≤ NODES → TraceFits hs → IsWritable hs
    → trace_of items ≡ Ok hs
printed_back hs a b items none empty adds is again utf8 most fits writable =
    let text : items ≡ print b.tokens = rw (is, adds.before, none) refl in
    let tokens : b.tokens ≡ trace_tokens hs = rw (adds.tokens, empty) refl in
    ap trace_of text ∙ reads_back hs (print b.tokens) (again ∙ tokens) utf8 most fits writable
