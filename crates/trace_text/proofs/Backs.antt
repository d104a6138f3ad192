-- The JSON value that is written for a trace stands for that trace.
use Rattle.std.proofs.Common.{◌≡◌, ◌<◌, ◌≤◌, ◌+◌, ◌^◌, ℕ, suc, Bool, true, false, List, [], ◌∷◌, length, map, Option, Some, None, Result}
use Rattle.std.proofs.Common.{Ok, codes, refl, ap, ap₂, ◌∙◌, arith, lt-ltb, le-leb, eq-eqb}
use Rattle.std.specs.Prelude.{if◌then◌else◌, ◌==◌, option_map, option_and_then}
use Rattle.std.specs.Result.{result_ok}
use Rattle.hex.specs.Hex.{encode_lower, decode_of}
use Rattle.hex.specs.declared.error.FromHexError.{FromHexError}
use Rattle.hex.proofs.HexLemmas.{decode_of-encode_lower}
use Rattle.serde_json.specs.Data.{Data, Members, number, unsigned, string, array, object, no_members, member}
use Rattle.serde_json.specs.Find.{get}
use Rattle.serde_json.specs.View.{items_of}
use Rattle.group_task.specs.declared.node.TheConstants.{NODES}
use Rattle.job_model.specs.declared.payload.TheConstants.{PAYLOAD_CAPACITY}
use Rattle.job_model.specs.declared.queue.TheConstants.{QUEUES}
use Rattle.job_model.specs.declared.work.Work.{Work}
use Rattle.wire_msg.specs.Envelope.{Envelope}
use Rattle.wire_msg.specs.Spelling.{spelling, AreBytes, IsMessage}
use Rattle.wire_msg.specs.Reading.{message_of}
use Rattle.wire_msg.proofs.PublicLaws.{IsBytes-from_all, IsBytes-spelling, spelled_is_message}
use Rattle.node_core.specs.declared.event.Event.{Event}
use Rattle.node_core.specs.declared.event.Event.TheVariants as on
use Rattle.node_core.specs.declared.timer.Timer.TheVariants as timer
use Rattle.histories.specs.Lists.{Each}
use Rattle.trace_check.specs.declared.trace.TraceAction.{TraceAction}
use Rattle.trace_check.specs.declared.trace.TraceAction.TheVariants as action
use Rattle.trace_check.specs.declared.trace.RecoverFault.TheVariants as recover
use Rattle.trace_check.specs.Claims.{Claim}
use Rattle.trace_text.specs.Fields.{fields_in}
use Rattle.trace_text.specs.Entries.{message_in, with_first, messages_in, below, short, priority_in, submitted, done_in, action_in}
use Rattle.trace_text.specs.Entries.{claim_in}
use Rattle.trace_text.specs.Fits.{EventFits, IsNamed, WorkFits, ActionFits, ClaimFits, TraceFits, HasName, IsWritable}
use Rattle.trace_text.specs.Wholes.{first_entry, entries_from, first_history, histories_from, count_items, all_lists, shape_in, in_shape}
use Rattle.trace_text.specs.Written.{message_data, entry_data, history_data, trace_data}

-- ---- messages

message_back : (m : Envelope) → IsMessage m → message_in (Some (message_data m)) ≡ Some m
message_back m fits =
    ap (λ (r : Result (List ℕ) FromHexError). option_and_then message_of (result_ok r))
    (decode_of-encode_lower (spelling m) (IsBytes-spelling m fits))
    ∙ spelled_is_message (spelling m) m (record { message = fits; spelled = refl })

messages_back : (ms : List Envelope) → Each IsMessage ms → messages_in (items_of (map message_data ms)) ≡ Some ms
messages_back [] fits = refl
messages_back (m ∷ ms) fits = ap₂ with_first (message_back m fits.0) (messages_back ms fits.1)

-- ---- numbers

pub below_back : (limit n : ℕ) → n < limit → below limit n ≡ Some n
below_back limit n h = rw (lt-ltb n limit h)

abbrev ranking : Bool → ℕ → Option Data
ranking b p = if b then None else Some (number (unsigned p))

priority_back : (b : Bool) (p : ℕ) → (p == 0) ≡ b → p < 2 ^ 8 → priority_in (ranking b p) ≡ Some p
priority_back true p is fits = ap (λ (n : ℕ). Some n) (grind (arith, is))
priority_back false p is fits = let more : 0 < p = grind (arith, is) in let few : p < 256 = omega (arith, fits) in
    rw (lt-ltb 0 p more, lt-ltb p 256 few)

payload_back : (bytes : List ℕ) → length bytes ≤ PAYLOAD_CAPACITY → AreBytes bytes
    → option_and_then short (result_ok (decode_of (encode_lower bytes))) ≡ Some bytes
payload_back bytes few fits =
    ap (λ (r : Result (List ℕ) FromHexError). option_and_then short (result_ok r))
    (decode_of-encode_lower bytes (IsBytes-from_all bytes fits)) ∙ rw (le-leb (length bytes) PAYLOAD_CAPACITY few)

-- ---- what was done

abbrev pub sent_data : List Envelope → Data
sent_data ms = array (items_of (map message_data ms))

abbrev pub ranked_members : Bool → Work → List Envelope → Members
ranked_members b w ms =
    let rest = member (codes "queue") (number (unsigned w.queue)) (member (codes "sent") (sent_data ms) no_members) in
    member (codes "payload") (string (encode_lower w.payload))
    (if b then rest else member (codes "priority") (number (unsigned w.priority)) rest)

abbrev pub work_members : Bool → Bool → Work → List Envelope → Members
work_members true b w ms = member (codes "do") (string (codes "submit"))
    (member (codes "fault") (string (codes "device")) (ranked_members b w ms))
work_members false b w ms = member (codes "do") (string (codes "submit")) (ranked_members b w ms)

parts_back : (failed : Bool) (w : Work) (queue priority : Option ℕ) (payload : Option (List ℕ)) → queue ≡ Some w.queue
    → priority ≡ Some w.priority → payload ≡ Some w.payload
    → option_and_then (λ (event : Event). Some (done_in event failed)) (submitted queue priority payload)
    ≡ Some (done_in (on.Submit w) failed)
parts_back failed w queue priority payload a b c = rw (a, b, c) refl

submit_back : (failed b : Bool) (w : Work) (ms : List Envelope) → (w.priority == 0) ≡ b → WorkFits w
    → action_in (fields_in (object (work_members failed b w ms))) ≡ Some (done_in (on.Submit w) failed)
submit_back true true w ms is fits = parts_back true w _ _ _ (below_back QUEUES w.queue fits.queue)
    (priority_back true w.priority is fits.priority) (payload_back w.payload fits.payload fits.bytes)
submit_back false true w ms is fits = parts_back false w _ _ _ (below_back QUEUES w.queue fits.queue)
    (priority_back true w.priority is fits.priority) (payload_back w.payload fits.payload fits.bytes)
submit_back failed b w ms is fits = parts_back failed w _ _ _ (below_back QUEUES w.queue fits.queue)
    (priority_back b w.priority is fits.priority) (payload_back w.payload fits.payload fits.bytes)

deliver_back : (failed : Bool) (m : Envelope) → IsMessage m
    → option_and_then (λ (event : Event). Some (done_in event failed))
    (option_map (λ (x : Envelope). on.Deliver x) (message_in (Some (message_data m)))) ≡ Some (done_in (on.Deliver m) failed)
deliver_back failed m fits = rw (message_back m fits) refl

finish_back : (failed : Bool) (origin id : ℕ) → origin < NODES
    → option_and_then (λ (event : Event). Some (done_in event failed))
    (option_and_then (λ (o : ℕ). Some (on.Finish o id)) (below NODES origin)) ≡ Some (done_in (on.Finish origin id) failed)
finish_back failed origin id h = rw (below_back NODES origin h) refl

abbrev pub claim_with : TraceAction → List Envelope → Claim
claim_with d ms = record { action = d; sent = ms }

event_back : (failed : Bool) (event : Event) (ms : List Envelope) → EventFits event → IsNamed event
    → action_in (fields_in (entry_data (claim_with (done_in event failed) ms))) ≡ Some (done_in event failed)
event_back true (on.Timer timer.Check) ms fits named = refl
event_back false (on.Timer timer.Check) ms fits named = refl
event_back _ (on.Timer _) ms fits named = refl
event_back true (on.Deliver m) ms fits named = deliver_back true m fits
event_back false (on.Deliver m) ms fits named = deliver_back false m fits
event_back true (on.Submit w) ms fits named = submit_back true (w.priority == 0) w ms refl fits
event_back false (on.Submit w) ms fits named = submit_back false (w.priority == 0) w ms refl fits
event_back true (on.Finish origin id) ms fits named = finish_back true origin id fits.0
event_back false (on.Finish origin id) ms fits named = finish_back false origin id fits.0
event_back failed on.Recover ms fits named = absurd named

action_back : (d : TraceAction) (ms : List Envelope) → ActionFits d → HasName d
    → action_in (fields_in (entry_data (claim_with d ms))) ≡ Some d
action_back (action.Done event) ms fits named = event_back false event ms fits named
action_back (action.Faulted event) ms fits named = event_back true event ms fits named
action_back (action.NotRecovered kept recover.Mount) ms fits named = refl
action_back _ ms fits named = refl

-- ---- entries

work_sent : (failed b : Bool) (w : Work) (ms : List Envelope)
    → get (codes "sent") (object (work_members failed b w ms)) ≡ Some (sent_data ms)
work_sent true true w ms = refl
work_sent false true w ms = refl
work_sent _ _ w ms = refl

event_sent : (failed : Bool) (event : Event) (ms : List Envelope)
    → get (codes "sent") (entry_data (claim_with (done_in event failed) ms)) ≡ Some (sent_data ms)
event_sent true (on.Submit w) ms = work_sent true (w.priority == 0) w ms
event_sent false (on.Submit w) ms = work_sent false (w.priority == 0) w ms
event_sent _ _ ms = refl

sent_there : (d : TraceAction) (ms : List Envelope) → get (codes "sent") (entry_data (claim_with d ms)) ≡ Some (sent_data ms)
sent_there (action.Done event) ms = event_sent false event ms
sent_there (action.Faulted event) ms = event_sent true event ms
sent_there _ ms = refl

claim_back : (c : Claim) → ClaimFits c → HasName c.action → claim_in (entry_data c) ≡ Some c
claim_back c fits named =
    rw (action_back c.action c.sent fits.0 named, sent_there c.action c.sent, messages_back c.sent fits.1) refl

entries_back : (node i : ℕ) (h : List Claim) → Each ClaimFits h → Each (λ (c : Claim). HasName c.action) h
    → entries_from node i (items_of (map entry_data h)) ≡ Ok h
entries_back node i [] fits named = refl
entries_back node i (c ∷ h) fits named =
    ap₂ (first_entry node i) (claim_back c fits.0 named.0) (entries_back node (i + 1) h fits.1 named.1)

pub histories_back : (node : ℕ) (hs : List (List Claim)) → TraceFits hs
    → Each (λ (h : List Claim). Each (λ (c : Claim). HasName c.action) h) hs → histories_from node (items_of (map history_data hs)) ≡ Ok hs
histories_back node [] fits named = refl
histories_back node (h ∷ hs) fits named =
    ap₂ first_history (entries_back node 0 h fits.0 named.0) (histories_back (node + 1) hs fits.1 named.1)

-- ---- the whole

pub as_many : (hs : List (List Claim)) → count_items (items_of (map history_data hs)) ≡ length hs
as_many [] = refl
as_many (h ∷ hs) = ap suc (as_many hs)

pub are_lists : (hs : List (List Claim)) → all_lists (items_of (map history_data hs)) ≡ true
are_lists [] = refl
are_lists (h ∷ hs) = are_lists hs

shape_back : (hs : List (List Claim)) → 1 ≤ length hs → length hs ≤ NODES → shape_in (trace_data hs) ≡ Some (items_of (map history_data hs))
shape_back hs some most =
    let more : 0 < length hs = omega (arith, some) in
    rw (
      lt-ltb 0 (length hs) more,
      le-leb (length hs) NODES most,
      eq-eqb (count_items (items_of (map history_data hs))) (length hs) (as_many hs),
      are_lists hs,
    ) refl

pub trace_back : (hs : List (List Claim)) → length hs ≤ NODES → TraceFits hs → IsWritable hs → in_shape (shape_in (trace_data hs)) ≡ Ok hs
trace_back hs most fits writable = ap in_shape (shape_back hs writable.some most) ∙ histories_back 0 hs fits writable.named
