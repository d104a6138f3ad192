-- The entry that a JSON value stands for.
use Rattle.std.specs.Prelude.{ℕ, Bool, true, false, List, [], ◌∷◌, Option, Some, None, option_map, option_and_then, if◌then◌else◌, ◌&&◌}
use Rattle.std.specs.Prelude.{nat_lt, nat_le, length, codes}
use Rattle.std.specs.Option.{option_or}
use Rattle.std.specs.Result.{result_ok}
use Rattle.std.specs.Str.{bytes_eq}
use Rattle.serde_json.specs.Data.{Data, Items, no_items, item}
use Rattle.serde_json.specs.Find.{get, as_str, as_bool, as_array, as_number, as_u64}
use Rattle.trace_text.specs.Fields.{FieldData, fields_in}
use Rattle.hex.specs.Hex.{decode_of}
use Rattle.group_task.specs.declared.node.TheConstants.{NODES}
use Rattle.job_model.specs.declared.payload.TheConstants.{PAYLOAD_CAPACITY}
use Rattle.job_model.specs.declared.queue.TheConstants.{QUEUES}
use Rattle.wire_msg.specs.Envelope.{Envelope}
use Rattle.wire_msg.specs.Reading.{message_of}
use Rattle.node_core.specs.declared.event.Event.{Event}
use Rattle.node_core.specs.declared.event.Event.TheVariants as on
use Rattle.node_core.specs.declared.timer.Timer.{Timer}
use Rattle.node_core.specs.TimerWords.{timer_named}
use Rattle.trace_check.specs.declared.trace.TraceAction.{TraceAction}
use Rattle.trace_check.specs.declared.trace.TraceAction.TheVariants as action
use Rattle.trace_check.specs.declared.trace.RecoverFault.TheVariants as recover
use Rattle.trace_check.specs.Claims.{Claim}

-- bytes, as a text of hex digits
abbrev pub bytes_in : Option Data → Option (List ℕ)
bytes_in d = option_and_then (λ (text : List ℕ). result_ok (decode_of text)) (option_and_then as_str d)

-- the message that a text of hex digits spells
abbrev pub spelled_in : List ℕ → Option Envelope
spelled_in text = option_and_then message_of (result_ok (decode_of text))

abbrev pub message_in : Option Data → Option Envelope
message_in d = option_and_then spelled_in (option_and_then as_str d)

abbrev pub with_first : {A : Type 0} → Option A → Option (List A) → Option (List A)
with_first None xs = None
with_first (Some x) None = None
with_first (Some x) (Some xs) = Some (x ∷ xs)

abbrev pub messages_in : Items → Option (List Envelope)
messages_in no_items = Some []
messages_in (item d ds) = with_first (message_in (Some d)) (messages_in ds)

-- a number without sign, point or exponent
abbrev pub number_in : Option Data → Option ℕ
number_in d = option_and_then as_u64 (option_and_then as_number d)

abbrev pub below : ℕ → ℕ → Option ℕ
below limit n = if nat_lt n limit then Some n else None

abbrev pub short : List ℕ → Option (List ℕ)
short bytes = if nat_le (length bytes) PAYLOAD_CAPACITY then Some bytes else None

-- ---- what was done

-- a priority: 0 where it is left out
abbrev pub ranked : ℕ → Option ℕ
ranked n = if nat_lt 0 n && nat_lt n 256 then Some n else None

abbrev pub priority_in : Option Data → Option ℕ
priority_in None = Some 0
priority_in (Some d) = option_and_then ranked (number_in (Some d))

abbrev pub submitted : Option ℕ → Option ℕ → Option (List ℕ) → Option Event
submitted None priority payload = None
submitted (Some queue) None payload = None
submitted (Some queue) (Some priority) None = None
submitted (Some queue) (Some priority) (Some payload) = Some (on.Submit (record { queue = queue; priority = priority; payload = payload }))

abbrev pub deliver_in : FieldData → Option Event
deliver_in f = option_map (λ (m : Envelope). on.Deliver m) (message_in f.message)

abbrev pub submit_in : FieldData → Option Event
submit_in f = submitted (option_and_then (below QUEUES) (number_in f.queue)) (priority_in f.priority)
    (option_and_then short (bytes_in f.payload))

abbrev pub finish_in : FieldData → Option Event
finish_in f = option_and_then (λ (origin : ℕ). option_map (λ (id : ℕ). on.Finish origin id) (number_in f.id))
    (option_and_then (below NODES) (number_in f.origin))

-- an event: of a timer the name says all
abbrev pub event_in : FieldData → List ℕ → Option Event
event_in f name =
    option_or (option_map (λ (timer : Timer). on.Timer timer) (timer_named name))
    (if bytes_eq name (codes "deliver") then deliver_in f else
    if bytes_eq name (codes "submit") then submit_in f else
    if bytes_eq name (codes "finish") then finish_in f else None)

-- whether the device failed: left out where it didn't
abbrev pub device_in : Option Data → Option Bool
device_in None = Some false
device_in (Some d) = option_and_then (λ (text : List ℕ). if bytes_eq text (codes "device") then Some true else None) (as_str d)

abbrev pub done_in : Event → Bool → TraceAction
done_in event true = action.Faulted event
done_in event false = action.Done event

abbrev pub failed_in : Bool → Option (List ℕ) → Option TraceAction
failed_in kept None = None
failed_in kept (Some text) =
    if bytes_eq text (codes "mount") then Some (action.NotRecovered kept recover.Mount) else
    if bytes_eq text (codes "raise") then Some (action.NotRecovered kept recover.Raise) else None

abbrev pub recovered_in : Bool → Option Data → Option TraceAction
recovered_in kept None = Some (action.Recovered kept)
recovered_in kept (Some d) = failed_in kept (as_str d)

abbrev pub recover_in : FieldData → Option TraceAction
recover_in f = option_and_then (λ (kept : Bool). recovered_in kept f.fault) (option_and_then as_bool f.kept)

abbrev pub action_named : FieldData → List ℕ → Option TraceAction
action_named f name =
    if bytes_eq name (codes "none") then Some action.Nothing else
    if bytes_eq name (codes "crash") then Some action.Crashed else
    if bytes_eq name (codes "recover") then recover_in f else
    option_and_then (λ (event : Event). option_map (λ (failed : Bool). done_in event failed) (device_in f.fault)) (event_in f name)

abbrev pub action_in : FieldData → Option TraceAction
action_in f = option_and_then (action_named f) (option_and_then as_str f.name)

-- the entry; None where a field is missing or wrong
abbrev pub claim_in : Data → Option Claim
claim_in d =
    option_and_then (λ (done : TraceAction). option_map (λ (sent : List Envelope). record { action = done; sent = sent })
    (option_and_then messages_in (option_and_then as_array (get (codes "sent") d))))
    (action_in (fields_in d))
