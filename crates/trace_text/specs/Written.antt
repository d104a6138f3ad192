-- The JSON value that a trace is written as: the members of an object stand in the order of their keys.
use Rattle.std.specs.Prelude.{ℕ, ◌==◌, if◌then◌else◌, List, length, map, codes}
use Rattle.hex.specs.Hex.{encode_lower}
use Rattle.serde_json.specs.Data.{Data, boolean, number, unsigned, string, array, object, Members, no_members, member}
use Rattle.serde_json.specs.View.{items_of}
use Rattle.serde_json.specs.Written.{compact_text}
use Rattle.wire_msg.specs.Envelope.{Envelope}
use Rattle.wire_msg.specs.Spelling.{spelling}
use Rattle.node_core.specs.declared.event.Event.{Event}
use Rattle.node_core.specs.declared.event.Event.TheVariants as on
use Rattle.node_words.specs.Words.{event_word}
use Rattle.trace_check.specs.declared.trace.TraceAction.{TraceAction}
use Rattle.trace_check.specs.declared.trace.TraceAction.TheVariants as action
use Rattle.trace_check.specs.declared.trace.RecoverFault.{RecoverFault}
use Rattle.trace_check.specs.declared.trace.RecoverFault.TheVariants as recover
use Rattle.trace_check.specs.Claims.{Claim}

abbrev pub message_data : Envelope → Data
message_data m = string (encode_lower (spelling m))

-- a priority in front of other members, left out where it is 0
abbrev pub priority_members : ℕ → Members → Members
priority_members priority rest = if priority == 0 then rest else member (codes "priority") (number (unsigned priority)) rest

-- the members of an event, in front of others
abbrev pub event_members : Event → Members → Members
event_members (on.Timer timer) rest = rest
event_members (on.Deliver m) rest = member (codes "msg") (message_data m) rest
event_members (on.Submit work) rest = member (codes "payload") (string (encode_lower work.payload))
    (priority_members work.priority (member (codes "queue") (number (unsigned work.queue)) rest))
event_members (on.Finish origin id) rest = member (codes "id") (number (unsigned id))
    (member (codes "origin") (number (unsigned origin)) rest)
event_members on.Recover rest = rest

abbrev pub fault_name : RecoverFault → List ℕ
fault_name recover.Mount = codes "mount"
fault_name recover.Raise = codes "raise"

abbrev pub action_name : TraceAction → List ℕ
action_name action.Nothing = codes "none"
action_name (action.Done event) = event_word event
action_name (action.Faulted event) = event_word event
action_name action.Crashed = codes "crash"
action_name (action.Recovered kept) = codes "recover"
action_name (action.NotRecovered kept fault) = codes "recover"

-- the members of a action but for its name, in front of others
abbrev pub action_members : TraceAction → Members → Members
action_members action.Nothing rest = rest
action_members (action.Done event) rest = event_members event rest
action_members (action.Faulted event) rest = member (codes "fault") (string (codes "device")) (event_members event rest)
action_members action.Crashed rest = rest
action_members (action.Recovered kept) rest = member (codes "kept") (boolean kept) rest
action_members (action.NotRecovered kept fault) rest = member (codes "fault") (string (fault_name fault))
    (member (codes "kept") (boolean kept) rest)

abbrev pub entry_data : Claim → Data
entry_data c = object (member (codes "do") (string (action_name c.action))
    (action_members c.action (member (codes "sent") (array (items_of (map message_data c.sent))) no_members)))

abbrev pub history_data : List Claim → Data
history_data h = array (items_of (map entry_data h))

abbrev pub trace_data : List (List Claim) → Data
trace_data hs = object (member (codes "histories") (array (items_of (map history_data hs)))
    (member (codes "nodes") (number (unsigned (length hs))) no_members))

-- and its text
abbrev pub text_of_trace : List (List Claim) → List ℕ
text_of_trace hs = compact_text (trace_data hs)
