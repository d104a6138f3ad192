-- What the front of a reader's tokens says, part by part: the value of JSON there, and the tokens behind it.
use Rattle.std.specs.Prelude.{ℕ, ◌==◌, ◌&&◌, List, length, Option, Some, None, option_map, option_and_then, if◌then◌else◌, nat_lt, nat_le}
use Rattle.std.specs.Prelude.{codes, Result, Err}
use Rattle.std.specs.Str.{bytes_eq}
use Rattle.json.specs.Token.{Token}
use Rattle.json.specs.Json as json
use Rattle.serde_json.specs.Data.{Data, Items, Members, no_members, object}
use Rattle.serde_json.specs.Find.{as_array, get_member}
use Rattle.serde_json.specs.Read.{of_json, of_items, of_members, converted}
use Rattle.group_task.specs.declared.node.TheConstants.{NODES}
use Rattle.wire_msg.specs.Envelope.{Envelope}
use Rattle.trace_check.specs.Claims.{Claim}
use Rattle.trace_text.specs.declared.fault.Location.{Location}
use Rattle.trace_text.specs.Fields.{FieldData, fields_in, fields_put, plain, plain_fields}
use Rattle.trace_text.specs.Entries.{number_in, messages_in}
use Rattle.trace_text.specs.Wholes.{all_lists, count_items, entries_from, histories_from}

-- the value at the front
abbrev pub data_at : ℕ → List Token → Option (Data × List Token)
data_at depth ts = converted of_json (json.value depth ts)

-- the items from behind a bracket on
abbrev pub items_at : ℕ → List Token → Option (Items × List Token)
items_at depth ts = converted of_items (json.items (json.value depth) (length ts) ts)

-- the members from behind a brace on
abbrev pub members_at : ℕ → List Token → Option (Members × List Token)
members_at depth ts = converted (λ ms. of_members ms no_members) (json.members (json.value depth) (length ts) ts)

-- what follows what was read
abbrev pub behind : {A : Type 0} → Option (A × List Token) → Option (List Token)
behind read = option_map (λ p. p.1) read

-- ---- an entry: its fields, and the messages that it sent

abbrev pub Drafted : Type 0
Drafted = FieldData × Option (List Envelope)

abbrev pub sent_in : Data → Option (List Envelope)
sent_in d = option_and_then messages_in (as_array d)

abbrev pub drafted_in : Members → Drafted
drafted_in ms = (plain_fields (fields_in (object ms)), option_and_then sent_in (get_member (codes "sent") ms))

-- one more member
abbrev pub drafted_put : Drafted → List ℕ → Data → Drafted
drafted_put s key d = if bytes_eq key (codes "sent") then (s.0, sent_in d) else (fields_put s.0 key (plain d), s.1)

-- ---- the whole: the number of nodes, and the lists, where all are lists

abbrev pub Listed : Type 0
Listed = Result (List Claim) (Option Location)

abbrev pub listed_in : ℕ → Data → Option Listed
listed_in node d = option_map (entries_from node 0) (as_array d)

abbrev pub Judged : Type 0
Judged = Option (ℕ × Result (List (List Claim)) (Option Location))

abbrev pub judged_of : Items → Judged
judged_of ds = if all_lists ds then Some (count_items ds, histories_from 0 ds) else None

abbrev pub judged_in : Data → Judged
judged_in d = option_and_then judged_of (as_array d)

abbrev pub Parted : Type 0
Parted = Option ℕ × Judged

abbrev pub parted_in : Members → Parted
parted_in ms = (number_in (get_member (codes "nodes") ms), option_and_then judged_in (get_member (codes "histories") ms))

-- one more member
abbrev pub parted_put : Parted → List ℕ → Data → Parted
parted_put s key d =
    if bytes_eq key (codes "nodes") then (number_in (Some d), s.1) else
    if bytes_eq key (codes "histories") then (s.0, judged_in d) else s

-- the trace, or its first bad entry, if there is a list for each node
abbrev pub shaped : Parted → Result (List (List Claim)) (Option Location)
shaped (None, lists) = Err None
shaped (Some nodes, None) = Err None
shaped (Some nodes, Some (count, read)) = if nat_lt 0 nodes && (nat_le nodes NODES && (count == nodes)) then read else Err None
