-- What was read so far of an entry, of a list of entries and of the whole, wherever it lies in memory.
use Rattle.std.specs.Prelude.{List, length, Option, Some, None, option_and_then, if◌then◌else◌, Result, Ok, Err}
use Rattle.trace_text.specs.declared.fault.Location.{Location}
use Rattle.trace_text.specs.declared.stream.Draft.{Draft}
use Rattle.trace_text.specs.declared.stream.Entries.{Entries}
use Rattle.trace_text.specs.declared.stream.Histories.{Histories}
use Rattle.trace_text.specs.declared.stream.Parts.{Parts}
use Rattle.trace_text.specs.Fields.{fields_by}
use Rattle.trace_text.specs.Streams.{Drafted, Judged, Listed, Parted}

abbrev pub drafted_by : Draft → Drafted
drafted_by d = (fields_by d.fields, if d.has_sent then Some d.sent.messages else None)

-- what was read, unless an entry was bad
abbrev pub unless_bad : {A : Type 0} → Option Location → List A → Result (List A) (Option Location)
unless_bad None read = Ok read
unless_bad (Some location) read = Err (Some location)

abbrev pub listed_by : Entries → Listed
listed_by e = unless_bad e.bad e.history

abbrev pub judged_by : Histories → Judged
judged_by h = if h.all_lists then Some (length h.histories.items, unless_bad h.bad h.histories.items) else None

abbrev pub parted_by : Parts → Parted
parted_by p = (p.nodes, option_and_then judged_by p.histories)
