-- What the words of a command line ask for.
use Rattle.std.specs.Prelude.{ℕ, List, [], length, map, ◌==◌, nat_le, nat_lt, Bool, true, false, bytes_eq, codes, if◌then◌else◌, option_map}
use Rattle.std.specs.Prelude.{Option, Some, None, string_bytes}
use Rattle.clap.specs.Words.{matched_of, raw_values}
use Rattle.clap.specs.declared.parser.matches.Found.{Found}
use Rattle.file_disk.specs.declared.stride.Stride.{Stride}
use Rattle.file_disk.specs.declared.stride.Stride.TheVariants.{Packed, Spaced}
use Rattle.group_task.specs.declared.node.TheConstants.{NODES}
use Rattle.disk_layout.specs.declared.layout.TheConstants.{LEAST_SLOTS, MOST_SLOTS}
use Rattle.line_words.specs.Lines.{bytes_of}
use Rattle.line_words.specs.Words.{number_of}
use Rattle.trace_console.specs.declared.judging.Stage.{Stage}
use Rattle.trace_console.specs.declared.judging.Stage.TheVariants.{Over, Ongoing}
use Rattle.store_console.specs.declared.inspecting.Shown.{Shown}
use Rattle.store_console.specs.declared.inspecting.Shown.TheVariants as show
use Rattle.threads_console.specs.declared.kind.TraceKind.{TraceKind}
use Rattle.threads_console.specs.declared.kind.TraceKind.TheVariants.{Plain, Ordered}
use Rattle.command_line.specs.declared.invocation.TheConstants.{MOST_ROUND_TRIP, ROUND_TRIP}
use Rattle.command_line.specs.declared.invocation.NodePlace.{NodePlace}
use Rattle.command_line.specs.declared.invocation.Making.{Making}
use Rattle.command_line.specs.declared.invocation.Sealing.{Sealing}
use Rattle.command_line.specs.declared.invocation.Batch.{Batch}
use Rattle.command_line.specs.declared.invocation.Batch.TheVariants.{Answer, Show, Sim, Store, Trace, Record, Threads, Turns, Contradiction}
use Rattle.command_line.specs.declared.invocation.Invocation.{Invocation}
use Rattle.command_line.specs.declared.invocation.Invocation.TheVariants as invocation

-- what a file is made for: a node, the slots of an area, and the count
pub record Made : Type 0 where
  pub place : ℕ × ℕ
  pub slots : ℕ
  pub first : ℕ
  -- how far apart its sectors lie
  pub stride : Stride

-- the path of a file of keys, and the name of a cluster
pub record Sealed : Type 0 where
  pub key : List ℕ
  pub cluster : List ℕ

-- a command with its arguments; paths are texts
pub data Asked : Type 0 where
  answers : ℕ × ℕ → Asked
  shows : Asked
  simulates : Bool → Bool → Asked
  stores : List ℕ → Asked
  -- whether the run may go on, and the files that its records stand in: none where they are read from standard input
  traces : Bool → List (List ℕ) → Asked
  -- the same of a run as it comes
  judges : Asked
  records : Asked
  -- whether the order is printed, too
  runs_threads : Bool → Asked
  -- the turns of a trace
  tells_turns : Asked
  -- its entries that can't be by themselves
  tells_contradiction : Asked
  -- with the file of its jobs, and the name of its cluster
  makes : List ℕ → Made → Option (List ℕ) → Option (List ℕ) → Asked
  -- the name of the cluster is said under a key and without one; its process has this life, or none
  serves : List ℕ → ℕ × ℕ → ℕ → Option Sealed → Option (List ℕ) → List ℕ → Asked
  -- the file of a machine's leases, and the number that its processes begin behind
  makes_leases : List ℕ → ℕ → ℕ → Asked
  serves_leases : List ℕ → ℕ × ℕ → ℕ → Option Sealed → Asked
  -- whether it is verified, too
  inspects : Bool → List ℕ → Asked
  -- whether the jobs are salvaged
  exports : Bool → List ℕ → Asked

abbrev pub placed : NodePlace → ℕ × ℕ
placed place = (place.id, place.nodes)

abbrev pub made : Making → Made
made making = record { place = placed making.place; slots = making.slots; first = making.first; stride = making.stride }

abbrev pub sealed : Sealing → Sealed
sealed sealing = record { key = string_bytes sealing.key; cluster = string_bytes sealing.cluster }

-- whether the run that is judged may go on
abbrev pub is_ongoing : Stage → Bool
is_ongoing Over = false
is_ongoing Ongoing = true

-- whether the order of a run is printed
abbrev pub is_ordered : TraceKind → Bool
is_ordered Plain = false
is_ordered Ordered = true

abbrev pub asked_batch : Batch → Asked
asked_batch (Answer place) = answers (placed place)
asked_batch Show = shows
asked_batch (Sim details) = simulates details.names details.nodes
asked_batch (Store path) = stores (string_bytes path)
asked_batch (Trace stage) = traces (is_ongoing stage) []
asked_batch Record = records
asked_batch (Threads kind) = runs_threads (is_ordered kind)
asked_batch Turns = tells_turns
asked_batch Contradiction = tells_contradiction

abbrev pub looks : Shown → List ℕ → Asked
looks show.All path = inspects false path
looks show.Verified path = inspects true path
looks show.Jobs path = exports false path

abbrev pub asked : Invocation → Asked
asked (invocation.Batch batch) = asked_batch batch
asked (invocation.Format path making jobs cluster) = makes (string_bytes path) (made making) (option_map string_bytes jobs)
    (option_map string_bytes cluster)
asked (invocation.Node path place round_trip sealing cluster life) =
    serves (string_bytes path) (placed place) round_trip (option_map sealed sealing) (option_map string_bytes cluster) life.items
asked (invocation.FormatLeases path machine first) = makes_leases (string_bytes path) machine first
asked (invocation.Lease path place round_trip sealing) =
    serves_leases (string_bytes path) (placed place) round_trip (option_map sealed sealing)
asked (invocation.Look path shown) = looks shown (string_bytes path)
asked (invocation.Salvage path) = exports true (string_bytes path)
asked (invocation.Trace stage files) = traces (is_ongoing stage) (map string_bytes files.items)
asked invocation.Judge = judges

-- ---- arguments, by their names

abbrev pub Arguments : Type 0
Arguments = List ℕ → Option (List ℕ)

-- the values of an argument that may be given more than once
abbrev pub Lists : Type 0
Lists = List ℕ → List (List ℕ)

abbrev pub values_in : Option (List (List ℕ)) → List (List ℕ)
values_in None = []
values_in (Some values) = values

-- all values that were read for it
abbrev pub values_of : Found → List ℕ → List (List ℕ)
values_of found id = values_in (option_map raw_values (matched_of found id))

abbrev pub number_in : Option (List ℕ) → Option ℕ
number_in None = None
number_in (Some word) = number_of word

-- a node, and how many there are
abbrev pub place_by : Option ℕ → Option ℕ → Option (ℕ × ℕ)
place_by None nodes = None
place_by (Some id) None = None
place_by (Some id) (Some nodes) = if nat_lt NODES nodes then None else if nat_le nodes id then None else Some (id, nodes)

abbrev pub place_of : Arguments → Option (ℕ × ℕ)
place_of arguments = place_by (number_in (arguments (codes "SELF"))) (number_in (arguments (codes "NODES")))

-- an option without a value
abbrev pub is_set : Option (List ℕ) → Bool
is_set None = false
is_set (Some word) = bytes_eq word (codes "true")

-- the count that a node begins behind
abbrev pub first_of : Option (List ℕ) → Option ℕ
first_of None = Some 0
first_of (Some word) = number_of word

abbrev pub stride_by : Option ℕ → Option Stride
stride_by None = None
stride_by (Some bytes) = if bytes == 512 then Some Packed else if bytes == 4096 then Some Spaced else None

-- how many bytes of a file there are for each sector
abbrev pub stride_of : Option (List ℕ) → Option Stride
stride_of None = Some Packed
stride_of (Some word) = stride_by (number_of word)

abbrev pub making_by : Option (ℕ × ℕ) → Option ℕ → Option ℕ → Option Stride → Option Made
making_by None slots first stride = None
making_by (Some place) None first stride = None
making_by (Some place) (Some slots) None stride = None
making_by (Some place) (Some slots) (Some first) None = None
making_by (Some place) (Some slots) (Some first) (Some stride) =
    if nat_lt slots LEAST_SLOTS then None else if nat_lt MOST_SLOTS slots then None
    else Some (record { place = place; slots = slots; first = first; stride = stride })

abbrev pub making_of : Arguments → Option Made
making_of arguments = making_by (place_of arguments) (number_in (arguments (codes "SLOTS"))) (first_of (arguments (codes "FIRST")))
    (stride_of (arguments (codes "stride")))

abbrev pub format_by : Option (List ℕ) → Option Made → Option (List ℕ) → Option (List ℕ) → Option Asked
format_by None made jobs cluster = None
format_by (Some path) made jobs cluster = option_map (λ m. makes path m jobs cluster) made

abbrev pub machine_of : Option ℕ → Option ℕ
machine_of None = None
machine_of (Some machine) = if nat_le NODES machine then None else Some machine

abbrev pub leases_by : Option (List ℕ) → Option ℕ → Option ℕ → Option Asked
leases_by None machine first = None
leases_by (Some path) None first = None
leases_by (Some path) (Some machine) first = option_map (makes_leases path machine) first

-- a file of leases: its words are the file, the machine, and what the numbers of its processes begin behind
abbrev pub format_leases_of : Arguments → Option Asked
format_leases_of arguments = leases_by (arguments (codes "FILE")) (machine_of (number_in (arguments (codes "SLOTS"))))
    (first_of (arguments (codes "SELF")))

abbrev pub format_of : Arguments → Option Asked
format_of arguments = if is_set (arguments (codes "lease")) then format_leases_of arguments
    else format_by (arguments (codes "FILE")) (making_of arguments) (arguments (codes "jobs")) (arguments (codes "cluster"))

abbrev pub round_trip_in : Option ℕ → Option ℕ
round_trip_in None = None
round_trip_in (Some ms) = if ms == 0 then None else if nat_lt MOST_ROUND_TRIP ms then None else Some ms

-- what a round trip takes, in milliseconds
abbrev pub round_trip_of : Option (List ℕ) → Option ℕ
round_trip_of None = Some ROUND_TRIP
round_trip_of (Some word) = round_trip_in (number_of word)

-- a key and a name, or neither
abbrev pub sealed_by : Option (List ℕ) → Option (List ℕ) → Option (Option Sealed)
sealed_by None None = Some None
sealed_by None (Some cluster) = None
sealed_by (Some key) None = None
sealed_by (Some key) (Some cluster) = Some (Some (record { key = key; cluster = cluster }))

-- a key isn't given without a name; a name may be given alone
abbrev pub keyed_by : Option (List ℕ) → Option (List ℕ) → Option (Option Sealed)
keyed_by None cluster = Some None
keyed_by (Some key) None = None
keyed_by (Some key) (Some cluster) = Some (Some (record { key = key; cluster = cluster }))

abbrev pub life_by : Option (List ℕ) → Option (List ℕ)
life_by None = None
life_by (Some bytes) = if length bytes == 16 then Some bytes else None

-- the life of a process: 16 bytes, as 32 hex digits, or none
abbrev pub life_of : Option (List ℕ) → Option (List ℕ)
life_of None = Some []
life_of (Some word) = life_by (bytes_of word)

abbrev pub serves_by : Option (List ℕ) → Option (ℕ × ℕ) → Option ℕ → Option (Option Sealed) → Option (List ℕ) → Option (List ℕ)
    → Option Asked
serves_by None place round_trip sealing cluster life = None
serves_by (Some path) None round_trip sealing cluster life = None
serves_by (Some path) (Some place) None sealing cluster life = None
serves_by (Some path) (Some place) (Some ms) None cluster life = None
serves_by (Some path) (Some place) (Some ms) (Some sealing) cluster life = option_map (serves path place ms sealing cluster) life

abbrev pub lease_by : Option (List ℕ) → Option (ℕ × ℕ) → Option ℕ → Option (Option Sealed) → Option Asked
lease_by None place round_trip sealing = None
lease_by (Some path) None round_trip sealing = None
lease_by (Some path) (Some place) None sealing = None
lease_by (Some path) (Some place) (Some ms) sealing = option_map (serves_leases path place ms) sealing

abbrev pub lease_of : Arguments → Option Asked
lease_of arguments = lease_by (arguments (codes "FILE")) (place_of arguments) (round_trip_of (arguments (codes "ROUND_TRIP_MS")))
    (sealed_by (arguments (codes "key")) (arguments (codes "cluster")))

abbrev pub node_of : Arguments → Option Asked
node_of arguments = serves_by (arguments (codes "FILE")) (place_of arguments) (round_trip_of (arguments (codes "ROUND_TRIP_MS")))
    (keyed_by (arguments (codes "key")) (arguments (codes "cluster"))) (arguments (codes "cluster")) (life_of (arguments (codes "life")))

-- the turns of a trace, its entries that can't be by themselves, or the verdict on it
abbrev pub trace_of : Arguments → Lists → Asked
trace_of arguments lists =
    if is_set (arguments (codes "turns")) then tells_turns else if is_set (arguments (codes "core")) then tells_contradiction else
    traces (is_set (arguments (codes "ongoing"))) (lists (codes "FILE"))

-- what the command of a name asks for; nothing, where a number is out of its range
abbrev pub asked_by : List ℕ → Arguments → Lists → Option Asked
asked_by name arguments lists =
    if bytes_eq name (codes "answer") then option_map answers (place_of arguments) else
    if bytes_eq name (codes "show") then Some shows else
    if bytes_eq name (codes "sim") then Some (simulates (is_set (arguments (codes "names"))) (is_set (arguments (codes "nodes")))) else
    if bytes_eq name (codes "store") then option_map stores (arguments (codes "PATH")) else
    if bytes_eq name (codes "trace") then Some (trace_of arguments lists) else
    if bytes_eq name (codes "judge") then Some judges else
    if bytes_eq name (codes "record") then Some records else
    if bytes_eq name (codes "threads") then Some (runs_threads (is_set (arguments (codes "order")))) else
    if bytes_eq name (codes "format") then format_of arguments else
    if bytes_eq name (codes "node") then node_of arguments else
    if bytes_eq name (codes "lease") then lease_of arguments else
    if bytes_eq name (codes "inspect") then option_map (inspects (is_set (arguments (codes "verify")))) (arguments (codes "FILE")) else
    if bytes_eq name (codes "export") then option_map (exports (is_set (arguments (codes "salvage")))) (arguments (codes "FILE")) else None
