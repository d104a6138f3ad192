-- What is printed, and with which status the program ends, of what its command line asks for.
use Rattle.std.specs.Prelude.{ℕ, ◌≡◌, ◌⊎◌, List, [], map, Option, Some, None, string_bytes}
use Rattle.console_text.specs.Ends.{Printout, Prints, status_of}
use Rattle.console_text.specs.declared.ends.ExitKind.{ExitKind}
use Rattle.lease_machine.specs.declared.terms.LeaseTerms.{LeaseTerms}
use Rattle.node_timers.specs.Timers.{measured}
use Rattle.store_console.specs.Printed.{IsShown}
use Rattle.store_console.specs.Salvaged.{IsSalvagePrintout}
use Rattle.trace_console.specs.Files.{PrintsFiles}
use Rattle.trace_console.specs.Prefixes.{JudgesPrefixes}
use Rattle.trace_console.specs.declared.files.TraceFile.{TraceFile}
use Rattle.trace_console.specs.declared.judging.Stage.{Stage}
use Rattle.command_line.specs.Ends.{code_of}
use Rattle.command_line.specs.LeaseServed.{AreTermsOf, LeaseServesSo, LeaseServesTo}
use Rattle.command_line.specs.Performed.{IsOutcomeOf}
use Rattle.command_line.specs.Served.{BreaksOff, ServesSo, ServesTo}
use Rattle.command_line.specs.declared.invocation.Invocation.{Invocation}
use Rattle.command_line.specs.declared.invocation.Invocation.TheVariants as invocation
use Rattle.command_line.specs.declared.invocation.NodePlace.{NodePlace}
use Rattle.command_line.specs.declared.invocation.Sealing.{Sealing}
use Rattle.command_line.specs.declared.keys.Keys.{Keys}
use Rattle.command_line.specs.declared.status.Status.{Status}

-- This is printed of what was read, and the status is that of how the command ended.
pub record EndsBy (Is : List ℕ → Printout → Type 0) (input old new : Option (List ℕ)) (code : ℕ) : Type 0 where
  pub ending : ExitKind
  pub prints : Prints Is input old new ending
  pub status : code ≡ status_of ending

-- the status is that of one of the ways in which a command over a file ends
abbrev pub EndsAs : ℕ → Type 0
EndsAs code = (status : Status) × (code ≡ code_of status)

-- a file can't be read, and nothing is printed; or this is printed of what some file holds
abbrev pub EndsByFile : (List ℕ → Printout → Type 0) → Option (List ℕ) → Option (List ℕ) → ℕ → Type 0
EndsByFile Is old new code = (EndsAs code × (new ≡ old)) ⊎ ((held : Option (List ℕ)) × EndsBy Is held old new code)

abbrev pub names_of : List TraceFile → List (List ℕ)
names_of files = map (λ (file : TraceFile). file.name.now) files

-- one of the files of these names can't be read, and nothing is printed; or the verdict is printed on the run whose records stand in files
-- of just these names, in
-- this order
abbrev pub EndsByRecords : Stage → List (List ℕ) → Option (List ℕ) → Option (List ℕ) → ℕ → Type 0
EndsByRecords stage names old new code = ((code ≡ 1) × (new ≡ old))
    ⊎ ((files : List TraceFile) × (ending : ExitKind) × (names_of files ≡ names) × PrintsFiles stage files old new ending
    × (code ≡ status_of ending))

-- the keys of a process of this life are those that its command line names, and there are none where it names none
abbrev pub AreKeysOf : Option Sealing → List ℕ → Option Keys → Type 0
AreKeysOf None life None = Unit {0}
AreKeysOf None life (Some keys) = ⊥
AreKeysOf (Some sealing) life None = ⊥
AreKeysOf (Some sealing) life (Some keys) = (keys.cluster.now ≡ string_bytes sealing.cluster) × (keys.path.now ≡ string_bytes sealing.key)
    × (keys.life.now ≡ life)

-- a node was served as its command line says
abbrev pub ServesFor : NodePlace → ℕ → Option Sealing → List ℕ → Option (List ℕ) → Option (List ℕ) → Option (List ℕ) → Option (List ℕ) → ℕ
    → Type 0
ServesFor place round_trip sealing life input rest before behind code =
    (status : Status) × (keys : Option Keys) × (code ≡ code_of status) × AreKeysOf sealing life keys
    × ServesSo ((rest ≡ input) × (behind ≡ before)) (BreaksOff keys place.id place.nodes (measured round_trip) input rest before behind)
    (ServesTo keys place.id place.nodes (measured round_trip) input rest before behind) status

-- A process of leases was served as its command line says; without a round trip there are no terms, and nothing is read or written.
abbrev pub LeasesFor : NodePlace → ℕ → Option Sealing → Option (List ℕ) → Option (List ℕ) → Option (List ℕ) → Option (List ℕ) → ℕ → Type 0
LeasesFor place round_trip sealing input rest before behind code =
    ((round_trip ≡ 0) × (code ≡ 2) × (rest ≡ input) × (behind ≡ before))
    ⊎ ((status : Status) × (keys : Option Keys) × (terms : LeaseTerms) × (code ≡ code_of status) × AreKeysOf sealing [] keys
    × AreTermsOf place round_trip sealing terms
    × LeaseServesSo ((rest ≡ input) × (behind ≡ before)) (LeaseServesTo keys terms input rest before behind) status)

-- a run was judged as it came
abbrev pub JudgesFor : Option (List ℕ) → Option (List ℕ) → Option (List ℕ) → ℕ → Type 0
JudgesFor input before behind code = (ending : ExitKind) × (rest : Option (List ℕ)) × JudgesPrefixes input rest before behind ending
    × (code ≡ status_of ending)

-- By what is asked for. Of a file that is made nothing is printed: its jobs can't be read, or the status is that of how it was made.
abbrev pub Obeys : Invocation → Option (List ℕ) → Option (List ℕ) → Option (List ℕ) → Option (List ℕ) → ℕ → Type 0
Obeys (invocation.Batch batch) input rest before behind code = EndsBy (IsOutcomeOf batch) input before behind code
Obeys (invocation.Format path making jobs cluster) input rest before behind code = (behind ≡ before) × (EndsAs code ⊎ (code ≡ 1))
Obeys (invocation.Node path place round_trip sealing cluster life) input rest before behind code =
    ServesFor place round_trip sealing life.items input rest before behind code
Obeys (invocation.FormatLeases path machine first) input rest before behind code = (rest ≡ input) × (behind ≡ before) × EndsAs code
Obeys (invocation.Lease path place round_trip sealing) input rest before behind code =
    LeasesFor place round_trip sealing input rest before behind code
Obeys (invocation.Look path shown) input rest before behind code = (rest ≡ input) × EndsByFile (IsShown shown) before behind code
Obeys (invocation.Salvage path) input rest before behind code = (rest ≡ input) × EndsByFile IsSalvagePrintout before behind code
Obeys (invocation.Trace stage paths) input rest before behind code = (rest ≡ input)
    × EndsByRecords stage (map string_bytes paths.items) before behind code
Obeys invocation.Judge input rest before behind code = JudgesFor input before behind code
