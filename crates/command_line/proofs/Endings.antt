-- How a command over a file ends, by what was printed.
use Rattle.std.proofs.Common.{◌≡◌, ◌⊎◌, ⊎_elim, inl, inr, ℕ, List, map, Option, Some, None, Result, Ok, Err, IfOk, string_bytes, refl}
use Rattle.std.proofs.Common.{subst}
use Rattle.console_text.specs.Ends.{Printout, Prints, status_of}
use Rattle.console_text.specs.declared.ends.ExitKind.{ExitKind}
use Rattle.node_timers.specs.Timers.{measured}
use Rattle.trace_console.specs.Files.{PrintsFiles}
use Rattle.trace_console.specs.Prefixes.{JudgesPrefixes}
use Rattle.trace_console.specs.declared.files.TraceFile.{TraceFile}
use Rattle.trace_console.specs.declared.judging.Stage.{Stage}
use Rattle.command_line.specs.Ends.{code_of}
use Rattle.command_line.specs.Obeyed.{AreKeysOf, EndsByFile, EndsByRecords, JudgesFor, ServesFor, names_of}
use Rattle.command_line.specs.Served.{BreaksOff, ServesSo, ServesTo}
use Rattle.command_line.specs.declared.invocation.NodePlace.{NodePlace}
use Rattle.command_line.specs.declared.invocation.Sealing.{Sealing}
use Rattle.command_line.specs.declared.keys.Keys.{Keys}
use Rattle.command_line.specs.declared.status.Status.{Status}
use Rattle.command_line.specs.declared.status.Status.TheVariants as how
use Rattle.node_server.specs.declared.serving.ServingEnd.{ServingEnd}

pub file_ends : {E : Type 0} (Is : List ℕ → Printout → Type 0) (held old new : Option (List ℕ)) (ending : ExitKind) (result : Result ℕ E)
    → Prints Is held old new ending
    → IfOk result (λ (code : ℕ). code ≡ status_of ending) → IfOk result (EndsByFile Is old new)
file_ends Is held old new ending (Ok code) prints is = inr (held, record { ending = ending; prints = prints; status = is })
file_ends Is held old new ending (Err e) prints is = tt

pub records_end : {E : Type 0} (stage : Stage) (names : List (List ℕ)) (old new : Option (List ℕ)) (files : List TraceFile)
    (ending : ExitKind) (result : Result ℕ E) → names_of files ≡ names
    → PrintsFiles stage files old new ending → IfOk result (λ (code : ℕ). code ≡ status_of ending)
    → IfOk result (EndsByRecords stage names old new)
records_end stage names old new files ending (Ok code) named prints is = inr (files, ending, named, prints, is)
records_end stage names old new files ending (Err e) named prints is = tt

pub coming_ends : {E : Type 0} (input given rest before behind : Option (List ℕ)) (ending : ExitKind) (result : Result ℕ E) → given ≡ input
    → JudgesPrefixes given rest before behind ending
    → IfOk result (λ (code : ℕ). code ≡ status_of ending) → IfOk result (JudgesFor input before behind)
coming_ends input given rest before behind ending (Ok code) same judges is =
    (ending, rest, subst (λ (known : Option (List ℕ)). JudgesPrefixes known rest before behind ending) same judges, is)
coming_ends input given rest before behind ending (Err e) same judges is = tt

-- where nothing was done, less is said of that
pub untouched_so : (A B Broken : Type 0) (To : ServingEnd → Type 0) (ended : Status) → (A → B) → ServesSo A Broken To ended
    → ServesSo B Broken To ended
untouched_so A B Broken To how.Done less so = so
untouched_so A B Broken To (how.Failed error) less so = ⊎_elim (λ a. inl (less a)) (λ b. inr b) so
untouched_so A B Broken To (how.File fault) less so = ⊎_elim (λ a. inl (less a)) (λ b. inr b) so
untouched_so A B Broken To (how.Foreign owner) less so = less so
untouched_so A B Broken To (how.Device error) less so = ⊎_elim (λ a. inl (less a)) (λ b. inr b) so
untouched_so A B Broken To how.Key less so = less so
untouched_so A B Broken To (how.Spent fault) less so = so
untouched_so A B Broken To (how.Lost error) less so = ⊎_elim (λ a. inl (less a)) (λ b. inr b) so

pub node_ends : {E : Type 0} (place : NodePlace) (round_trip : ℕ) (sealing : Option Sealing) (life : List ℕ)
    (input rest before behind : Option (List ℕ)) (ended : Status) (keys : Option Keys) (result : Result ℕ E)
    → AreKeysOf sealing life keys → ServesSo ((rest ≡ input) × (behind ≡ before))
    (BreaksOff keys place.id place.nodes (measured round_trip) input rest before behind)
    (ServesTo keys place.id place.nodes (measured round_trip) input rest before behind) ended
    → IfOk result (λ (code : ℕ). code ≡ code_of ended) → IfOk result (ServesFor place round_trip sealing life input rest before behind)
node_ends place round_trip sealing life input rest before behind ended keys (Ok code) are serves is = (ended, keys, is, are, serves)
node_ends place round_trip sealing life input rest before behind ended keys (Err e) are serves is = tt
