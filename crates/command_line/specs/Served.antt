-- How a node is served over its file.
use Rattle.std.specs.Prelude.{ℕ, ◌≡◌, ◌⊎◌, List, Option, Some, None, option_map}
use Rattle.line_words.specs.Lines.{lines_of}
use Rattle.sealed_msg.specs.Cluster.{cluster_key}
use Rattle.file_disk.specs.File.{FileState, state_of}
use Rattle.file_disk.specs.declared.disk.FileDisk.{FileDisk}
use Rattle.node_timers.specs.declared.timer_settings.TimerSettings.{TimerSettings}
use Rattle.node_session.specs.Seals.{Seals, new_seals}
use Rattle.node_server.specs.Served.{IsBrokenOff, IsServedTo, begun}
use Rattle.node_server.specs.declared.serving.ServingEnd.{ServingEnd}
use Rattle.node_server.specs.declared.serving.ServingEnd.TheVariants as end
use Rattle.command_line.specs.Keys.{secrets_of}
use Rattle.command_line.specs.declared.keys.Keys.{Keys}
use Rattle.command_line.specs.declared.status.Status.{Status}
use Rattle.command_line.specs.declared.status.Status.TheVariants as status

-- what seals and opens, by these secrets, the messages of a node of so many in the cluster of this name
abbrev pub seals_by : List ℕ × Option (List ℕ) → ℕ → List ℕ → List ℕ → Seals
seals_by secrets nodes cluster life = new_seals (cluster_key secrets.0 nodes cluster)
    (option_map (λ other. cluster_key other nodes cluster) secrets.1) life

-- some text of a file of keys spells them
abbrev pub AreSpelled : List ℕ × Option (List ℕ) → Type 0
AreSpelled secrets = (text : List ℕ) × (secrets_of (lines_of text) ≡ Some secrets)

abbrev pub IsSealBy : ℕ → List ℕ → List ℕ → Seals → Type 0
IsSealBy nodes cluster life seals = (secrets : List ℕ × Option (List ℕ)) × AreSpelled secrets
    × (seals ≡ seals_by secrets nodes cluster life)

-- messages are sealed where there are keys, and nowhere else
abbrev pub IsSealUnder : Option Keys → ℕ → Option Seals → Type 0
IsSealUnder None nodes seal = seal ≡ None
IsSealUnder (Some keys) nodes seal = (seals : Seals) × IsSealBy nodes keys.cluster.now keys.life.now seals × (seal ≡ Some seals)

-- The node of this id, of so many, was served over some disk to this end.
abbrev pub ServesTo : Option Keys → ℕ → ℕ → TimerSettings → Option (List ℕ) → Option (List ℕ) → Option (List ℕ) → Option (List ℕ)
    → ServingEnd → Type 0
ServesTo keys id nodes setting input rest before behind how =
    (seal : Option Seals) × (disk : FileState) × (left : FileState) × IsSealUnder keys nodes seal
    × IsServedTo state_of (begun id nodes setting seal disk) input rest before behind left how

-- It was served until an error broke it off: of what was read a front was fed, and of the answers to that a front was written.
abbrev pub BreaksOff : Option Keys → ℕ → ℕ → TimerSettings → Option (List ℕ) → Option (List ℕ) → Option (List ℕ) → Option (List ℕ) → Type 0
BreaksOff keys id nodes setting input rest before behind =
    (seal : Option Seals) × (disk : FileState) × IsSealUnder keys nodes seal
    × IsBrokenOff state_of (begun id nodes setting seal disk) input rest before behind

-- By how it ended: the input was read to its end and all of it answered; or an error broke it off; or the device failed, and all was
-- answered that was read;
-- or the file was lost, and of the command behind which that was found nothing was written; or nothing was read or written.
abbrev pub ServesSo : Type 0 → Type 0 → (ServingEnd → Type 0) → Status → Type 0
ServesSo Untouched Broken To status.Done = To end.Input
ServesSo Untouched Broken To (status.Failed error) = Untouched ⊎ Broken
ServesSo Untouched Broken To (status.File fault) = Untouched ⊎ To end.Device
ServesSo Untouched Broken To (status.Foreign owner) = Untouched
ServesSo Untouched Broken To (status.Device error) = Untouched ⊎ To end.Device
ServesSo Untouched Broken To status.Key = Untouched
ServesSo Untouched Broken To (status.Spent fault) = ⊥
ServesSo Untouched Broken To (status.Lost error) = Untouched ⊎ (To end.Device ⊎ To (end.Lost error))

-- how a node ends that isn't served
abbrev pub IsUnserved : Status → Type 0
IsUnserved status.Done = ⊥
IsUnserved (status.Spent fault) = ⊥
IsUnserved _ = Unit {0}

-- how a node ends whose device failed
abbrev pub IsStopped : Status → Type 0
IsStopped status.Done = ⊥
IsStopped (status.Failed error) = ⊥
IsStopped (status.File fault) = Unit {0}
IsStopped (status.Foreign owner) = ⊥
IsStopped (status.Device error) = Unit {0}
IsStopped status.Key = ⊥
IsStopped (status.Spent fault) = ⊥
IsStopped (status.Lost error) = Unit {0}
