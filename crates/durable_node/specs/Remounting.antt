-- What the raise of a recovery that mounts its disk does.
use Rattle.std.specs.Prelude.{ℕ, ◌≡◌, ◌⊎◌, ◌+◌, ◌-◌, ◌^◌, ◌<◌, ◌==◌, not, Bool, false, IsFalse, [], Option, Some, None, Result, Ok, Err}
use Rattle.job_model.specs.declared.node_command.NodeCommand.{NodeCommand as Command}
use Rattle.job_model.specs.declared.node_command.NodeCommand.TheVariants.{Raise}
use Rattle.job_model.specs.Durable.{Durable}
use Rattle.job_model.specs.Fold.{after_command, is_pending}
use Rattle.node_core.specs.declared.wanted.Wanted.{Wanted}
use Rattle.node_core.specs.declared.wanted.Wanted.TheVariants as wanted
use Rattle.node_core.specs.declared.fault.CoreFault.TheVariants.{NoMemory}
use Rattle.node_core.specs.Core.{Core}
use Rattle.node_core.specs.Start.{alone}
use Rattle.durable_node.specs.declared.fault.NodeFault.{NodeFault}
use Rattle.durable_node.specs.declared.fault.NodeFault.TheVariants as node
use Rattle.durable_node.specs.declared.step_report.StepReport.{StepReport}
use Rattle.node_store.specs.Store.{StoreState, durable_of}
use Rattle.histories.specs.declared.event_outcome.EventOutcome.{EventOutcome}
use Rattle.histories.specs.declared.event_outcome.EventOutcome.TheVariants.{Recovered, MountFailed, RaiseFailed, RaiseRefused}
use Rattle.durable_node.specs.Node.{Node}
use Rattle.durable_node.specs.Stepping.{IsAsBefore, IsSilent}

-- the counter that was mounted is raised, and the node is alone in the group of the new count
pub record IsRisen (self : ℕ) (mounted now : Durable) (core : Core) (in_doubt : Option (Wanted × ℕ)) (came : StepReport) : Type 0 where
  pub fits : mounted.counter + 1 < 2 ^ 64
  pub kept : now ≡ after_command mounted Raise
  pub state : core.state ≡ alone self (mounted.counter + 1)
  pub doubt : in_doubt ≡ None
  pub sent : came.sent.items ≡ []
  pub answer : came.answer ≡ Some (mounted.counter + 1)

-- the device failed in the raise: it is in doubt, and the node stays down
pub record IsRiseFailed (mounted now : Durable) (old new : Core) (in_doubt : Option (Wanted × ℕ)) : Type 0 where
  pub fits : mounted.counter + 1 < 2 ^ 64
  pub kept : now ≡ mounted
  pub state : new.state ≡ old.state
  pub doubt : in_doubt ≡ Some (wanted.Raise, mounted.counter)

-- what came of the raise and what it left, where the command that was in doubt was mounted, or wasn't
abbrev pub HasRisen : {Disk : Type 0} → ℕ → Bool → Core → Core → StoreState Disk → StoreState Disk → Option (Wanted × ℕ)
    → Option (Wanted × ℕ) → StepReport → EventOutcome → Type 0
HasRisen self kept core core' store store' doubt doubt' came (Recovered k) =
    (k ≡ kept) × IsRisen self (durable_of store) (durable_of store') core' doubt' came × IsFalse store'.broken
HasRisen self kept core core' store store' doubt doubt' came (RaiseFailed k) =
    (k ≡ kept) × IsRiseFailed (durable_of store) (durable_of store') core core' doubt' × IsSilent came
HasRisen self kept core core' store store' doubt doubt' came (RaiseRefused k) =
    (k ≡ kept) × ((durable_of store).counter ≡ 2 ^ 64 - 1) × IsSilent came × IsAsBefore core core' store store' doubt doubt'
HasRisen self kept core core' store store' doubt doubt' came event_outcome = ⊥

-- the raise, where it was tried
abbrev pub raise_by : EventOutcome → Option Command
raise_by (Recovered kept) = Some Raise
raise_by (RaiseFailed kept) = Some Raise
raise_by event_outcome = None

-- whether what was mounted has a command that was in doubt: the count or the next id went on, or the job is gone
abbrev pub has_command : Wanted → ℕ → Durable → Bool
has_command wanted.None before d = false
has_command wanted.Raise before d = not (d.counter == before)
has_command (wanted.Put work) before d = not (d.next == before)
has_command (wanted.Done id) before d = not (is_pending d.pending id)

-- the flag says whether the command in doubt was mounted
abbrev pub IsKeptIn : Option (Wanted × ℕ) → Durable → Bool → Type 0
IsKeptIn None d kept = kept ≡ false
IsKeptIn (Some doubt) d kept = kept ≡ has_command doubt.0 doubt.1 d

-- what came of a mounting over any disk, by what was in doubt and what was mounted
abbrev pub IsMountedBy : Option (Wanted × ℕ) → EventOutcome → Option Durable → Type 0
IsMountedBy doubt MountFailed None = Unit {0}
IsMountedBy doubt (Recovered kept) (Some d) = IsKeptIn doubt d kept
IsMountedBy doubt (RaiseFailed kept) (Some d) = IsKeptIn doubt d kept
IsMountedBy doubt (RaiseRefused kept) (Some d) = IsKeptIn doubt d kept
IsMountedBy doubt event_outcome mounted = ⊥

-- a disk that isn't mounted is refused with one of these
abbrev pub IsUnmounted : NodeFault → Type 0
IsUnmounted (node.Core fault) = fault ≡ NoMemory
IsUnmounted node.Full = ⊥
IsUnmounted node.Exhausted = ⊥
IsUnmounted node.Device = Unit {0}
IsUnmounted node.NotFormatted = Unit {0}
IsUnmounted (node.Damaged sector) = Unit {0}
IsUnmounted node.TooSmall = Unit {0}

-- what a recovery that mounts leaves over any disk, by what it mounted
abbrev pub Remounted : {Disk : Type 0} → Node Disk → Node Disk → Result StepReport NodeFault → Option Durable → Type 0
Remounted old new (Ok came) None = ⊥
Remounted old new (Ok came) (Some mounted) =
    (new.kept ≡ Some (after_command mounted Raise)) × (new.state ≡ alone old.id (mounted.counter + 1)) × (new.doubt ≡ None)
    × (came.sent.items ≡ []) × (came.answer ≡ Some (mounted.counter + 1)) × (mounted.counter + 1 < 2 ^ 64)
Remounted old new (Err fault) None = IsUnmounted fault × (new.state ≡ old.state) × (new.doubt ≡ old.doubt)
Remounted old new (Err fault) (Some mounted) =
    (new.state ≡ old.state) × (((fault ≡ node.Device) × (new.doubt ≡ Some (wanted.Raise, mounted.counter)) × (mounted.counter + 1 < 2 ^ 64))
    ⊎ ((fault ≡ node.Exhausted) × (mounted.counter ≡ 2 ^ 64 - 1) × (new.doubt ≡ old.doubt)))
