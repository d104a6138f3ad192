-- A run of a schedule's acts, in which nothing is used up: what may come of each act, and nothing else.
use Rattle.std.specs.Prelude.{ℕ, ◌≡◌, ◌+◌, ◌⊎◌, Bool, true, nat_lt, if◌then◌else◌, List, [], ◌∷◌, length, Option, Some, None, option_map}
use Rattle.std.specs.Prelude.{IsSome, MatchBool, MatchOption}
use Rattle.std.specs.Option.{option_or}
use Rattle.node_core.specs.declared.event.Event.{Event}
use Rattle.node_core.specs.declared.event.Event.TheVariants.{Submit, Recover}
use Rattle.node_core.specs.declared.fault.Refusal.{Refusal}
use Rattle.node_core.specs.declared.fault.Refusal.TheVariants.{Core, Full}
use Rattle.node_core.specs.Refusals.{refusal_of}
use Rattle.node_core.specs.declared.phase.Phase.TheVariants as phases
use Rattle.node_core.specs.State.{in_phase}
use Rattle.histories.specs.NodeState.{NodeState, wants_at}
use Rattle.histories.specs.declared.history_event.HistoryEvent.{HistoryEvent}
use Rattle.histories.specs.declared.history_event.HistoryEvent.TheVariants.{Did, Refused, Faulted, NoOp, Crashed, Recovered, MountFailed}
use Rattle.histories.specs.declared.history_event.HistoryEvent.TheVariants.{RaiseFailed}
use Rattle.histories.specs.declared.history_event.NoOpKind.TheVariants.{Compacted, CompactDown}
use Rattle.schedule.specs.declared.act.Act.{Act}
use Rattle.runs.specs.World.{World, node_in}
use Rattle.runs.specs.Step.{Step, world_after}
use Rattle.runs.specs.Acts.{IsStepBy}

-- why a node refuses an event, if it does: for a reason of its vector, and else a job for which its journal of so many slots has no room
abbrev pub refusal_at : ℕ → ℕ → ℕ → NodeState → Event → Option Refusal
refusal_at slots n nodes s (Submit work) =
    option_or (option_map Core (refusal_of nodes n (Submit work) s.state))
    (if nat_lt slots (length s.durable.pending + 3) then Some Full else None)
refusal_at slots n nodes s event = option_map Core (refusal_of nodes n event s.state)

-- what may come of a mounting: the command in doubt is on the disk, or it isn't, and the device may fail before or in the raise
abbrev pub ComesOfMounting : NodeState → HistoryEvent → Type 0
ComesOfMounting s what =
    (what ≡ MountFailed) ⊎ ((kept : Bool) × (kept ≡ true → IsSome s.doubt) × ((what ≡ Recovered kept) ⊎ (what ≡ RaiseFailed kept)))

-- what may come of an event at a node: it is refused for its reason; else it is done, or its command meets a device that fails. A node that
-- is Down recovers by mounting its disk
abbrev pub MayCome : ℕ → ℕ → ℕ → NodeState → Event → HistoryEvent → Type 0
MayCome slots n nodes s Recover what =
    MatchBool (in_phase phases.Down s.state.phase) (ComesOfMounting s what) ((what ≡ Did Recover) ⊎ (what ≡ Faulted Recover))
MayCome slots n nodes s event what = MatchOption (refusal_at slots n nodes s event)
    ((what ≡ Did event) ⊎ ((what ≡ Faulted event) × IsSome (wants_at n nodes s event))) (λ why. what ≡ Refused event why)

-- what may come of a compaction: a node that is up falls where its device fails
abbrev pub MayCompact : NodeState → HistoryEvent → Type 0
MayCompact s what = MatchBool (in_phase phases.Down s.state.phase) (what ≡ NoOp CompactDown) ((what ≡ NoOp Compacted) ⊎ (what ≡ Crashed))

-- the step of an act, in a cluster whose disks have so many slots
abbrev pub IsExactStep : ℕ → ℕ → World → Act → Step → Type 0
IsExactStep nodes slots w a step =
    IsStepBy (λ (n : ℕ). MayCome slots n nodes (node_in w.states n)) (λ (n : ℕ). MayCompact (node_in w.states n)) nodes w.net a step

-- the steps are those of the acts, one after another
abbrev pub IsExactRun : ℕ → ℕ → World → List Act → List Step → Type 0
IsExactRun nodes slots w [] [] = Unit {0}
IsExactRun nodes slots w (a ∷ acts) (step ∷ steps) =
    IsExactStep nodes slots w a step × IsExactRun nodes slots (world_after nodes w step) acts steps
IsExactRun nodes slots w acts steps = ⊥
