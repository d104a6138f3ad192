-- How what was told of an act at a node stands in a trace.
use Rattle.std.specs.Prelude.{ℕ, ◌≡◌, ◌++◌, [], ◌∷◌, false, List, length, slice_get, slice_set, Option, Some, None}
use Rattle.histories.specs.declared.event_outcome.EventOutcome.{EventOutcome}
use Rattle.histories.specs.declared.event_outcome.EventOutcome.TheVariants as event_outcome
use Rattle.runs.specs.declared.outcome.Outcome.{Outcome}
use Rattle.runs.specs.declared.outcome.Outcome.TheVariants as outcome
use Rattle.trace_check.specs.declared.trace.TraceAction.{TraceAction}
use Rattle.trace_check.specs.declared.trace.TraceAction.TheVariants as action
use Rattle.trace_check.specs.declared.trace.RecoverFault.TheVariants as recover
use Rattle.trace_check.specs.Claims.{Claim}
use Rattle.cluster_sim.specs.declared.bringing.Brought.{Brought}
use Rattle.cluster_sim.specs.declared.bringing.Brought.TheVariants.{Event, Crash, Compaction}
use Rattle.schedule.specs.declared.act.Act.{Act}
use Rattle.runs.specs.World.{World}
use Rattle.cluster_sim.specs.Names.{node_named}
use Rattle.cluster_sim.specs.Operated.{Operates}
use Rattle.cluster_sim.specs.World.{FaultsAt, Performed, WorldView, armed_by}
use Rattle.cluster_sim.specs.declared.act_report.ActReport.{ActReport as Told}
use Rattle.cluster_sim.specs.Traced.{done, failed}

-- what came of an event
abbrev pub happened : EventOutcome → Brought → TraceAction
happened event_outcome.Done (Event event) = done event
happened event_outcome.Faulted (Event event) = failed event
happened (event_outcome.Recovered kept) b = action.Recovered kept
happened event_outcome.MountFailed b = action.NotRecovered false recover.Mount
happened (event_outcome.RaiseFailed kept) b = action.NotRecovered kept recover.Raise
happened rest b = action.Nothing

-- what was done, by what the node told, what was brought and how the act ended
abbrev pub action_by : Option EventOutcome → Brought → Outcome → TraceAction
action_by (Some f) b o = happened f b
action_by None Crash o = action.Crashed
action_by None Compaction outcome.Faulted = action.Crashed
action_by None b o = action.Nothing

-- the act had one of its steps, and did to the disk of its node what it does
abbrev pub IsStepped : WorldView → World → Act → WorldView → Type 0
IsStepped old w a new = (told : Told) × Performed w a told new × Operates a old new told.outcome
    × FaultsAt (armed_by a) (node_named (length old.nodes) old.net.sent a) old new told.outcome

-- and so did one that brought this to its node, of which that was done, as the node told
abbrev pub ActedAs : WorldView → World → Act → Brought → TraceAction → WorldView → Type 0
ActedAs old w a b d new = (told : Told) × Performed w a told new × (d ≡ action_by told.event_outcome b told.outcome)
    × Operates a old new told.outcome × FaultsAt (armed_by a) (node_named (length old.nodes) old.net.sent a) old new told.outcome

-- the entry is added to the history of its node
abbrev pub IsNoted : ℕ → Claim → List (List Claim) → List (List Claim) → Type 0
IsNoted n c old new = (h : List Claim) → slice_get old n ≡ Some h → new ≡ slice_set old n (h ++ c ∷ [])
