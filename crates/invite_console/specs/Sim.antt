-- The text of the command `sim`.
use Rattle.std.specs.Prelude.{◌≡◌, ℕ, ◌+◌, List, [], ◌∷◌, ◌++◌, codes, decimal, length, Bool, true, false, Result, Ok, Err}
use Rattle.node_core.specs.State.{is_down}
use Rattle.histories.specs.NodeState.{NodeState}
use Rattle.schedule.specs.declared.act.Act.{Act}
use Rattle.schedule.specs.Text.{Script, script_of}
use Rattle.runs.specs.World.{World, start}
use Rattle.runs.specs.Step.{Step, world_after}
use Rattle.runs.specs.Reporting.{Report, grown, moment_of, report_of}
use Rattle.runs.specs.ExactRuns.{IsExactStep}
use Rattle.runs.specs.Growth.{IsLeft, acts_in}
use Rattle.cluster_sim.specs.Acting.{IsActed}
use Rattle.cluster_sim.specs.World.{AreasWithin, AreUnarmed, WorldView, StandsFor}
use Rattle.console_text.specs.Ends.{Printout, line, refused}
use Rattle.invite_console.specs.declared.details.Details.{Details}
use Rattle.invite_console.specs.Acts.{moment_line}
use Rattle.invite_console.specs.Rows.{HasRow, down_row}

-- ---- the table

abbrev pub AddsRowBy : Bool → ℕ → NodeState → List ℕ → List ℕ → Type 0
AddsRowBy true id s old new = new ≡ old ++ line (down_row id)
AddsRowBy false id s old new = HasRow id s.state s.durable old new

-- the line of a node, added to a text
abbrev pub AddsRow : ℕ → NodeState → List ℕ → List ℕ → Type 0
AddsRow id s old new = AddsRowBy (is_down s.state.phase) id s old new

-- the lines of nodes, of which the first has this id
abbrev pub AddsRows : ℕ → List NodeState → List ℕ → List ℕ → Type 0
AddsRows id [] old new = new ≡ old
AddsRows id (s ∷ states) old new = (behind : List ℕ) × AddsRow id s old behind × AddsRows (id + 1) states behind new

-- the lines of the nodes, where they are asked for
abbrev pub AddsNodes : Bool → List NodeState → List ℕ → List ℕ → Type 0
AddsNodes false states old new = new ≡ old
AddsNodes true states old new = AddsRows 0 states old new

-- ---- the whole text

-- A run and its report, with its text so far: in front of the line of each act, where they are asked for, the nodes as they
-- are before it. The nodes open over disks that aren't armed, and each act finds them as the act before it left them.
pub data PrintsSoFar (details : Details) (nodes slots : ℕ) : WorldView → World → Report → List ℕ → Type 0 where
  nothing : (view : WorldView) → StandsFor view (start nodes) → AreUnarmed view.nodes
      → PrintsSoFar details nodes slots view (start nodes) (report_of nodes [] []) []
  one_more : (view view' : WorldView) (w : World) (r : Report) (a : Act) (step : Step) (text headed behind : List ℕ)
      → PrintsSoFar details nodes slots view w r text → IsExactStep nodes slots w a step → IsActed nodes view view' w a step
      → AddsNodes details.nodes w.states text headed
      → behind ≡ headed ++ moment_line details.names (length r.moments) (moment_of nodes w a step)
      → PrintsSoFar details nodes slots view' (world_after nodes w step) (grown nodes w a step r) behind

-- Some run of these acts is printed act by act, and then the nodes as it leaves them. Whatever is promised of every run of a
-- schedule is promised of this one (`left`), and nothing is used up in it.
pub record PrintsRun (details : Details) (nodes slots : ℕ) (acts : List Act) (text : List ℕ) : Type 0 where
  pub view : WorldView
  pub world : World
  pub report : Report
  pub left : IsLeft nodes slots world report
  pub acts_are : acts_in report ≡ acts
  pub front : List ℕ
  pub printed : PrintsSoFar details nodes slots view world report front
  pub ended : AddsRows 0 world.states front text

abbrev pub PrintsScript : Details → Result Script ℕ → Printout → Type 0
PrintsScript details (Err n) printout = printout ≡ refused (codes "bad line " ++ decimal n)
PrintsScript details (Ok script) printout = (printout.good ≡ true)
    × PrintsRun details script.size.nodes script.size.slots script.acts printout.text

-- what `sim` prints for an input
abbrev pub IsSimPrintout : Details → List ℕ → Printout → Type 0
IsSimPrintout details input printout = PrintsScript details (script_of input) printout

-- ---- on the way

-- the acts so far were printed, and the cluster is as they left it
pub record IsSoFar (details : Details) (nodes slots : ℕ) (view : WorldView) (acts : List Act) (text : List ℕ) : Type 0 where
  pub world : World
  pub report : Report
  pub left : IsLeft nodes slots world report
  pub count : length world.states ≡ nodes
  pub slots_are : view.slots ≡ slots
  pub stands : StandsFor view world
  -- each act raises the number of an area by one at most
  pub areas : AreasWithin (length report.moments + 2) view.nodes
  pub acts_are : acts_in report ≡ acts
  pub printed : PrintsSoFar details nodes slots view world report text

-- the cluster stands for some world
abbrev pub HasWorld : WorldView → Type 0
HasWorld view = (w : World) × StandsFor view w
