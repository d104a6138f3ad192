-- The text of the command `record`.
use Rattle.std.specs.Prelude.{◌≡◌, ℕ, List, ◌++◌, codes, decimal, reverse, true, Result, Ok, Err}
use Rattle.serde_json.specs.Written.{compact_text}
use Rattle.schedule.specs.Text.{Script, script_of}
use Rattle.console_text.specs.Ends.{Printout, line, refused}
use Rattle.trace_check.specs.Claims.{Claim}
use Rattle.trace_check.specs.declared.order.Order.{Order}
use Rattle.trace_text.specs.Ordered.{ordered_by, ordered_data}
use Rattle.cluster_sim.specs.Traced.{IsOrder, IsRecordOf}

-- the text of the trace of some run of these acts, and of the order of that run's turns, in which all entries can be taken
pub record IsRecordText (script : Script) (text : List ℕ) : Type 0 where
  pub trace : List (List Claim)
  pub order : Order
  pub of_run : IsRecordOf script.size.nodes script.size.slots script.acts trace order
  pub can_come : IsOrder trace (reverse order.nodes.items)
  pub is_text : text ≡ compact_text (ordered_data trace (ordered_by order))

-- a line, with such a text
abbrev pub PrintsRecord : Script → List ℕ → Type 0
PrintsRecord script text = (whole : List ℕ) × IsRecordText script whole × (text ≡ line whole)

abbrev pub RecordsScript : Result Script ℕ → Printout → Type 0
RecordsScript (Err n) printout = printout ≡ refused (codes "bad line " ++ decimal n)
RecordsScript (Ok script) printout = (printout.good ≡ true) × PrintsRecord script printout.text

-- what `record` prints for an input
abbrev pub IsRecording : List ℕ → Printout → Type 0
IsRecording input printout = RecordsScript (script_of input) printout
