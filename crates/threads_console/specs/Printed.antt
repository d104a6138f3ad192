-- The text of the command `threads`.
use Rattle.std.specs.Prelude.{◌≡◌, ◌⊎◌, ℕ, List, ◌++◌, codes, decimal, Bool, false, true, Result, Ok, Err}
use Rattle.serde_json.specs.Written.{compact_text}
use Rattle.console_text.specs.Ends.{Printout, line, refused}
use Rattle.link_ring.specs.declared.gathering.LinkEnd.{LinkEnd}
use Rattle.node_lock.specs.declared.worker.Worker.{Worker}
use Rattle.node_lock.specs.declared.worker.Worker.TheVariants.{Intake, Clock, Operator}
use Rattle.node_lock.specs.Kept.{Log}
use Rattle.node_lock.specs.Planned.{Planned}
use Rattle.node_threads.specs.declared.fault.ThreadsFault.{ThreadsFault}
use Rattle.node_threads.specs.declared.fault.ThreadsFault.TheVariants.{GateShut, Unfinished, NoMemory, Unpaired}
use Rattle.node_threads.specs.declared.size.RunSize.{RunSize}
use Rattle.node_threads.specs.Reasons.{IsReason}
use Rattle.node_threads.specs.Whole.{IsWhole}
use Rattle.trace_check.specs.declared.order.Order.{Order}
use Rattle.trace_text.specs.Ordered.{ordered_by, ordered_data}
use Rattle.trace_text.specs.Written.{trace_data}
use Rattle.threads_console.specs.Numbers.{HasNoOrder}
use Rattle.threads_console.specs.Ordering.{IsOrderOf}
use Rattle.threads_console.specs.Planning.{ArePlanned}
use Rattle.threads_console.specs.Scripts.{Script, script_of}
use Rattle.threads_console.specs.Texts.{run_claims}
use Rattle.threads_console.specs.declared.kind.TraceKind.{TraceKind}
use Rattle.threads_console.specs.declared.kind.TraceKind.TheVariants.{Plain, Ordered}

abbrev pub worker_name : Worker → List ℕ
worker_name Intake = codes "intake"
worker_name Clock = codes "clock"
worker_name Operator = codes "operator"

abbrev pub fault_text : ThreadsFault → List ℕ
fault_text GateShut = codes "gate shut"
fault_text (Unfinished node worker) = codes "unfinished " ++ decimal node ++ codes " " ++ worker_name worker
fault_text NoMemory = codes "no memory"
fault_text Unpaired = codes "unpaired"

-- the trace with the order of the numbers that its turns drew, and the numbers of messages that they were brought
pub record IsOrderedText (logs : List Log) (text : List ℕ) : Type 0 where
  pub order : Order
  pub is_order : IsOrderOf logs order
  pub is_text : text ≡ compact_text (ordered_data (run_claims logs) (ordered_by order))

-- the text of a trace alone
abbrev pub IsPlainText : List Log → List ℕ → Type 0
IsPlainText logs text = text ≡ compact_text (trace_data (run_claims logs))

-- The text of a trace: alone, or with its order. Where that is asked for the trace stands alone only where the numbers give no order, which
-- is so of no run that is known.
abbrev pub IsRunText : TraceKind → List Log → List ℕ → Type 0
IsRunText Plain logs text = IsPlainText logs text
IsRunText Ordered logs text = IsOrderedText logs text ⊎ (HasNoOrder logs × IsPlainText logs text)

-- a line, with the text of the trace of these histories
pub record IsRunPrinted (kind : TraceKind) (histories : List Log) (printout : Printout) : Type 0 where
  pub text : List ℕ
  pub is_text : IsRunText kind histories text
  pub printed : printout ≡ record { text = line text; good = true }

-- some whole run of these plans is printed
pub record PrintsWhole (kind : TraceKind) (size : RunSize) (plans : List Planned) (printout : Printout) : Type 0 where
  pub histories : List Log
  pub links : List LinkEnd
  pub whole : IsWhole size plans histories links
  pub printed : IsRunPrinted kind histories printout

-- the gate that lets all pass
abbrev pub never_shut : ℕ → Worker → Bool
never_shut node worker = false

-- or why no run of them was gathered, which has its reason in the plans
pub record PrintsFault (plans : List Planned) (printout : Printout) : Type 0 where
  pub fault : ThreadsFault
  pub reason : IsReason never_shut plans fault
  pub printed : printout ≡ refused (fault_text fault)

abbrev pub PrintsRun : TraceKind → RunSize → List Planned → Printout → Type 0
PrintsRun kind size plans printout = PrintsWhole kind size plans printout ⊎ PrintsFault plans printout

abbrev pub PrintsScript : TraceKind → Result Script ℕ → Printout → Type 0
PrintsScript kind (Err n) printout = printout ≡ refused (codes "bad line " ++ decimal n)
PrintsScript kind (Ok input) printout = (plans : List Planned) × ArePlanned input.size.nodes input.turns plans
    × PrintsRun kind input.size plans printout

-- what `threads` prints for an input
abbrev pub IsThreading : TraceKind → List ℕ → Printout → Type 0
IsThreading kind input printout = PrintsScript kind (script_of input) printout
