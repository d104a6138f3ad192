-- Which traces are read back as they were written.
use Rattle.std.specs.Prelude.{◌<◌, ◌≤◌, ◌^◌, List, length, Result, Ok, Err, ⊤}
use Rattle.group_task.specs.declared.node.TheConstants.{NODES}
use Rattle.job_model.specs.declared.payload.TheConstants.{PAYLOAD_CAPACITY}
use Rattle.job_model.specs.declared.queue.TheConstants.{QUEUES}
use Rattle.job_model.specs.declared.work.Work.{Work}
use Rattle.wire_msg.specs.Spelling.{AreBytes, IsMessage}
use Rattle.node_core.specs.declared.event.Event.{Event}
use Rattle.node_core.specs.declared.event.Event.TheVariants as on
use Rattle.histories.specs.Lists.{Each}
use Rattle.trace_check.specs.declared.trace.TraceAction.{TraceAction}
use Rattle.trace_check.specs.declared.trace.TraceAction.TheVariants as action
use Rattle.trace_check.specs.Claims.{Claim}
use Rattle.trace_text.specs.declared.fault.WriteFault.{WriteFault}
use Rattle.trace_text.specs.declared.fault.WriteFault.TheVariants.{NoMemory, Unwritable}

-- ---- the numbers of a trace are in their ranges

pub record WorkFits (w : Work) : Type 0 where
  pub queue : w.queue < QUEUES
  pub priority : w.priority < 2 ^ 8
  pub payload : length w.payload ≤ PAYLOAD_CAPACITY
  pub bytes : AreBytes w.payload

abbrev pub EventFits : Event → Type 0
EventFits (on.Timer timer) = ⊤
EventFits (on.Deliver m) = IsMessage m
EventFits (on.Submit work) = WorkFits work
EventFits (on.Finish origin id) = (origin < NODES) × (id < 2 ^ 64)
EventFits on.Recover = ⊤

abbrev pub ActionFits : TraceAction → Type 0
ActionFits action.Nothing = ⊤
ActionFits (action.Done event) = EventFits event
ActionFits (action.Faulted event) = EventFits event
ActionFits action.Crashed = ⊤
ActionFits (action.Recovered kept) = ⊤
ActionFits (action.NotRecovered kept fault) = ⊤

abbrev pub ClaimFits : Claim → Type 0
ClaimFits c = ActionFits c.action × Each IsMessage c.sent

abbrev pub TraceFits : List (List Claim) → Type 0
TraceFits hs = Each (λ (h : List Claim). Each ClaimFits h) hs

-- ---- each action has a name of its own: a recovery is written as Recovered or NotRecovered

abbrev pub IsNamed : Event → Type 0
IsNamed on.Recover = ⊥
IsNamed event = ⊤

abbrev pub HasName : TraceAction → Type 0
HasName (action.Done event) = IsNamed event
HasName (action.Faulted event) = IsNamed event
HasName d = ⊤

abbrev pub AreNamed : List Claim → Type 0
AreNamed h = Each (λ (c : Claim). HasName c.action) h

-- the trace can be written: it has a node, and each of its entries a name
pub record IsWritable (hs : List (List Claim)) : Type 0 where
  pub some : 1 ≤ length hs
  pub named : Each AreNamed hs

-- it was refused for this, and not for want of memory
abbrev pub IsUnwritable : {A : Type 0} → Result A WriteFault → Type 0
IsUnwritable (Ok text) = ⊥
IsUnwritable (Err NoMemory) = ⊥
IsUnwritable (Err Unwritable) = ⊤
