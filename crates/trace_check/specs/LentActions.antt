-- What an entry says that is lent.
use Rattle.std.specs.Prelude.{◌≤◌, length}
use Rattle.job_model.specs.declared.payload.TheConstants.{PAYLOAD_CAPACITY}
use Rattle.node_core.specs.declared.event.Event.{Event}
use Rattle.node_core.specs.declared.event.Event.TheVariants as on
use Rattle.trace_check.specs.declared.trace.TraceAction.{TraceAction}
use Rattle.trace_check.specs.declared.trace.TraceAction.TheVariants as action
use Rattle.trace_check.specs.declared.lent_action.EventRef.{EventRef}
use Rattle.trace_check.specs.declared.lent_action.EventRef.TheVariants as lent
use Rattle.trace_check.specs.declared.lent_action.ActionRef.{ActionRef}
use Rattle.trace_check.specs.declared.lent_action.ActionRef.TheVariants as given
use Rattle.trace_check.specs.Kept.{payload_of, payload_in}

abbrev pub event_lent : EventRef → Event
event_lent (lent.Timer timer) = on.Timer timer
event_lent (lent.Deliver m) = on.Deliver m.now
event_lent (lent.Submit queue priority bytes) = on.Submit (record { queue = queue; priority = priority; payload = bytes.now })
event_lent (lent.Finish origin id) = on.Finish origin id
event_lent lent.Recover = on.Recover

abbrev pub action_lent : ActionRef → TraceAction
action_lent given.Nothing = action.Nothing
action_lent (given.Done event) = action.Done (event_lent event)
action_lent (given.Faulted event) = action.Faulted (event_lent event)
action_lent given.Crashed = action.Crashed
action_lent (given.Recovered kept) = action.Recovered kept
action_lent (given.NotRecovered kept fault) = action.NotRecovered kept fault

-- a payload that is lent is one of a job
abbrev pub FitsEvent : EventRef → Type 0
FitsEvent event = length (payload_of (event_lent event)) ≤ PAYLOAD_CAPACITY

abbrev pub FitsPayload : ActionRef → Type 0
FitsPayload given = length (payload_in (action_lent given)) ≤ PAYLOAD_CAPACITY
