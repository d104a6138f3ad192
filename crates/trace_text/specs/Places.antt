-- What was read into a place.
use Rattle.std.specs.Prelude.{ℕ, ◌≡◌, Bool, true, false, Option, Some, None, option_map, option_and_then}
use Rattle.node_core.specs.declared.event.Event.{Event}
use Rattle.node_core.specs.declared.event.Event.TheVariants as on
use Rattle.trace_text.specs.Fields.{FieldData}
use Rattle.trace_text.specs.Entries.{done_in, device_in}
use Rattle.trace_check.specs.declared.trace.TraceAction.{TraceAction}
use Rattle.trace_check.specs.declared.trace.TraceAction.TheVariants as action
use Rattle.trace_check.specs.declared.trace.RecoverFault.{RecoverFault}

-- what is to be read is there now, or there is nothing to be read
abbrev pub IsRead : {A : Type 0} → Bool → A → Option A → Type 0
IsRead true new is = is ≡ Some new
IsRead false new is = is ≡ None

-- whether the command in doubt was kept, and how the recovery failed
abbrev pub recovery_said : Bool × Option RecoverFault → TraceAction
recovery_said r = said r.0 r.1
  where
    said : Bool → Option RecoverFault → TraceAction
    said kept None = action.Recovered kept
    said kept (Some fault) = action.NotRecovered kept fault

abbrev pub finish_said : ℕ × ℕ → Event
finish_said f = on.Finish f.0 f.1

-- the event was handled, or the device failed in it
abbrev pub with_device : FieldData → Option Event → Option TraceAction
with_device f event = option_and_then (λ (e : Event). option_map (λ (failed : Bool). done_in e failed) (device_in f.fault)) event
