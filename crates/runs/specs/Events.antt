-- The acts that are an event at a node, whatever the network holds.
use Rattle.std.specs.Prelude.{ℕ, Option, Some, None}
use Rattle.node_core.specs.declared.event.Event.{Event}
use Rattle.node_core.specs.declared.event.Event.TheVariants as on
use Rattle.schedule.specs.declared.act.Act.{Act}
use Rattle.schedule.specs.declared.act.Act.TheVariants as act

abbrev pub event_at : Act → Option (ℕ × Event)
event_at (act.Timer n timer) = Some (n, on.Timer timer)
event_at (act.Submit n work) = Some (n, on.Submit work)
event_at (act.Finish n origin id) = Some (n, on.Finish origin id)
event_at (act.Recover n) = Some (n, on.Recover)
event_at a = None
