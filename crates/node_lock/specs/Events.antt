-- What contracts see of a list of events: the events, and for how many more there is room.
use Rattle.std.specs.Prelude.{ℕ, List}
use Rattle.node_core.specs.declared.event.Event.{Event}

pub record EventsKept : Type 0 where
  pub events : List Event
  pub room : ℕ
