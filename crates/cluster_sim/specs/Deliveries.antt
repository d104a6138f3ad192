-- The event of a delivery.
use Rattle.std.specs.Prelude.{ℕ, ◌≡◌, ⊤, Result, Ok}
use Rattle.wire_msg.specs.Envelope.{Envelope}
use Rattle.sim_net.specs.declared.fault.NetFault.{NetFault}
use Rattle.node_core.specs.declared.event.Event.{Event}
use Rattle.node_core.specs.declared.event.Event.TheVariants as on

abbrev pub IsDelivery : Event → Type 0
IsDelivery (on.Deliver m) = ⊤
IsDelivery event = ⊥

-- it is the event of the message that comes, at its receiver
pub record Delivers (comes : Result Envelope NetFault) (receiver : ℕ) (event : Event) : Type 0 where
  pub message : Envelope
  pub is : comes ≡ Ok message
  pub at : receiver ≡ message.receiver
  pub event_is : event ≡ on.Deliver message
