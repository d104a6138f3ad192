-- A message as a slot of a link's ring holds it: its nodes, and the short form of its body, or a long body in a box.
use Rattle.std.specs.Prelude.{ℕ, ◌≢◌}
use Rattle.wire_msg.specs.Envelope.{Envelope}
use Rattle.wire_msg.specs.declared.body.Body.{Body}
use Rattle.wire_msg.specs.Kinds.{said, IsShort}
use Rattle.wire_msg.specs.declared.short.Short.{Short as ShortForm}
use Rattle.link_ring.specs.declared.carried.Head.{Head}
use Rattle.link_ring.specs.declared.carried.Carried.{Carried}
use Rattle.link_ring.specs.declared.carried.Carried.TheVariants.{Short, Overflow}

abbrev pub short_of : Head → ℕ → ShortForm
short_of h number = record { kind = h.kind; answer = h.answer; creator = h.creator; number = number }

abbrev pub says : Head → Body → Envelope
says h body = record { sender = h.sender; receiver = h.receiver; body = body }

abbrev pub carried : Carried → Envelope
carried (Short h number) = says h (said (short_of h number))
carried (Overflow h long) = says h long.value

-- it is between two nodes, and a short form is that of the body that it says
abbrev pub IsWhole : Carried → Type 0
IsWhole (Short h number) = (h.sender ≢ h.receiver) × IsShort (short_of h number)
IsWhole (Overflow h long) = h.sender ≢ h.receiver
