-- What a delivery is, by what the network answers to it.
use Rattle.std.specs.Prelude.{ℕ, ◌≡◌, nat_lt, slice_get, Result, MatchResult}
use Rattle.wire_msg.specs.Envelope.{Envelope}
use Rattle.node_core.specs.declared.event.Event.{Event}
use Rattle.node_core.specs.declared.event.Event.TheVariants as on
use Rattle.histories.specs.HistoryEvent.{IsOf}
use Rattle.histories.specs.declared.history_event.HistoryEvent.{HistoryEvent}
use Rattle.sim_net.specs.declared.fault.NetFault.{NetFault}
use Rattle.sim_net.specs.Network.{Network}
use Rattle.runs.specs.declared.outcome.ActRefusal.TheVariants.{Net as OfNet}
use Rattle.runs.specs.Step.{Step, Denies}
use Rattle.runs.specs.Acts.{At, receiver_or_first}

-- the step of a delivery of the message of number k, for which this came, where E says what may come of an event at a node
abbrev pub BringsBy : (ℕ → Event → HistoryEvent → Type 0) → ℕ → Network → ℕ → Result Envelope NetFault → Step → Type 0
BringsBy E nodes net k comes step =
    MatchResult comes (λ m. At (nat_lt m.receiver nodes) m.receiver k (E m.receiver (on.Deliver m)) step)
    (λ why. step ≡ Denies (receiver_or_first nodes (slice_get net.sent k)) (OfNet why))

-- in a run of any length
abbrev pub Brings : ℕ → Network → ℕ → Result Envelope NetFault → Step → Type 0
Brings nodes net k comes step = BringsBy (λ (n : ℕ) (event : Event). IsOf event) nodes net k comes step
