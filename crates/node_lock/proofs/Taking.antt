-- A turn that was taken is the next of its worker's plan, and keeps what is always true.
use Rattle.std.proofs.Common.{◌≡◌, ℕ, ◌<◌, List, [], Option, Some, None, IsSome, IfSome, IfNone, length, slice_index_or, refl}
use Rattle.wire_msg.specs.Envelope.{Envelope}
use Rattle.node_lock.specs.Sending.{Brings, SameSides, SentOn}
use Rattle.link_ring.specs.Sides.{Side}
use Rattle.histories.specs.HistoryEvent.{Entry, brought, event_of}
use Rattle.node_lock.specs.declared.worker.Worker.{Worker}
use Rattle.node_lock.specs.declared.held.TheConstants.{MOST_ENTRIES}
use Rattle.node_lock.specs.Asking.{Asked, IsAsked}
use Rattle.node_lock.specs.Planned.{turns_of, with_turn}
use Rattle.node_lock.specs.History.{Turn, PlanStep}
use Rattle.node_lock.specs.Taking.{site, turn_of, TookTurn, TookNone}
use Rattle.node_lock.specs.HeldView.{HeldView, HeldInvariant, IsTakeLink, Polls, Takes, WaitsSince, Unserved}
use Rattle.node_lock.proofs.Keeping.{gives_in, keeps, keeps_past}

-- the next turn of a worker
abbrev pub next_of : HeldView → Worker → Entry → Turn
next_of h w e = turn_of w (turns_of h.turns w) e

-- it was taken, as its plan asks
abbrev pub TookNext : HeldView → Worker → Asked → Entry → HeldView → Type 0
TookNext h w asked e n =
    IsAsked h.plans w (turns_of h.turns w) asked × TookTurn w (turns_of h.turns w) asked e
    (site h.node h.puts h.history h.lost h.numbers h.drawn) (site n.node n.puts n.history n.lost n.numbers n.drawn)
    × (n.turns ≡ with_turn h.turns w)

step_of : (h n : HeldView) (w : Worker) (asked : Asked) (e : Entry) → HeldInvariant h → TookNext h w asked e n
    → PlanStep h.plans h.turns (next_of h w e) n.turns
step_of h n w asked e k took = record {
  asked = asked;
  asks = took.0;
  gives = gives_in h asked (next_of h w e) n.node k took.1.did;
  index = refl;
  turns = took.2;
}

pub takes_next : (h n : HeldView) (w : Worker) (asked : Asked) (e : Entry) → HeldInvariant h → TookNext h w asked e n
    → Polls h w (next_of h w e) → (t : Turn) × Takes h w t n
unfolding step_of
takes_next h n w asked e k took polls = (
  next_of h w e,
  record {
    history = took.1.turns;
    worker = refl;
    plan = step_of h n w asked e k took;
    did = took.1.did;
    polls = polls;
  },
)

pub keeps_next : (h n : HeldView) (w : Worker) (asked : Asked) (e : Entry) → HeldInvariant h → TookNext h w asked e n → n.run ≡ h.run
    → n.plans ≡ h.plans → length h.history < MOST_ENTRIES
    → length n.takes ≡ length h.takes → ((k : ℕ) (d : Side) → k < length h.takes
    → IsTakeLink n (slice_index_or n.takes k d) × ((slice_index_or n.takes k d).sender ≡ (slice_index_or h.takes k d).sender))
    → (IsSome n.waiting → n.turns.intake < length n.plans.intake)
    → HeldInvariant n
keeps_next h n w asked e k took run plans few len takes waiting =
    keeps h n asked (next_of h w e) k run plans took.1.turns took.1.id took.1.nodes (step_of h n w asked e k took) took.1.did took.1.sent
    took.1.lost took.1.number took.1.area len takes waiting few

-- the same of a worker that doesn't poll
pub keeps_next_past : (h n : HeldView) (w : Worker) (asked : Asked) (e : Entry) → HeldInvariant h → TookNext h w asked e n → n.run ≡ h.run
    → n.plans ≡ h.plans → length h.history < MOST_ENTRIES
    → n.takes ≡ h.takes → n.turns.intake ≡ h.turns.intake → n.waiting ≡ h.waiting → brought (event_of e.what) ≡ []
    → HeldInvariant n
keeps_next_past h n w asked e k took run plans few takes turns waiting none =
    keeps_past h n asked (next_of h w e) k run plans took.1.turns took.1.id took.1.nodes (step_of h n w asked e k took) took.1.did
    took.1.sent took.1.lost took.1.number took.1.area takes turns waiting none few

-- a turn that sends nothing leaves the links
pub nothing_sent : (sides : List Side) → SentOn [] sides sides
nothing_sent sides = record {
  len = refl;
  each = λ k d lt. record {
    same = record { sender = refl; receiver = refl; capacity = refl };
    messages = refl;
  };
}

-- what was fetched waits, or waits still
pub waits_since : (place : ℕ) (arrived was : Option Envelope) (old new : List Side) → IfNone arrived ((was ≡ None) × SameSides old new)
    → IfSome arrived (λ m. Brings place m was old new)
    → WaitsSince old new was arrived
waits_since place None was old new none some = none
waits_since place (Some m) was old new none some = (place, some)

-- no turn was taken
pub unserved_by : (h n : HeldView) → n.run ≡ h.run → n.plans ≡ h.plans → n.turns ≡ h.turns
    → TookNone (site h.node h.puts h.history h.lost h.numbers h.drawn) (site n.node n.puts n.history n.lost n.numbers n.drawn)
    → WaitsSince h.takes n.takes h.waiting n.waiting
    → Unserved h n
unserved_by h n run plans turns none waits = record {
  same = record { run = run; plans = plans };
  node = none.node;
  turns = turns;
  history = none.turns;
  lost = none.lost;
  numbers = none.numbers;
  drawn = none.drawn;
  puts = none.puts;
  takes = waits;
}
