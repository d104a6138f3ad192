use Rattle.std.proofs.Common.{◌≡◌, None, Ok, IsErr}
use Rattle.node_session.specs.Serving.{Calls}
use Rattle.node_session.specs.Text.{fired_news}
use Rattle.node_session.specs.Timing.{Timely}
use Rattle.node_session.proofs.Timings.{IsFiring}
use Rattle.node_session.proofs.session.Session.fire_due.Given as goal

abbrev pub invariant-loop-fired : goal.invariant-loop-fired
invariant-loop-fired g l = record {
  rest : l.self.rest ≡ l.fn.self.rest;
  done : IsErr l.ended → ⊥;
  calls : Calls g.D.SectorDisk.state l.fn.self l.self fired_news (Timely (IsFiring l.fn.self.waits l.fn.self.timers l.self.timers l._fired))
      (Ok None) l.ended;
}
