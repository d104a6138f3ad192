use Rattle.std.proofs.Common.{refl, ◌∙◌}
use Rattle.lease_session.proofs.Turns.{stay, then}
use Rattle.lease_session.proofs.participant.Participant.serve_due.Goals as goal

pub loop-place-init : goal.loop-place-init
loop-place-init g c = record { turn = stay c.args.self.now.process; told = refl }

pub loop-place-preserved : goal.loop-place-preserved
loop-place-preserved g c = record {
  turn = then c.loop-place.invariant.turn c.serve_at.ensures.turn;
  told = c.serve_at.ensures.told
      ∙ c.loop-place.invariant.told;
}
