use Rattle.std.proofs.Common.{◌≡◌, ◌<◌, false, length}
use Rattle.lease_session.specs.Feeding.{at}
use Rattle.lease_session.proofs.Pieces.{IsSoFar}
use Rattle.lease_session.proofs.serving.serve.Given as goal

abbrev pub invariant-loop-read : goal.invariant-loop-read
invariant-loop-read g l = record {
  so : IsSoFar (at l.fn.session.participant.process l.fn.session.participant.told l.fn.session.stopped
      (g.S.EpochStore.bound l.fn.session.participant.store))
      (at l.session.participant.process l.session.participant.told l.session.stopped (g.S.EpochStore.bound l.session.participant.store))
      l.session.unread.items
      (g.R.Read.remaining l.fn.input) (g.R.Read.remaining l.input) (g.W.Write.contents l.fn.output) (g.W.Write.contents l.output);
  going : l.session.stopped ≡ false;
  room : 0 < length l.piece;
}
