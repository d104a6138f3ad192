use Rattle.std.proofs.Common.{◌≡◌, [], false}
use Rattle.node_server.proofs.Pieces.{IsSoFar}
use Rattle.node_server.proofs.serving.serve.Given as goal

abbrev pub invariant-loop-read : goal.invariant-loop-read
invariant-loop-read g l = record {
  served : IsSoFar g.D.SectorDisk.state l.fn.session l.session (g.R.Read.remaining l.fn.input) (g.R.Read.remaining l.input)
      (g.W.Write.contents l.fn.output) (g.W.Write.contents l.output);
  clear : l.session.text ≡ [];
  going : l.session.stopped ≡ false;
}
