use Rattle.node_server.proofs.Pieces.{GoesOn}
use Rattle.node_server.proofs.serving.answer.Given as goal

abbrev pub invariant-loop-line : goal.invariant-loop-line
invariant-loop-line g l = record {
  goes : GoesOn g.D.SectorDisk.state l.fn.session l.session l.fn.piece l.left (g.W.Write.contents l.fn.output)
      (g.W.Write.contents l.output);
}
