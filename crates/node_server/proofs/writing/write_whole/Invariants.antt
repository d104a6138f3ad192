use Rattle.node_server.proofs.Writes.{IsWritten}
use Rattle.node_server.proofs.writing.write_whole.Given as goal

abbrev pub invariant-loop-write : goal.invariant-loop-write
invariant-loop-write g l = record {
  written : IsWritten l.text l.left (g.W.Write.contents l.fn.output) (g.W.Write.contents l.output);
}
