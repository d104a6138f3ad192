use Rattle.std.proofs.Common.{List, ℕ, subst, sym}
use Rattle.node_server.proofs.Writes.{IsWritten, some_more}
use Rattle.node_server.proofs.writing.write_whole.Goals as goal

pub loop-write-preserved : goal.loop-write-preserved
loop-write-preserved g c = record {
  written = subst (λ (l : List ℕ). IsWritten c.args.text.now l (g.W.Write.contents c.args.output.now)
      (g.W.Write.contents c.write_some.new.output))
      (sym c.split_at.ensures.back)
      (some_more _ _ c.in_ok-count.count _ _ _ c.loop-write.invariant.written c.in_ok-count.ensures.bytes);
}
