use Rattle.job_journal.proofs.Common.{refl, arith}
use Rattle.job_journal.proofs.Changes.{writing_more, writing_run, written_seal}
use Rattle.job_journal.proofs.area.seal_first.Goals as goal

pub returns-in_err-seal_later-clause-writes : goal.returns-in_err-seal_later-clause-writes
returns-in_err-seal_later-clause-writes g c = record {
  answers = grind arith;
  counts = grind arith;
  run =
      writing_run (λ k is. (omega (arith, is), omega (arith, is))) c.loop-sealed.invariant c.seal_later.ensures.writes.run;
}

pub loop-sealed-preserved : goal.loop-sealed-preserved
loop-sealed-preserved g c =
    writing_more _ _ refl (λ k is. (omega (arith, is), omega (arith, is))) c.loop-sealed.invariant c.in_ok-seal_later.ensures.writes.counts
    c.seal_later.ensures.writes.run
    (λ honest so_far. written_seal _ _ _ _ c.loop-sealed.sealed _ _ (c.seal_later.ensures.writes.run honest).contents
    (c.in_ok-seal_later.ensures.sealed honest refl) so_far)
