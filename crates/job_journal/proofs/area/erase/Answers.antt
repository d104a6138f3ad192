use Rattle.job_journal.proofs.Common.{◌≡◌, true, refl, arith, erased_start, erased_run, erased_more}
use Rattle.job_journal.proofs.area.erase.Goals as goal

pub loop-erased-init : goal.loop-erased-init
loop-erased-init g c = erased_start _ _ _ (λ honest. g.met.D.SectorDisk.laws c.args.disk.now honest)

pub loop-erased-preserved : goal.loop-erased-preserved
loop-erased-preserved g c =
    erased_more _ _ c.loop-erased.erased _ _ _ _ (true ≡ true) refl c.loop-erased-test.true c.loop-erased.invariant
    c.in_ok-unseal_later.ensures.writes.counts c.unseal_later.ensures.writes.run
    (λ honest. c.in_ok-unseal_later.ensures.unsealed honest refl)

pub returns-in_err-unseal_later-clause-writes : goal.returns-in_err-unseal_later-clause-writes
returns-in_err-unseal_later-clause-writes g c = record {
  answers = grind arith;
  counts = grind arith;
  run =
      erased_run _ _ c.loop-erased.erased _ _ _ c.loop-erased-test.true c.loop-erased.invariant c.unseal_later.ensures.writes.run;
}
