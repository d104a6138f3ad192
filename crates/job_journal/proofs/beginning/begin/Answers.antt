use Rattle.job_journal.proofs.Common.{◌∙◌, arith, run_on, jobs_of}
use Rattle.job_journal.proofs.Areas.{areas_within}
use Rattle.job_journal.proofs.Beginnings.{begun}
use Rattle.job_journal.proofs.beginning.begin.Goals as goal

pub returns-in_err-or-clause-writes : goal.returns-in_err-or-clause-writes
returns-in_err-or-clause-writes g c = record {
  answers = grind arith;
  counts = grind arith;
  run =
      λ honest. areas_within c.args.slots (c.unseal_all.ensures.writes.run honest);
}

pub returns-in_err-or-2-clause-writes : goal.returns-in_err-or-2-clause-writes
returns-in_err-or-2-clause-writes g c = record {
  answers = grind arith;
  counts = grind arith;
  run = run_on _ (λ k is. (omega (arith, is.0), omega (arith, is.1))) c.unseal_all.ensures.writes.counts.honest (λ honest.
      areas_within c.args.slots (c.unseal_all.ensures.writes.run honest)) c.write_records.ensures.writes.run;
}

pub returns-clause-writes : goal.returns-clause-writes
returns-clause-writes g c = record {
  answers = grind arith;
  counts = grind arith;
  run = run_on _ (λ k is. (grind (arith, is), grind (arith, is)))
      (c.write_records.ensures.writes.counts.honest ∙ c.unseal_all.ensures.writes.counts.honest)
      (run_on _ (λ k is. (omega (arith, is.0), omega (arith, is.1))) c.unseal_all.ensures.writes.counts.honest (λ honest.
      areas_within c.args.slots (c.unseal_all.ensures.writes.run honest)) c.write_records.ensures.writes.run)
      c.format.ensures.writes.run;
}

pub returns-clause-jobs : goal.returns-clause-jobs
returns-clause-jobs g c = λ honest ok i image.
    let state = g.D.SectorDisk.state in
    (begun c.args.slots (jobs_of c.args.table.now) (state c.args.disk.now) (state c.unseal_all.new.disk)
    c.unseal_all.ensures.writes.counts.honest c.write_records.ensures.writes.counts.honest
    (c.write_records.ensures.in_order (grind arith)) c.requires.room
    (λ h. c.unseal_all.ensures.unsealed h (grind arith)) (λ h. c.write_records.ensures.written h (grind arith)) c.format.ensures.writes.run
    (λ h. c.format.ensures.synced h (grind arith)) (λ h. c.format.ensures.value h (grind arith)) honest i image).0

pub returns-clause-sound : goal.returns-clause-sound
returns-clause-sound g c = λ honest ok now i image.
    let state = g.D.SectorDisk.state in
    (begun c.args.slots (jobs_of c.args.table.now) (state c.args.disk.now) (state c.unseal_all.new.disk)
    c.unseal_all.ensures.writes.counts.honest c.write_records.ensures.writes.counts.honest
    (c.write_records.ensures.in_order (grind arith)) c.requires.room
    (λ h. c.unseal_all.ensures.unsealed h (grind arith)) (λ h. c.write_records.ensures.written h (grind arith)) c.format.ensures.writes.run
    (λ h. c.format.ensures.synced h (grind arith)) (λ h. c.format.ensures.value h (grind arith)) honest i image).1
