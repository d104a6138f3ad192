use Rattle.job_journal.proofs.Common.{◌≡◌, ◌+◌, ◌-◌, length, ◌∙◌, subst, refl, arith, writes_on, IsWritten, records_for, jobs_of}
use Rattle.job_journal.proofs.Changes.{written_seal}
use Rattle.job_journal.proofs.area.seal_area.Goals as goal

pub returns-clause-writes : goal.returns-clause-writes
returns-clause-writes g c = writes_on _ (λ k is. is) (λ k is. (
  omega (arith, is),
  omega (arith, is),
)) refl c.in_ok-seal_first.ensures.writes c.seal.ensures.writes

pub returns-clause-sealed : goal.returns-clause-sealed
returns-clause-sealed g c = λ honest ok was.
    let still = c.in_ok-seal_first.ensures.writes.counts.honest ∙ honest in
    let all = length c.args.table.now.pending + 1 in
    let is : c.record_count-last.result - 1 + 1 ≡ all = omega (arith, c.record_count-last.ensures.count) in
    subst (λ n. IsWritten c.args.area.first c.args.area.slots (records_for (jobs_of c.args.table.now)) all n
    (g.D.SectorDisk.state c.seal.new.disk).contents) is
    (written_seal _ _ _ _ _ _ _ (c.seal.ensures.writes.run still).contents (c.seal.ensures.sealed still ok)
    (c.in_ok-seal_first.ensures.sealed honest refl was))

pub returns-clause-synced : goal.returns-clause-synced
returns-clause-synced g c = λ honest ok. c.seal.ensures.synced (c.in_ok-seal_first.ensures.writes.counts.honest ∙ honest) ok
