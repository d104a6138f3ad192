use Rattle.job_journal.proofs.Common.{◌≡◌, ◌∙◌, IsOk, raised, refl, arith, nat_tests}
use Rattle.job_journal.proofs.Changes.{still_since, area_run, area_stays, jobs_held_since, compact_run, compact_since, compact_after}
use Rattle.job_journal.proofs.Frames.{jobs_held}
use Rattle.job_journal.proofs.Spellings.{compact_ends}
use Rattle.job_journal.proofs.Numbers.{still_numbered, area_numbered, raise_numbered}
use Rattle.job_journal.proofs.journal.JobJournal.compact.Goals as goal

pub returns-in-Some-clause-images : goal.returns-in-Some-clause-images
returns-in-Some-clause-images g c = λ honest all.
    still_since c.args.self.now _ honest (g.met.D.SectorDisk.laws c.args.disk.now honest) all

pub other_sector-requires-clause-below : goal.other_sector-requires-clause-below
other_sector-requires-clause-below g c = grind (arith, nat_tests)

pub returns-in_default-write_area-clause-run : goal.returns-in_default-write_area-clause-run
returns-in_default-write_area-clause-run g c = λ honest.
    area_run c.self.view_is c.other_sector.ensures (c.write_area.ensures.writes.run honest)

pub returns-in_default-write_area-clause-images : goal.returns-in_default-write_area-clause-images
returns-in_default-write_area-clause-images g c = λ honest.
    jobs_held_since c.self.view_is (λ all image since. jobs_held
    (area_stays _ honest all c.other_sector.ensures (c.write_area.ensures.writes.run honest) image since))

pub returns-clause-run : goal.returns-clause-run
returns-clause-run g c =
    compact_run c.self.view_is c.self.invariant c.other_sector.ensures c.write_area.ensures.writes.counts.honest
    c.write_area.ensures.writes.run c.raise-raised.ensures.run

pub returns-clause-images : goal.returns-clause-images
returns-clause-images g c = λ honest.
    compact_since c.self.view_is honest c.self.invariant c.record_count-records.ensures.in_order c.write_area.ensures.writes.counts.honest
    (record {
      at = c.other_sector.ensures;
      run = c.write_area.ensures.writes.run honest;
      written =
          c.in-Ok.ensures.written honest refl;
      synced = c.in-Ok.ensures.synced honest refl;
    })
    c.raise-raised.ensures.run (λ still. c.raise-raised.ensures.images 4 still c.self.invariant.cell)

pub returns-clause-after : goal.returns-clause-after
returns-clause-after g c = λ honest ok.
    let still = c.write_area.ensures.writes.counts.honest ∙ honest in
    let went : IsOk c.raise-raised.result = grind arith in
    let raised : c.raise-raised.new.self ≡ raised c.self.inside.area = grind arith in
    record {
      synced = c.raise-raised.ensures.synced still went;
      spelled = compact_ends c.self.view_is c.self.invariant
          (record {
            at = c.other_sector.ensures;
            run = c.write_area.ensures.writes.run honest;
            written =
                c.in-Ok.ensures.written honest refl;
            synced = c.in-Ok.ensures.synced honest refl;
          })
          (c.raise-raised.ensures.run still) (c.raise-raised.ensures.synced still went) raised c.record_count-records.ensures.count;
      holds = compact_after c.self.view_is honest c.self.invariant c.record_count-records.ensures.in_order
          (record {
            at = c.other_sector.ensures;
            run = c.write_area.ensures.writes.run honest;
            written =
                c.in-Ok.ensures.written honest refl;
            synced = c.in-Ok.ensures.synced honest refl;
          })
          (c.raise-raised.ensures.run still) raised c.record_count-records.ensures.count
          (λ stand. (c.raise-raised.ensures.after 4 still c.self.invariant.cell stand went).1);
    }

pub returns-in-Some-clause-numbered : goal.returns-in-Some-clause-numbered
returns-in-Some-clause-numbered g c = λ honest all.
    still_numbered c.args.self.now _ honest (g.met.D.SectorDisk.laws c.args.disk.now honest) all

pub returns-in_default-write_area-clause-numbered : goal.returns-in_default-write_area-clause-numbered
returns-in_default-write_area-clause-numbered g c = λ honest.
    area_numbered c.self.view_is c.other_sector.ensures (c.write_area.ensures.writes.run honest)

pub returns-clause-numbered : goal.returns-clause-numbered
returns-clause-numbered g c = λ honest.
    raise_numbered c.self.view_is honest c.write_area.ensures.writes.counts.honest
    (record {
      at = c.other_sector.ensures;
      run = c.write_area.ensures.writes.run honest;
      written =
          c.in-Ok.ensures.written honest refl;
      synced = c.in-Ok.ensures.synced honest refl;
    })
    c.raise-raised.ensures.run (λ still. c.raise-raised.ensures.images 4 still c.self.invariant.cell)
