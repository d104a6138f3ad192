use Rattle.std.proofs.Common.{◌+◌, ◌∙◌, inl, arith, refl}
use Rattle.lease_file.specs.Kept.{kept_of}
use Rattle.lease_file.proofs.Clauses.{begin_three, count_is, kept_three, run_both, still_has}
use Rattle.lease_file.proofs.file.LeaseFile.begin.Goals as goal

pub returns-then-taken-ge-LAST-clause-images : goal.returns-then-taken-ge-LAST-clause-images
returns-then-taken-ge-LAST-clause-images g c = λ honest whole i since.
    inl (still_has g.D.SectorDisk.state g.met.D.SectorDisk.laws c.self.view_is c.self.invariant honest whole i since)

pub returns-in_err-keep-clause-images : goal.returns-in_err-keep-clause-images
returns-in_err-keep-clause-images g c = λ honest whole.
    let state = g.D.SectorDisk.state in kept_three (kept_of c.args.self.now) c.args.keeps (state c.args.self.now.disk)
    (state c.keep.new.self.disk) (c.keep.ensures.images honest)

pub returns-in_err-take-clause-writes : goal.returns-in_err-take-clause-writes
returns-in_err-take-clause-writes g c = record {
  counts = grind arith;
  run =
      run_both c.keep.ensures.writes.counts.honest c.keep.ensures.writes.run c.take.ensures.writes.run;
  device = grind arith;
}

pub returns-clause-writes : goal.returns-clause-writes
returns-clause-writes g c = record {
  counts = grind arith;
  run =
      run_both c.keep.ensures.writes.counts.honest c.keep.ensures.writes.run c.take.ensures.writes.run;
  device = grind arith;
}

pub returns-in_err-take-clause-images : goal.returns-in_err-take-clause-images
returns-in_err-take-clause-images g c = λ honest whole.
    let state = g.D.SectorDisk.state in
    let still = c.keep.ensures.writes.counts.honest ∙ honest in
    begin_three (kept_of c.args.self.now) (kept_of c.keep.new.self) c.args.keeps (c.value-taken.result + 1) (state c.args.self.now.disk)
    (state c.keep.new.self.disk) (state c.take.new.self.disk)
    (c.in_ok-keep.ensures.ok refl).0 (omega (arith, count_is c.self.view_is)) (c.keep.ensures.writes.run honest)
    (c.take.ensures.writes.run still) (c.keep.ensures.images honest) (c.take.ensures.images still)

pub returns-clause-images : goal.returns-clause-images
returns-clause-images g c = λ honest whole.
    let state = g.D.SectorDisk.state in
    let still = c.keep.ensures.writes.counts.honest ∙ honest in
    begin_three (kept_of c.args.self.now) (kept_of c.keep.new.self) c.args.keeps (c.value-taken.result + 1) (state c.args.self.now.disk)
    (state c.keep.new.self.disk) (state c.take.new.self.disk)
    (c.in_ok-keep.ensures.ok refl).0 (omega (arith, count_is c.self.view_is)) (c.keep.ensures.writes.run honest)
    (c.take.ensures.writes.run still) (c.keep.ensures.images honest) (c.take.ensures.images still)
