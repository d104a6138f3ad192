use Rattle.std.proofs.Common.{◌∙◌, inl, arith, IsOk}
use Rattle.lease_file.proofs.Formats.{all_made, made_lasts, made_run, still_none, time_made, time_run}
use Rattle.lease_file.proofs.formatting.format.Goals as goal

pub returns-in_err-or-clause-writes : goal.returns-in_err-or-clause-writes
returns-in_err-or-clause-writes g c =
    let state = g.D.SectorDisk.state in record {
      answers = grind arith;
      counts = grind arith;
      run =
          λ honest. time_run (state c.args.disk.now) (state c.begin.new.disk) (c.begin.ensures.writes.run honest);
    }

pub returns-in_err-or-clause-images : goal.returns-in_err-or-clause-images
returns-in_err-or-clause-images g c = λ honest none.
    let state = g.D.SectorDisk.state in time_made c.args.first (state c.args.disk.now)
    (state c.begin.new.disk) none (c.begin.ensures.writes.run honest)

pub returns-clause-writes : goal.returns-clause-writes
returns-clause-writes g c =
    let state = g.D.SectorDisk.state in record {
      answers = grind arith;
      counts = grind arith;
      run = λ honest. made_run (state c.args.disk.now) (state c.begin.new.disk) (state c.begin-2.new.disk)
          (c.begin.ensures.writes.run honest) (c.begin-2.ensures.writes.run (c.begin.ensures.writes.counts.honest ∙ honest));
    }

pub returns-clause-images : goal.returns-clause-images
returns-clause-images g c = λ honest none.
    let state = g.D.SectorDisk.state in
    let still = c.begin.ensures.writes.counts.honest ∙ honest in
    let before = c.begin.ensures.writes.run honest in
    all_made c.args.first (state c.args.disk.now) (state c.begin.new.disk)
    (state c.begin-2.new.disk) none before (c.begin.ensures.value honest none.fourth (grind arith)) (c.begin-2.ensures.writes.run still)
    (c.begin-2.ensures.images still
    (still_none 0 4 (state c.args.disk.now) (state c.begin.new.disk) none.first before (inl (omega arith)))
    (still_none 2 4 (state c.args.disk.now) (state c.begin.new.disk) none.second before (inl (omega arith))))

pub returns-clause-lasts : goal.returns-clause-lasts
returns-clause-lasts g c = λ honest none ok.
    let state = g.D.SectorDisk.state in
    let still = c.begin.ensures.writes.counts.honest ∙ honest in
    let before = c.begin.ensures.writes.run honest in
    let went : IsOk c.begin-2.result = grind arith in
    made_lasts c.args.first (state c.begin.new.disk) (state c.begin-2.new.disk) (c.begin.ensures.value honest none.fourth (grind arith))
    (c.begin-2.ensures.writes.run still)
    (c.begin-2.ensures.value still (still_none 2 4 (state c.args.disk.now) (state c.begin.new.disk) none.second before (inl (omega arith)))
    went) (c.begin-2.ensures.synced still went)
