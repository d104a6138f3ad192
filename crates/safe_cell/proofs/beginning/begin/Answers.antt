use Rattle.std.proofs.Common.{arith, IsOk}
use Rattle.safe_cell.proofs.Beginnings.{begin_images, begun}
use Rattle.safe_cell.proofs.beginning.begin.Goals as goal

pub returns-clause-images : goal.returns-clause-images
returns-clause-images g c = λ honest first second.
    let state = g.D.SectorDisk.state in
    begin_images c.args.at c.args.value (state c.args.disk.now)
    (state c.store.new.disk) c.body_for.result c.body_for.ensures (omega (arith, c.ranges))
    (c.store.ensures.images honest) first second

pub returns-clause-value : goal.returns-clause-value
returns-clause-value g c = λ honest second ok.
    let state = g.D.SectorDisk.state in
    let done : IsOk c.store.result = grind arith in
    begun c.args.at c.args.value (state c.args.disk.now) (state c.store.new.disk) c.body_for.result c.body_for.ensures (omega (
      arith,
      c.ranges,
    )) second
    (c.store.ensures.writes.run honest) (c.store.ensures.synced honest done) (c.store.ensures.sealed honest done)
