use Rattle.std.proofs.Common.{◌∙◌, ap, arith, not}
use Rattle.safe_cell.specs.Mounted.{CellState}
use Rattle.safe_cell.proofs.Raised.{raise_images, raise_after}
use Rattle.safe_cell.proofs.cell.SafeCell.raise_to.Goals as goal

pub returns-then-is_err-clause-images : goal.returns-then-is_err-clause-images
returns-then-is_err-clause-images g c = λ at honest.
    let state = g.D.SectorDisk.state in
    rw (← c.self.view_is) (λ way all.
    raise_images at c.args.value _ (state c.args.disk.now) (state c.store.new.disk) _ c.body_for.ensures (omega (
      arith,
      c.requires.greater,
      ap (λ (s : CellState). s.value) c.self.view_is,
    )) (omega (arith, c.ranges)) way all (c.store.ensures.images honest))

pub returns-clause-images : goal.returns-clause-images
returns-clause-images g c = λ at honest.
    let state = g.D.SectorDisk.state in
    rw (← c.self.view_is) (λ way all.
    raise_images at c.args.value _ (state c.args.disk.now) (state c.store.new.disk) _ c.body_for.ensures (omega (
      arith,
      c.requires.greater,
      ap (λ (s : CellState). s.value) c.self.view_is,
    )) (omega (arith, c.ranges)) way all (c.store.ensures.images honest))

pub returns-clause-after : goal.returns-clause-after
returns-clause-after g c = λ at honest. rw (← c.self.view_is) (λ way all ok.
    let done = c.is_err.ensures.negation ∙ ap not c.if-is_err.false in
    raise_after at c.args.value _ (g.D.SectorDisk.state c.args.disk.now) _ c.body_for.result c.body_for.ensures (omega (
      arith,
      c.requires.greater,
      ap (λ (s : CellState). s.value) c.self.view_is,
    )) (omega (
      arith,
      c.ranges,
    )) way all (c.store.ensures.writes.run honest) (c.store.ensures.synced honest done) (c.store.ensures.sealed honest done))
