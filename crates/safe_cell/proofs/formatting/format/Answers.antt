use Rattle.std.proofs.Common.{◌∙◌, inl, ap, not, arith, IsTrue, IsOk}
use Rattle.sector_disk.proofs.PublicLaws.{run_widen}
use Rattle.safe_cell.specs.Cell.{AllHave}
use Rattle.safe_cell.specs.Mounted.{AllStand}
use Rattle.safe_cell.specs.Formatted.{formatted}
use Rattle.safe_cell.proofs.ReadOnly.{run_on}
use Rattle.safe_cell.proofs.Formats.{erase_images, format_images, all_formatted}
use Rattle.safe_cell.proofs.formatting.format.Given.{Over}
use Rattle.safe_cell.proofs.formatting.format.Goals as goal

pub returns-then-is_err-clause-writes : goal.returns-then-is_err-clause-writes
returns-then-is_err-clause-writes g c = record {
  answers = grind arith;
  counts = grind arith;
  run =
      λ honest. run_widen _ _ _ _ (λ k is. grind arith) (c.erase.ensures.writes.run honest);
}

pub returns-clause-writes : goal.returns-clause-writes
returns-clause-writes g c = record {
  answers = grind arith;
  counts = grind arith;
  run = run_on _ _ _ _ _ _ c.erase.ensures.writes.counts.honest (λ k is. grind arith)
      (λ k is. inl is) c.erase.ensures.writes.run c.store.ensures.writes.run;
}

pub returns-then-is_err-clause-images : goal.returns-then-is_err-clause-images
returns-then-is_err-clause-images g c = λ honest. erase_images c.args.at c.args.value (g.D.SectorDisk.state c.args.disk.now) _
    (c.erase.ensures.writes.run honest)

pub returns-clause-images : goal.returns-clause-images
returns-clause-images g c = λ honest.
    let state = g.D.SectorDisk.state in
    let erased = c.is_err.ensures.negation ∙ ap not c.if-is_err.false in
    let still = c.erase.ensures.writes.counts.honest ∙ honest in
    format_images c.args.at c.args.value (state c.args.disk.now) (state c.erase.new.disk)
    (state c.store.new.disk) c.body_for.result c.body_for.ensures (c.erase.ensures.synced honest erased)
    (c.erase.ensures.first honest erased) (c.erase.ensures.second honest erased) (c.erase.ensures.writes.run honest)
    (c.store.ensures.writes.run still) (c.store.ensures.images still)

formatted_all : (g : Over) (c : goal.After-or g) → IsTrue (g.D.SectorDisk.state c.args.disk.now).honest → IsOk c.or.result
    → AllHave c.args.at c.args.value (g.D.SectorDisk.state c.store.new.disk)
    × AllStand (formatted c.args.at c.args.value) (g.D.SectorDisk.state c.store.new.disk)
formatted_all g c honest ok =
    let state = g.D.SectorDisk.state in
    let erased = c.is_err.ensures.negation ∙ ap not c.if-is_err.false in
    let still = c.erase.ensures.writes.counts.honest ∙ honest in
    let done : IsOk c.store.result = grind arith in
    all_formatted c.args.at c.args.value (state c.erase.new.disk)
    (state c.store.new.disk) c.body_for.result c.body_for.ensures (omega (arith, c.ranges))
    (c.erase.ensures.second honest erased) (c.store.ensures.writes.run still) (c.store.ensures.synced still done)
    (c.store.ensures.sealed still done)

pub returns-clause-value : goal.returns-clause-value
returns-clause-value g c = λ honest ok. (formatted_all g c honest ok).0

pub returns-clause-formatted : goal.returns-clause-formatted
returns-clause-formatted g c = λ honest ok. (formatted_all g c honest ok).1
