use Rattle.std.proofs.Common.{◌∙◌, ap, refl}
use Rattle.sector_disk.specs.Noted.{Noted}
use Rattle.sector_disk.specs.Undo.{last_of, whole}
use Rattle.sector_disk.specs.declared.overwritten.Overwritten.{Overwritten}
use Rattle.sector_disk.proofs.overwritten.note.Goals as goal

pub returns-clause-ok : goal.returns-clause-ok
returns-clause-ok c = λ ok.
    let note : Overwritten = record { at = c.args.at; short = c.parts.result.0.now; long = c.in_ok-long.long } in
    record {
      note = note;
      added = ap (λ (n : Noted). n.since) (c.add.ensures.ok ok);
      here = refl;
      was = ap (λ bytes. whole (last_of c.parts.result.0.now bytes)) (c.in_ok-long.ensures.items_if_clones_equal (λ x y same. same))
          ∙ c.parts.ensures;
    }
