use Rattle.std.proofs.Common.{◌∙◌, ◌∷◌, [], ap, sym}
use Rattle.sector_disk.specs.Undo.{undone}
use Rattle.sector_disk.proofs.Undoing.{undone-append}
use Rattle.sector_disk.proofs.overwritten.undo.Goals as goal

pub loop-note-preserved : goal.loop-note-preserved
loop-note-preserved c =
    let rest = c.pop.new.self.since in
    let note = c.in-Some.note in
    ap (undone rest) c.undo_one.ensures
    ∙ sym (undone-append rest (note ∷ []) c.loop-note.sectors)
    ∙ ap (λ l. undone l c.loop-note.sectors) (sym c.in-Some.ensures.some.0)
    ∙ c.loop-note.invariant
