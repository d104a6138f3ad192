use Rattle.std.proofs.Common.{refl, ◌≡◌, ⊎_elim, inr, ◌∙◌, sym, subst, get_or, IsTrue, false, arith, rules}
use Rattle.std.proofs.lemmas.Bool.{cases_lt}
use Rattle.sector_disk.specs.Undo.{has_touched}
use Rattle.sector_disk.proofs.Undoing.{undone-noted, touched_here, touched_before, touched_either}
use Rattle.sector_disk.proofs.overwritten.note_unsynced.Goals as goal

pub loop-at-preserved : goal.loop-at-preserved
loop-at-preserved c =
    let sectors = c.args.sectors.now in
    let at = c.loop-at.at in
    let old = c.loop-at.notes.since in
    let new = c.note.new.notes.since in
    let adds = c.in_ok-note.ensures.ok refl in
    let so_far = c.loop-at.invariant in
    record {
      times = c.note.ensures.times ∙ so_far.times;
      same = undone-noted sectors at old new adds ∙ so_far.same;
      unsynced = λ k touched. ⊎_elim
          (λ before. so_far.unsynced k before)
          (λ here. inr (subst (λ j. IsTrue (get_or c.args.unsynced.now j false)) (sym here) (search rules)))
          (touched_either sectors at old new k adds touched);
      kept = λ k was. touched_before sectors at old new k adds (so_far.kept k was);
      all = λ k below flagged. ⊎_elim
          (λ before. touched_before sectors at old new k adds (so_far.all k before flagged))
          (λ here. let is : k ≡ at = omega (arith, here, below) in
          subst (λ j. IsTrue (has_touched new j)) (sym is) (touched_here sectors at old new adds))
          (cases_lt k at);
    }
