use Rattle.std.proofs.Common.{◌+◌, inl, inr, ⊎_elim, Some, ◌∙◌, ap, refl}
use Rattle.safe_cell.specs.Mounted.{CellState}
use Rattle.safe_cell.proofs.cell.SafeCell.raise.Goals as goal

pub returns-in_err-raise_to-clause-images : goal.returns-in_err-raise_to-clause-images
returns-in_err-raise_to-clause-images g c = λ at honest way all i since.
    ⊎_elim inl (λ next. inr (next ∙ ap (λ (s : CellState). Some (s.value + 1)) c.self.view_is))
    (c.raise_to.ensures.images at honest way all i since)

pub returns-clause-images : goal.returns-clause-images
returns-clause-images g c = λ at honest way all i since.
    ⊎_elim inl (λ next. inr (next ∙ ap (λ (s : CellState). Some (s.value + 1)) c.self.view_is))
    (c.raise_to.ensures.images at honest way all i since)

pub returns-clause-after : goal.returns-clause-after
returns-clause-after g c = λ at honest way all ok.
    let done = c.in_ok-raise_to.ensures.after at honest way all refl in
    (λ i image. done.0 i image ∙ ap (λ (s : CellState). Some (s.value + 1)) c.self.view_is, done.1)
