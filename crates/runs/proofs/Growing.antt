-- Runs grow at their end.
use Rattle.std.proofs.Common.{List, [], ◌∷◌, ◌++◌, refl, sym, ◌∙◌, ap, append_assoc}
use Rattle.std.proofs.lemmas.List.{append-nil}
use Rattle.group_task.specs.Group.{Group}
use Rattle.runs.specs.Step.{world_after}
use Rattle.runs.specs.Run.{world_at}
use Rattle.runs.specs.Given.{groups_at, groups_from, RunGoesOn}

pub run_goes_on : RunGoesOn
run_goes_on nodes w [] step run may = ((may, tt), refl, append-nil (groups_at nodes w step))
run_goes_on nodes w (x ∷ steps) step run may =
    let rest = run_goes_on nodes (world_after nodes w x) steps step run.1 may in (
      (run.0, rest.0),
      rest.1,
      ap (λ (gs : List Group). groups_at nodes w x ++ gs) rest.2
          ∙ sym (append_assoc (groups_at nodes w x) (groups_from nodes (world_after nodes w x) steps)
          (groups_at nodes (world_at nodes (world_after nodes w x) steps) step)),
    )
