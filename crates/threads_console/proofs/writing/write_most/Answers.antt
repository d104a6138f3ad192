use Rattle.std.proofs.Common.{ℕ, List, ◌++◌, false, ap, ◌∙◌}
use Rattle.threads_console.specs.Texts.{histories_text}
use Rattle.threads_console.proofs.writing.write_most.Goals as goal

pub returns : goal.returns
returns c = c.in_ok-write_histories.ensures ∙ ap (λ (t : List ℕ). t ++ histories_text false c.args.run.histories.items)
    (c.reserve.ensures.items ∙ c.in_ok-text.ensures)
