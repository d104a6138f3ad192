use Rattle.std.proofs.Common.{[], ◌∷◌, ◌++◌, false, ap, ◌∙◌, append_assoc}
use Rattle.std.proofs.lemmas.Result.{on_ok_weaker}
use Rattle.serde_json.specs.Written.{comma_if}
use Rattle.threads_console.specs.Texts.{entries_text}
use Rattle.threads_console.proofs.writing.write_history.Goals as goal

pub returns : goal.returns
returns c =
    let t = c.args.text.now.items in
    let comma = comma_if c.args.later in
    let texts = entries_text false c.args.history.now.turns in
    on_ok_weaker c.end_items.result
    (λ last. last ∙ c.in_ok-write_turns.ensures ∙ ap (λ s. s ++ texts) c.in_ok-begin_items.ensures ∙ append_assoc t (comma ++ 91 ∷ []) texts
    ∙ ap (λ s. t ++ s) (append_assoc comma (91 ∷ []) texts))
    c.end_items.ensures
