use Rattle.std.proofs.Common.{◌++◌, ℕ, List, codes, ap, ◌∙◌, append_assoc}
use Rattle.std.proofs.lemmas.Result.{on_ok_weaker}
use Rattle.trace_console.specs.Reported.{first_text, place_text}
use Rattle.trace_console.proofs.reporting.push_first.Goals as goal

pub returns : goal.returns
unfolding first_text
returns c =
    let place = place_text (codes ", entry ") c.args.node c.args.index in
    on_ok_weaker c.push_place.result
    (λ more. more ∙ ap (λ (text : List ℕ). text ++ place) c.in_ok-push_text.ensures
    ∙ append_assoc c.args.text.now.items (codes "no order takes all entries: look first at node ") place)
    c.push_place.ensures
