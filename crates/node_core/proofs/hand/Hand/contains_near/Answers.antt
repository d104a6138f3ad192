use Rattle.std.proofs.Common.{rules, ◌≡◌, ◌==◌, ◌&&◌, ◌∙◌, true, Some, slice_get, sym, ap}
use Rattle.std.proofs.lemmas.List.Folds.{list_any_at}
use Rattle.std.proofs.lemmas.Option.{slice_get_within, get_or_from_slice_get}
use Rattle.node_core.specs.declared.in_hand.InHand.{InHand}
use Rattle.node_core.proofs.hand.Hand.contains_near.Goals as goal

pub returns-in-Some : goal.returns-in-Some
returns-in-Some c =
    let jobs = c.args.self.now.jobs in
    let job = c.in-Some.job in
    let found : slice_get jobs c.args.place ≡ Some job = search rules in
    let is : (job.origin == c.args.origin && job.id == c.args.id) ≡ true = search rules in
    sym (list_any_at (λ (j : InHand). j.origin == c.args.origin
    && j.id == c.args.id) jobs c.args.place job (slice_get_within jobs c.args.place job found)
    (ap (λ (j : InHand). j.origin == c.args.origin && j.id == c.args.id) (get_or_from_slice_get jobs c.args.place job job found) ∙ is))
