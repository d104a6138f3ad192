use Rattle.std.proofs.Common.{rules, tests, ◌==◌, ◌&&◌, ◌∙◌}
use Rattle.std.proofs.lemmas.Iterator.Consumers.{YieldsList-from_first}
use Rattle.std.proofs.lemmas.Iterator.Search.{any_from_yields_List}
use Rattle.node_core.specs.declared.in_hand.InHand.{InHand}
use Rattle.node_core.proofs.hand.Hand.contains.Goals as goal

pub returns : goal.returns
returns c =
    any_from_yields_List (λ (job : InHand). job.origin == c.args.origin && job.id == c.args.id) _ _ _ c.any.ensures.ran
    (YieldsList-from_first (λ x. x) (λ s. s) _ (c.iter.ensures ∙ c.jobs.ensures)) (λ x b q k. search (rules, tests))
