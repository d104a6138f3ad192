use Rattle.std.proofs.Common.{rules, sym, ◌∙◌}
use Rattle.node_lock.specs.Compared.{plans_decided}
use Rattle.node_threads.proofs.ended.same_plans.Goals as goal

pub returns : goal.returns
returns c =
    let decided = plans_decided (λ a b. search rules) (λ a b. search rules) c.args.some.now c.args.others.now in
    (λ yes. decided.0 (sym c.eq.ensures ∙ yes), λ same. c.eq.ensures ∙ decided.1 same)
