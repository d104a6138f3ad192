use Rattle.std.proofs.Common.{rules, ◌+◌, ◌-◌, ◌++◌, take, drop, ◌∙◌, ap, refl}
use Rattle.std.specs.List.{copy_within}
use Rattle.std.proofs.lemmas.List.{with_items_is, places}
use Rattle.job_model.proofs.Gapped.{taken_before}
use Rattle.job_model.proofs.gap.take_out_before.Goals as goal

pub returns-clause-items : goal.returns-clause-items
returns-clause-items g c =
    let gap = c.args.gap.now in
    let from = c.args.place + 1 in
    let to = gap.behind - (gap.before - from) in
    ap (λ new. take c.args.place new ++ drop to new)
    (with_items_is c.args.items.now c.copy_within.new.self (search (rules, places)) ∙ c.copy_within.ensures.after
    ∙ ap (λ all. copy_within all from gap.before to) c.as_mut_slice.ensures.value)
    ∙ taken_before c.args.items.now.items gap.before gap.behind c.args.place to c.requires.there c.requires.within.order
    c.requires.within.behind
    refl
