use Rattle.std.proofs.Common.{rules, ◌+◌, ◌-◌, ◌<◌, ◌++◌, length, take, drop, ◌∙◌, ap, arith}
use Rattle.std.specs.List.{copy_within}
use Rattle.std.proofs.lemmas.List.{with_items_is, places}
use Rattle.job_model.proofs.Gapped.{length_beside, taken_behind, taken_after}
use Rattle.job_model.proofs.gap.take_out.Goals as goal

pub returns-then-gap-between-clause-items : goal.returns-then-gap-between-clause-items
returns-then-gap-between-clause-items g c =
    let gap = c.args.gap.now in
    let items = c.args.items.now.items in
    let between = c.args.place - gap.before in
    let order = c.requires.within.order in
    let count = length_beside gap items c.requires.within in
    let there : gap.behind + between < length items = omega (arith, c.requires.there, count, c.if-place-gap.false, order) in
    ap (λ l. take gap.before l ++ drop gap.behind l) c.remove.ensures.by_index.2
    ∙ taken_behind items gap.before gap.behind c.args.place between order there (omega (arith, c.if-place-gap.false))

pub returns-else-gap-between-clause-items : goal.returns-else-gap-between-clause-items
returns-else-gap-between-clause-items g c =
    let gap = c.args.gap.now in
    let items = c.args.items.now.items in
    let between = c.args.place - gap.before in
    let at = gap.behind + between in
    let order = c.requires.within.order in
    let count = length_beside gap items c.requires.within in
    let there : gap.behind + between < length items = omega (arith, c.requires.there, count, c.if-place-gap.false, order) in
    ap (λ new. take c.args.place new ++ drop (at + 1) new)
    (with_items_is c.args.items.now c.copy_within.new.self (search (rules, places)) ∙ c.copy_within.ensures.after
    ∙ ap (λ all. copy_within all gap.behind at gap.before) c.as_mut_slice.ensures.value)
    ∙ taken_after items gap.before gap.behind c.args.place between order there (omega (arith, c.if-place-gap.false))
