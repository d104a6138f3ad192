use Rattle.std.proofs.Common.{rules, ◌≡◌, ◌++◌, subst, sym}
use Rattle.std.specs.Prelude.{Some, None}
use Rattle.job_model.specs.JobLists.{jobs_in}
use Rattle.job_model.specs.Order.{IsInOrder}
use Rattle.job_model.specs.Table.{IsPlaceOf}
use Rattle.job_model.proofs.Halves.{first_rise, others_rise, behind_it, before_it}
use Rattle.job_model.proofs.job_list.place_beside.Goals as goal

pub returns-in_err-place_of : goal.returns-in_err-place_of
returns-in_err-place_of c payloads next r =
    let rows = c.args.before.now in
    let others = c.args.behind.now in
    let above : IsInOrder (jobs_in payloads rows) c.args.id =
    (c.is_above.ensures payloads next (first_rise payloads rows others next r)).0 c.if-is_above.true in
    let none : c.from_residual.result ≡ None = search rules in
    subst (λ place. IsPlaceOf (jobs_in payloads (rows ++ others)) c.args.id place) (sym none)
    (behind_it payloads rows others c.args.id next None r above
    (c.in_err-place_of.ensures.place payloads next (others_rise payloads rows others next r)))

pub returns-in_ok-place_of : goal.returns-in_ok-place_of
returns-in_ok-place_of c payloads next r =
    let rows = c.args.before.now in
    let others = c.args.behind.now in
    let above : IsInOrder (jobs_in payloads rows) c.args.id =
    (c.is_above.ensures payloads next (first_rise payloads rows others next r)).0 c.if-is_above.true in
    behind_it payloads rows others c.args.id next (Some c.in_ok-place_of.field-0) r above
    (c.in_ok-place_of.ensures.place payloads next (others_rise payloads rows others next r))

pub returns-else-is_above : goal.returns-else-is_above
returns-else-is_above c payloads next r =
    let rows = c.args.before.now in
    let others = c.args.behind.now in
    let first = c.is_above.ensures payloads next (first_rise payloads rows others next r) in
    before_it payloads rows others c.args.id next _ r (λ s. let is = first.1 s in let not_above = c.if-is_above.false in absurd cc)
    (c.place_of-else-is_above.ensures.place payloads next (first_rise payloads rows others next r))
