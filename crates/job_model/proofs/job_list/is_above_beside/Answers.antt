use Rattle.job_model.specs.JobLists.{jobs_in}
use Rattle.job_model.specs.Order.{IsInOrder}
use Rattle.job_model.proofs.Halves.{first_rise, others_rise, all_rise}
use Rattle.job_model.proofs.job_list.is_above_beside.Goals as goal

pub returns-then-is_above : goal.returns-then-is_above
returns-then-is_above c payloads next r =
    let rows = c.args.before.now in
    let others = c.args.behind.now in
    let first : IsInOrder (jobs_in payloads rows) c.args.id =
    (c.is_above.ensures payloads next (first_rise payloads rows others next r)).0 c.if-is_above.true in
    let second = c.is_above-then-is_above.ensures payloads next (others_rise payloads rows others next r) in
    (λ t. all_rise payloads rows others c.args.id next r first (second.0 t), λ s. second.1 (others_rise payloads rows others c.args.id s))

pub returns-else-is_above : goal.returns-else-is_above
returns-else-is_above c payloads next r =
    let rows = c.args.before.now in
    let others = c.args.behind.now in
    let first = c.is_above.ensures payloads next (first_rise payloads rows others next r) in (
      λ t. absurd cc,
      λ s. let is = first.1 (first_rise payloads rows others c.args.id s) in let not_above = c.if-is_above.false in
          absurd cc,
    )
