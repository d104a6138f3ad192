use Rattle.job_model.proofs.Rows.{above_rows}
use Rattle.job_model.proofs.job_list.is_above.Goals as goal

pub returns-in-Some : goal.returns-in-Some
returns-in-Some c payloads next r = above_rows payloads c.args.rows.now c.args.id next c.in-Some.last.now r c.in-Some.ensures.value
