use Rattle.std.proofs.Common.{◌≡◌, ℕ, true, false, List, [], ◌∷◌, eqb, inl, inr, sym, ap, refl, ◌∙◌}
use Rattle.std.proofs.lemmas.Bool.{cases_Bool}
use Rattle.job_model.specs.declared.job.Job.{Job}
use Rattle.job_model.specs.Fold.{without_job, is_pending}
use Rattle.job_model.specs.Table.{durable_of}
use Rattle.trace_check.proofs.durable_state.done.Goals as goal

-- where no job has this id, none goes
without_none : (jobs : List Job) (id : ℕ) → is_pending jobs id ≡ false → without_job jobs id ≡ jobs
without_none [] id none = refl
without_none (job ∷ jobs) id none = elim (cases_Bool (eqb job.id id)) [
  | inl this ↦ absurd (let clash : true ≡ false = rw this at none in cc)
  | inr other ↦ rw other (ap (λ (js : List Job). job ∷ js) (without_none jobs id (rw other at none)))
]

pub returns-else-contains : goal.returns-else-contains
returns-else-contains c = λ counter.
    ap (λ (jobs : List Job). durable_of counter (record c.args.table.now { pending = jobs }))
    (sym (without_none c.args.table.now.pending c.args.id (sym c.contains.ensures ∙ c.if-contains.false)))
