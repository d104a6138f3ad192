-- New jobs, compared by what they ask for.
use Rattle.std.specs.Prelude.{Bool, nat_eq}
use Rattle.std.specs.Cmp.Lexicographic.{pointwise}
use Rattle.std.specs.Ordering.{on, eq_of_both}
use Rattle.job_model.specs.declared.work.Work.{Work}

-- whether two are one: their queues, their priorities, and their payloads byte for byte
abbrev pub same_work : Work → Work → Bool
same_work = eq_of_both (on (λ (w : Work). w.queue) nat_eq)
    (eq_of_both (on (λ (w : Work). w.priority) nat_eq) (on (λ (w : Work). w.payload) (pointwise nat_eq)))
