-- Lines for queues, one after another, and jobs that are counted.
use Rattle.std.proofs.Common.{◌≡◌, ◌+◌, ◌-◌, ◌<◌, ◌++◌, ◌==◌, ◌∙◌, ℕ, List, Some, suc, get_or, take, slice_get, ap, sym, arith}
use Rattle.std.proofs.Common.{append_assoc}
use Rattle.std.proofs.lemmas.Bool.{eq-eqb, eqb-true, false_from_ne_true}
use Rattle.std.proofs.lemmas.List.Sums.{count_by_more_no, count_by_more_yes}
use Rattle.std.proofs.lemmas.Option.{slice_get_within, get_or_from_slice_get}
use Rattle.std.specs.List.{range_with_len}
use Rattle.job_model.specs.declared.job.Job.{Job}
use Rattle.job_model.specs.declared.queue.TheConstants.{QUEUES}
use Rattle.store_console.specs.Printed.{jobs_in_queue, queue_text, queues_text}

-- the line of the first queue that is left
first_queue : (jobs : List Job) (queue : ℕ) → queue < QUEUES
    → queues_text jobs (range_with_len queue (QUEUES - queue)) ≡ queue_text queue (jobs_in_queue jobs queue)
    ++ queues_text jobs (range_with_len (queue + 1) (QUEUES - (queue + 1)))
first_queue jobs queue less =
    let left : QUEUES - queue ≡ suc (QUEUES - (queue + 1)) = omega (arith, less) in
    ap (λ n. queues_text jobs (range_with_len queue n)) left

pub queue_pushed : (jobs : List Job) (queue count : ℕ) (first old new : List ℕ) → queue < QUEUES → count ≡ jobs_in_queue jobs queue
    → new ≡ old ++ queue_text queue count
    → old ++ queues_text jobs (range_with_len queue (QUEUES - queue)) ≡ first ++ queues_text jobs (range_with_len 0 QUEUES)
    → new ++ queues_text jobs (range_with_len (queue + 1) (QUEUES - (queue + 1))) ≡ first ++ queues_text jobs (range_with_len 0 QUEUES)
queue_pushed jobs queue count first old new less counted added before =
    let rest = queues_text jobs (range_with_len (queue + 1) (QUEUES - (queue + 1))) in
    ap (λ t. t ++ rest) added
    ∙ append_assoc old (queue_text queue count) rest
    ∙ ap (λ n. old ++ (queue_text queue n ++ rest)) counted
    ∙ ap (λ t. old ++ t) (sym (first_queue jobs queue less))
    ∙ before

-- whether the job in a place is one of a queue
in_place : (jobs : List Job) (queue at : ℕ) (job : Job) → slice_get jobs at ≡ Some job
    → (get_or jobs at job).work.queue == queue ≡ job.work.queue == queue
in_place jobs queue at job there = ap (λ (j : Job). j.work.queue == queue) (get_or_from_slice_get jobs at job job there)

-- the job in a place is one more of its queue
pub counted_yes : (jobs : List Job) (queue at : ℕ) (job : Job) → slice_get jobs at ≡ Some job → job.work.queue ≡ queue
    → jobs_in_queue (take (at + 1) jobs) queue ≡ jobs_in_queue (take at jobs) queue + 1
counted_yes jobs queue at job there same =
    count_by_more_yes (λ (j : Job). j.work.queue == queue) jobs at job (slice_get_within jobs at job there)
    (in_place jobs queue at job there ∙ eq-eqb job.work.queue queue same)

-- and none more of another
pub counted_no : (jobs : List Job) (queue at : ℕ) (job : Job) → slice_get jobs at ≡ Some job → (job.work.queue ≡ queue → ⊥)
    → jobs_in_queue (take (at + 1) jobs) queue ≡ jobs_in_queue (take at jobs) queue
counted_no jobs queue at job there other =
    let differs = false_from_ne_true (job.work.queue == queue) (λ is. other (eqb-true job.work.queue queue is)) in
    count_by_more_no (λ (j : Job). j.work.queue == queue) jobs at job (slice_get_within jobs at job there)
    (in_place jobs queue at job there ∙ differs)
