-- Rows whose ids rise: a job's place is that of its row.
use Rattle.std.proofs.Common.{◌≡◌, ℕ, ◌+◌, ◌-◌, ◌<◌, ◌≤◌, true, false, eqb, ltb, List, [], ◌∷◌, ◌++◌, length, take, drop, map, ◌∙◌, sym}
use Rattle.std.proofs.Common.{subst, ap, refl, arith}
use Rattle.std.specs.Prelude.{Some, None, slice_get, option_map, IsTrue, nat_lt, ◌↔◌}
use Rattle.std.specs.List.Sorted.{IsNonDecreasingBy, IsPartitionPoint}
use Rattle.std.proofs.Math.ListN.{get_or}
use Rattle.std.proofs.lemmas.List.{get_or-map, length-map, map-append}
use Rattle.std.proofs.lemmas.List.Folds.{list_any_at}
use Rattle.std.proofs.lemmas.Option.{slice_get-map}
use Rattle.std.proofs.lemmas.Simd.{map-map}
use Rattle.job_model.specs.declared.job.Job.{Job}
use Rattle.job_model.specs.declared.job_list.PackedJob.{PackedJob}
use Rattle.job_model.specs.JobLists.{kept_in, job_of, jobs_of, jobs_in}
use Rattle.job_model.specs.declared.kept_job.KeptJob.{KeptJob}
use Rattle.job_model.specs.Fold.{without_job}
use Rattle.job_model.specs.Order.{IsInOrder}
use Rattle.job_model.specs.Table.{IsPlaceOf}
use Rattle.job_model.proofs.OrderLaws.{above_is_past_last}
use Rattle.job_model.proofs.Packing.{removed}
use Rattle.job_model.proofs.Places.{IsOther, same_id, rises, without_at, without_other, pending_other, other_at}

abbrev job_in : List ℕ → PackedJob → Job
job_in p row = job_of (kept_in p row)

some_row : PackedJob
some_row = record { id = 0; start = 0; len = 0; queue = 0; priority = 0; origin = 0 }

jobs_map : (p : List ℕ) (rows : List PackedJob) → jobs_in p rows ≡ map (job_in p) rows
jobs_map p rows = map-map job_of (kept_in p) rows

pub jobs_long : (p : List ℕ) (rows : List PackedJob) → length (jobs_in p rows) ≡ length rows
jobs_long p rows = ap (λ (jobs : List Job). length jobs) (jobs_map p rows) ∙ length-map rows (job_in p)

job_at : (p : List ℕ) (rows : List PackedJob) (k : ℕ) (d : PackedJob) (e : Job) → k < length rows
    → get_or (jobs_in p rows) k e ≡ job_in p (get_or rows k d)
job_at p rows k d e less = ap (λ jobs. get_or jobs k e) (jobs_map p rows) ∙ get_or-map (job_in p) rows k d e less

id_at : (p : List ℕ) (rows : List PackedJob) (k : ℕ) (d : PackedJob) (e : Job) → k < length rows
    → (get_or (jobs_in p rows) k e).id ≡ (get_or rows k d).id
id_at p rows k d e less = ap (λ (job : Job). job.id) (job_at p rows k d e less)

pub rows_rise : (p : List ℕ) (rows : List PackedJob) (limit : ℕ) → IsInOrder (jobs_in p rows) limit
    → IsNonDecreasingBy (λ (row : PackedJob). row.id) rows
rows_rise p rows limit r = λ i j d le less.
    let up = rises 0 limit (jobs_in p rows) i j (job_in p d) r le (omega (arith, less, jobs_long p rows)) in
    omega (arith, up, id_at p rows i d (job_in p d) (omega (arith, le, less)), id_at p rows j d (job_in p d) less)

-- where the search of an id ends among the rows
abbrev pub IsEnd : List PackedJob → ℕ → ℕ → Type 0
IsEnd rows id at = IsPartitionPoint (λ (row : PackedJob). ltb row.id id ≡ true) (λ (row : PackedJob). ltb row.id id ≡ false) rows at

jobs_end : (p : List ℕ) (rows : List PackedJob) (id at : ℕ) → at ≤ length rows → IsEnd rows id at
    → IsPartitionPoint (λ (job : Job). ltb job.id id ≡ true) (λ (job : Job). ltb job.id id ≡ false) (jobs_in p rows) at
jobs_end p rows id at within point = (
  λ k e low less. subst (λ n. ltb n id ≡ true) (sym (id_at p rows k some_row e (omega (arith, less, within))))
      (point.0 k some_row low less),
  λ k e low less.
      let there : k < length rows = omega (arith, less, jobs_long p rows) in
      subst (λ n. ltb n id ≡ false) (sym (id_at p rows k some_row e there)) (point.1 k some_row low there),
)

pub found : (p : List ℕ) (rows : List PackedJob) (id at next : ℕ) (d : PackedJob) → IsInOrder (jobs_in p rows) next → at < length rows
    → (get_or rows at d).id ≡ id
    → IsPlaceOf (jobs_in p rows) id (Some at)
found p rows id at next d r there is =
    let jobs = jobs_in p rows in
    let on : at < length jobs = omega (arith, there, jobs_long p rows) in
    let same : (get_or jobs at (job_in p d)).id ≡ id = id_at p rows at d (job_in p d) there ∙ is in
    record {
      at_place = (on, without_at 0 next jobs id at (job_in p d) r on same);
      none = tt;
      pending = sym (list_any_at (λ (job : Job). eqb job.id id) jobs at (job_in p d) on (same_id (get_or jobs at (job_in p d)).id id same));
    }

pub missing : (p : List ℕ) (rows : List PackedJob) (id at next : ℕ) → IsInOrder (jobs_in p rows) next → at ≤ length rows → IsEnd rows id at
    → (at < length rows → (d : PackedJob) × ((get_or rows at d).id ≡ id → ⊥)) → IsPlaceOf (jobs_in p rows) id None
missing p rows id at next r within point differs =
    let jobs = jobs_in p rows in
    let other : IsOther jobs id = other_at next jobs id at r (jobs_end p rows id at within point)
    (λ on.
    let there : at < length rows = omega (arith, on, jobs_long p rows) in
    let x = differs there in
    (job_in p x.0, λ is. x.1 (sym (id_at p rows at x.0 (job_in p x.0) there) ∙ is))) in
    record {
      at_place = tt;
      none = without_other jobs id other;
      pending = sym (pending_other jobs id other);
    }

pub above_rows : (p : List ℕ) (rows : List PackedJob) (id next : ℕ) (last : PackedJob) → IsInOrder (jobs_in p rows) next
    → Some last ≡ slice_get rows (length rows - 1)
    → IsTrue (nat_lt last.id id) ↔ IsInOrder (jobs_in p rows) id
above_rows p rows id next last r e =
    above_is_past_last next id (jobs_in p rows) (job_in p last) r
    (ap (λ o. option_map (job_in p) o) e
    ∙ sym (slice_get-map (job_in p) rows (length rows - 1))
    ∙ ap (λ jobs. slice_get jobs (length rows - 1)) (sym (jobs_map p rows))
    ∙ ap (λ n. slice_get (jobs_in p rows) (n - 1)) (sym (jobs_long p rows)))

pub jobs_more : (kept : List KeptJob) (more : KeptJob) → jobs_of (kept ++ more ∷ []) ≡ jobs_of kept ++ more.job ∷ []
jobs_more kept more = map-append job_of kept (more ∷ [])

pub jobs_left : (kept : List KeptJob) (id place : ℕ) → IsPlaceOf (jobs_of kept) id (Some place)
    → jobs_of (take place kept ++ drop (place + 1) kept) ≡ without_job (jobs_of kept) id
jobs_left kept id place there = removed job_of kept (take place kept ++ drop (place + 1) kept) place refl ∙ sym there.at_place.1
