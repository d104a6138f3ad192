-- Jobs whose ids rise, in two parts: an id is looked for in the one that can have it.
use Rattle.std.proofs.Common.{◌≡◌, ⊎_elim, refl, Bool, true, ℕ, zero, suc, ◌+◌, ◌<◌, false, List, [], ◌∷◌, ◌++◌, length, take, drop}
use Rattle.std.proofs.Common.{map, ◌∙◌, sym, ap, arith, subst}
use Rattle.std.specs.Prelude.{Option, Some, None, option_map, slice_index_or, ◌||◌}
use Rattle.std.proofs.Math.Seq.{take-append-add, drop-append-add}
use Rattle.std.proofs.lemmas.Bool.Decides.{leb_tells}
use Rattle.std.proofs.lemmas.List.{append_assoc, length-append, map-append, take-append-le, drop-append-le}
use Rattle.std.proofs.lemmas.List.Elements.{filter-append}
use Rattle.std.proofs.lemmas.List.Folds.{list_any-append}
use Rattle.job_model.specs.declared.job.Job.{Job}
use Rattle.job_model.specs.declared.job_list.PackedJob.{PackedJob}
use Rattle.job_model.specs.JobLists.{kept_in, job_of, jobs_in}
use Rattle.job_model.specs.Fold.{without_job, is_pending}
use Rattle.job_model.specs.Order.{IdsRise, IsInOrder}
use Rattle.job_model.specs.Table.{IsPlaceOf}
use Rattle.job_model.proofs.OrderLaws.{IdsRise-lower}
use Rattle.job_model.proofs.Rows.{jobs_long}
use Rattle.job_model.proofs.Places.{IsOther, least, without_other, pending_other}

pub jobs_beside : (p : List ℕ) (xs ys : List PackedJob) → jobs_in p (xs ++ ys) ≡ jobs_in p xs ++ jobs_in p ys
jobs_beside p xs ys = ap (λ kept. map job_of kept) (map-append (kept_in p) xs ys)
    ∙ map-append job_of (map (kept_in p) xs) (map (kept_in p) ys)

pub front_rises : (low limit : ℕ) (xs ys : List Job) → IdsRise low limit (xs ++ ys) → IdsRise low limit xs
front_rises low limit [] ys r = tt
front_rises low limit (x ∷ xs) ys r = (r.0, r.1, front_rises (x.id + 1) limit xs ys r.2)

pub back_rises : (low limit : ℕ) (xs ys : List Job) → IdsRise low limit (xs ++ ys) → IdsRise low limit ys
back_rises low limit [] ys r = r
back_rises low limit (x ∷ xs) ys r = IdsRise-lower low (x.id + 1) limit ys (omega (arith, r.0)) (back_rises (x.id + 1) limit xs ys r.2)

limited : (low other limit id : ℕ) (xs : List Job) → IdsRise low limit xs → IdsRise other id xs → IdsRise low id xs
limited low other limit id [] r s = tt
limited low other limit id (x ∷ xs) r s = (r.0, s.1, limited (x.id + 1) (x.id + 1) limit id xs r.2 s.2)

-- an id is above all of them where it is above those of each part
pub both_rise : (low other limit id : ℕ) (xs ys : List Job) → IdsRise low limit (xs ++ ys) → IdsRise other id xs → IdsRise 0 id ys
    → IdsRise low id (xs ++ ys)
both_rise low other limit id [] ys r s t = limited low 0 limit id ys r t
both_rise low other limit id (x ∷ xs) ys r s t = (r.0, s.1, both_rise (x.id + 1) (x.id + 1) limit id xs ys r.2 s.2 t)

most : (low limit : ℕ) (jobs : List Job) (k : ℕ) (d : Job) → IdsRise low limit jobs → k < length jobs → (slice_index_or jobs k d).id < limit
most low limit [] k d r less = absurd (omega (arith, less))
most low limit (x ∷ xs) zero d r less = r.1
most low limit (x ∷ xs) (suc k) d r less = most (x.id + 1) limit xs k d r.2 (omega (arith, less))

-- an id that is above those of the one part isn't there
below_other : (id : ℕ) (xs : List Job) → IsInOrder xs id → IsOther xs id
below_other id xs r = λ k d less is. let low = most 0 id xs k d r less in omega (arith, low, is)

-- where it isn't above those of the one part, those of the other are above it
above_id : (low limit id : ℕ) (xs ys : List Job) → IdsRise low limit (xs ++ ys) → (IdsRise low id xs → ⊥) → IdsRise (id + 1) limit ys
above_id low limit id [] ys r not_above = absurd (not_above tt)
above_id low limit id (x ∷ xs) ys r not_above =
    ⊎_elim
    (λ from. IdsRise-lower (id + 1) (x.id + 1) limit ys (omega (arith, from.1)) (back_rises (x.id + 1) limit xs ys r.2))
    (λ before. above_id (x.id + 1) limit id xs ys r.2 (λ rest. not_above (r.0, omega (arith, before.1), rest)))
    (leb_tells id x.id)

pub later_other : (limit id : ℕ) (xs ys : List Job) → IsInOrder (xs ++ ys) limit → (IsInOrder xs id → ⊥) → IsOther ys id
later_other limit id xs ys r not_above = λ k d less is.
    let high = least (id + 1) limit ys k d (above_id 0 limit id xs ys r not_above) less in omega (arith, high, is)

without_beside : (xs ys : List Job) (id : ℕ) → without_job (xs ++ ys) id ≡ without_job xs id ++ without_job ys id
without_beside xs ys id = filter-append _ xs ys

pending_beside : (xs ys : List Job) (id : ℕ) → is_pending (xs ++ ys) id ≡ (is_pending xs id || is_pending ys id)
pending_beside xs ys id = list_any-append _ xs ys

-- the job is in the second part, if it is anywhere
pub in_second : (xs ys : List Job) (id : ℕ) (place : Option ℕ) → IsOther xs id → IsPlaceOf ys id place
    → IsPlaceOf (xs ++ ys) id (option_map (λ at. length xs + at) place)
in_second xs ys id place other there =
    let left : without_job (xs ++ ys) id ≡ xs ++ without_job ys id =
    without_beside xs ys id ∙ ap (λ l. l ++ without_job ys id) (without_other xs id other) in
    let pending : is_pending (xs ++ ys) id ≡ is_pending ys id =
    pending_beside xs ys id ∙ ap (λ b. b || is_pending ys id) (pending_other xs id other) in
    second_of place left pending there
  where
    second_of : (p : Option ℕ) → without_job (xs ++ ys) id ≡ xs ++ without_job ys id → is_pending (xs ++ ys) id ≡ is_pending ys id
        → IsPlaceOf ys id p → IsPlaceOf (xs ++ ys) id (option_map (λ at. length xs + at) p)
    second_of None left pending t = record {
      at_place = tt;
      none = left ∙ ap (λ l. xs ++ l) t.none;
      pending = t.pending ∙ sym pending;
    }
    second_of (Some at) left pending t =
        let next : length xs + (at + 1) ≡ length xs + at + 1 = omega arith in
        record {
          at_place = (
            omega (arith, length-append xs ys, t.at_place.0),
            left ∙ ap (λ l. xs ++ l) t.at_place.1
                ∙ sym (append_assoc xs (take at ys) (drop (at + 1) ys))
                ∙ ap (λ l. l ++ drop (at + 1) ys) (sym (take-append-add xs ys at))
                ∙ ap (λ l. take (length xs + at) (xs ++ ys) ++ l) (sym (drop-append-add xs ys (at + 1)) ∙ ap (λ k. drop k (xs ++ ys)) next),
          );
          none = tt;
          pending = t.pending ∙ sym pending;
        }

-- the job is in the first part, if it is anywhere
pub in_first : (xs ys : List Job) (id : ℕ) (place : Option ℕ) → IsOther ys id → IsPlaceOf xs id place → IsPlaceOf (xs ++ ys) id place
in_first xs ys id place other there =
    let left : without_job (xs ++ ys) id ≡ without_job xs id ++ ys =
    without_beside xs ys id ∙ ap (λ l. without_job xs id ++ l) (without_other ys id other) in
    let pending : is_pending (xs ++ ys) id ≡ is_pending xs id =
    pending_beside xs ys id ∙ ap (λ b. is_pending xs id || b) (pending_other ys id other) ∙ or_false (is_pending xs id) in
    first_of place left pending there
  where
    or_false : (b : Bool) → (b || false) ≡ b
    or_false true = refl
    or_false false = refl

    first_of : (p : Option ℕ) → without_job (xs ++ ys) id ≡ without_job xs id ++ ys → is_pending (xs ++ ys) id ≡ is_pending xs id
        → IsPlaceOf xs id p → IsPlaceOf (xs ++ ys) id p
    first_of None left pending t = record {
      at_place = tt;
      none = left ∙ ap (λ l. l ++ ys) t.none;
      pending = t.pending ∙ sym pending;
    }
    first_of (Some at) left pending t = record {
      at_place = (
        omega (arith, length-append xs ys, t.at_place.0),
        left ∙ ap (λ l. l ++ ys) t.at_place.1
            ∙ append_assoc (take at xs) (drop (at + 1) xs) ys
            ∙ ap (λ l. l ++ (drop (at + 1) xs ++ ys)) (sym (take-append-le at xs ys (omega (arith, t.at_place.0))))
            ∙ ap (λ l. take at (xs ++ ys) ++ l) (sym (drop-append-le (at + 1) xs ys (omega (arith, t.at_place.0)))),
      );
      none = tt;
      pending = t.pending ∙ sym pending;
    }

-- the same of rows
pub behind_it : (p : List ℕ) (rows others : List PackedJob) (id next : ℕ) (place : Option ℕ) → IsInOrder (jobs_in p (rows ++ others)) next
    → IsInOrder (jobs_in p rows) id → IsPlaceOf (jobs_in p others) id place
    → IsPlaceOf (jobs_in p (rows ++ others)) id (option_map (λ at. length rows + at) place)
behind_it p rows others id next place r above there =
    subst (λ jobs. IsPlaceOf jobs id (option_map (λ at. length rows + at) place)) (sym (jobs_beside p rows others))
    (subst (λ n. IsPlaceOf (jobs_in p rows ++ jobs_in p others) id (option_map (λ at. n + at) place)) (jobs_long p rows)
    (in_second (jobs_in p rows) (jobs_in p others) id place (below_other id (jobs_in p rows) above) there))

pub before_it : (p : List ℕ) (rows others : List PackedJob) (id next : ℕ) (place : Option ℕ) → IsInOrder (jobs_in p (rows ++ others)) next
    → (IsInOrder (jobs_in p rows) id → ⊥) → IsPlaceOf (jobs_in p rows) id place → IsPlaceOf (jobs_in p (rows ++ others)) id place
before_it p rows others id next place r not_above there =
    let both : IsInOrder (jobs_in p rows ++ jobs_in p others) next = subst (λ jobs. IsInOrder jobs next) (jobs_beside p rows others) r in
    subst (λ jobs. IsPlaceOf jobs id place) (sym (jobs_beside p rows others))
    (in_first (jobs_in p rows) (jobs_in p others) id place (later_other next id (jobs_in p rows) (jobs_in p others) both not_above) there)

pub first_rise : (p : List ℕ) (rows others : List PackedJob) (next : ℕ) → IsInOrder (jobs_in p (rows ++ others)) next
    → IsInOrder (jobs_in p rows) next
first_rise p rows others next r =
    front_rises 0 next (jobs_in p rows) (jobs_in p others) (subst (λ jobs. IsInOrder jobs next) (jobs_beside p rows others) r)

pub others_rise : (p : List ℕ) (rows others : List PackedJob) (next : ℕ) → IsInOrder (jobs_in p (rows ++ others)) next
    → IsInOrder (jobs_in p others) next
others_rise p rows others next r =
    back_rises 0 next (jobs_in p rows) (jobs_in p others) (subst (λ jobs. IsInOrder jobs next) (jobs_beside p rows others) r)

pub all_rise : (p : List ℕ) (rows others : List PackedJob) (id next : ℕ) → IsInOrder (jobs_in p (rows ++ others)) next
    → IsInOrder (jobs_in p rows) id → IsInOrder (jobs_in p others) id → IsInOrder (jobs_in p (rows ++ others)) id
all_rise p rows others id next r first second =
    subst (λ jobs. IsInOrder jobs id) (sym (jobs_beside p rows others))
    (both_rise 0 0 next id (jobs_in p rows) (jobs_in p others) (subst (λ jobs. IsInOrder jobs next) (jobs_beside p rows others) r) first
    second)
