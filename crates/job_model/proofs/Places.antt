-- Where a job stands among jobs whose ids rise, and what is left without it.
use Rattle.std.proofs.Common.{◌≡◌, ◌+◌, ◌<◌, ◌≤◌, ⊎_elim, ℕ, zero, suc, true, false, not, cond, eqb, ltb, List, [], ◌∷◌, ◌++◌, length, take}
use Rattle.std.proofs.Common.{drop, ◌∙◌, sym, ap, refl, arith}
use Rattle.std.proofs.lemmas.Bool.Decides.{nat_tests, leb_tells}
use Rattle.std.specs.Prelude.{slice_index_or, ◌||◌}
use Rattle.std.specs.List.Sorted.{IsNonDecreasingBy, IsPartitionPoint}
use Rattle.std.proofs.lemmas.Bool.{ltb-true}
use Rattle.std.proofs.lemmas.List.{get_or_default, drop-append-le, drop-take, drop-drop, length-take-le}
use Rattle.job_model.specs.declared.job.Job.{Job}
use Rattle.job_model.specs.Fold.{without_job, is_pending}
use Rattle.job_model.specs.Order.{IdsRise}

-- each id is at least the lowest
pub least : (low limit : ℕ) (jobs : List Job) (k : ℕ) (d : Job) → IdsRise low limit jobs → k < length jobs
    → low ≤ (slice_index_or jobs k d).id
least low limit [] k d r less = absurd (omega (arith, less))
least low limit (x ∷ xs) zero d r less = r.0
least low limit (x ∷ xs) (suc k) d r less = let rest = least (x.id + 1) limit xs k d r.2 (omega (arith, less)) in omega (arith, rest, r.0)

-- later ids are no lower
pub rises : (low limit : ℕ) (jobs : List Job) (i j : ℕ) (d : Job) → IdsRise low limit jobs → i ≤ j → j < length jobs
    → (slice_index_or jobs i d).id ≤ (slice_index_or jobs j d).id
rises low limit [] i j d r le less = absurd (omega (arith, less))
rises low limit (x ∷ xs) zero zero d r le less = omega arith
rises low limit (x ∷ xs) zero (suc j) d r le less = let rest = least (x.id + 1) limit xs j d r.2 (omega (arith, less)) in
    omega (arith, rest)
rises low limit (x ∷ xs) (suc i) zero d r le less = absurd (omega (arith, le))
rises low limit (x ∷ xs) (suc i) (suc j) d r le less = rises (x.id + 1) limit xs i j d r.2 (omega (arith, le)) (omega (arith, less))

other_id : (a b : ℕ) → (a ≡ b → ⊥) → eqb a b ≡ false
other_id a b differ = grind (arith, nat_tests, differ)

pub same_id : (a b : ℕ) → a ≡ b → eqb a b ≡ true
same_id a b is = grind (arith, nat_tests, is)

-- none of these jobs has the id
abbrev pub IsOther : List Job → ℕ → Type 0
IsOther jobs id = (k : ℕ) (d : Job) → k < length jobs → (slice_index_or jobs k d).id ≡ id → ⊥

pub without_other : (jobs : List Job) (id : ℕ) → IsOther jobs id → without_job jobs id ≡ jobs
without_other [] id other = refl
without_other (x ∷ xs) id other =
    ap (λ b. cond (not b) (x ∷ without_job xs id) (without_job xs id)) (other_id x.id id (other zero x (omega arith)))
    ∙ ap (λ ys. x ∷ ys) (without_other xs id (λ k d less. other (suc k) d (omega (arith, less))))

pub pending_other : (jobs : List Job) (id : ℕ) → IsOther jobs id → is_pending jobs id ≡ false
pending_other [] id other = refl
pending_other (x ∷ xs) id other =
    ap (λ b. b || is_pending xs id) (other_id x.id id (other zero x (omega arith)))
    ∙ pending_other xs id (λ k d less. other (suc k) d (omega (arith, less)))

pub without_at : (low limit : ℕ) (jobs : List Job) (id at : ℕ) (d : Job) → IdsRise low limit jobs → at < length jobs
    → (slice_index_or jobs at d).id ≡ id
    → without_job jobs id ≡ take at jobs ++ drop (at + 1) jobs
without_at low limit [] id at d r less is = absurd (omega (arith, less))
without_at low limit (x ∷ xs) id zero d r less is =
    ap (λ b. cond (not b) (x ∷ without_job xs id) (without_job xs id)) (same_id x.id id is)
    ∙ without_other xs id (λ k e below same. let high = least (x.id + 1) limit xs k e r.2 below in omega (arith, high, same, is))
without_at low limit (x ∷ xs) id (suc at) d r less is =
    let high = least (x.id + 1) limit xs at d r.2 (omega (arith, less)) in
    let next : suc at + 1 ≡ suc (at + 1) = omega arith in
    ap (λ b. cond (not b) (x ∷ without_job xs id) (without_job xs id)) (other_id x.id id (λ same. omega (arith, high, same, is)))
    ∙ ap (λ ys. x ∷ ys) (without_at (x.id + 1) limit xs id at d r.2 (omega (arith, less)) is)
    ∙ ap (λ k. x ∷ (take at xs ++ drop k (x ∷ xs))) (sym next)

-- the jobs before a place have lower ids, and the one in it has another that is no lower: none has this id
pub other_around : (low limit : ℕ) (jobs : List Job) (id at : ℕ) → IdsRise low limit jobs
    → ((k : ℕ) (d : Job) → k < at → (slice_index_or jobs k d).id < id)
    → (at < length jobs → (d : Job) → id ≤ (slice_index_or jobs at d).id)
    → (at < length jobs → (d : Job) → (slice_index_or jobs at d).id ≡ id → ⊥) → IsOther jobs id
other_around low limit jobs id at r below above differs k d less is =
    ⊎_elim
    (λ from.
    let on : at < length jobs = omega (arith, from.1, less) in
    let up = rises low limit jobs at k d r from.1 less in
    let high = above on d in
    differs on d (omega (arith, up, high, is)))
    (λ before. let low_id = below k d before.1 in omega (arith, low_id, is))
    (leb_tells at k)

pub ids_rise : (low limit : ℕ) (jobs : List Job) → IdsRise low limit jobs → IsNonDecreasingBy (λ (job : Job). job.id) jobs
ids_rise low limit jobs r = λ i j d le less. rises low limit jobs i j d r le less

-- the elements behind a place are moved down by one, over the element in it
pub moved_down : {A : Type 0} (xs : List A) (s at : ℕ) → s + at < length xs
    → drop s (take (s + at) xs ++ drop (s + at + 1) xs) ≡ take at (drop s xs) ++ drop (at + 1) (drop s xs)
moved_down xs s at within =
    let long : length (take (s + at) xs) ≡ s + at = length-take-le (s + at) xs (omega (arith, within)) in
    let on : s + at + 1 ≡ s + (at + 1) = omega arith in
    drop-append-le s (take (s + at) xs) (drop (s + at + 1) xs) (omega (arith, long))
    ∙ ap (λ l. l ++ drop (s + at + 1) xs) (drop-take s at xs)
    ∙ ap (λ n. take at (drop s xs) ++ drop n xs) on
    ∙ ap (λ l. take at (drop s xs) ++ l) (sym (drop-drop (at + 1) s xs))

-- where the search of an id ends, as `partition_point` says it
pub low_before : (jobs : List Job) (id at : ℕ) → IsPartitionPoint (λ (job : Job). ltb job.id id ≡ true)
    (λ (job : Job). ltb job.id id ≡ false) jobs at
    → (k : ℕ) (d : Job) → k < at → (slice_index_or jobs k d).id < id
low_before jobs id at point k d before = ltb-true (slice_index_or jobs k d).id id (point.0 k d (omega arith) before)

not_lower : (a b : ℕ) → ltb a b ≡ false → b ≤ a
not_lower a b not_less = grind (arith, nat_tests, not_less)

pub high_from : (jobs : List Job) (id at : ℕ) → IsPartitionPoint (λ (job : Job). ltb job.id id ≡ true)
    (λ (job : Job). ltb job.id id ≡ false) jobs at
    → at < length jobs → (d : Job) → id ≤ (slice_index_or jobs at d).id
high_from jobs id at point on d = not_lower (slice_index_or jobs at d).id id (point.1 at d (omega arith) on)

-- the search ended past the last job, or at a job of another id
pub other_at : (limit : ℕ) (jobs : List Job) (id at : ℕ) → IdsRise 0 limit jobs
    → IsPartitionPoint (λ (job : Job). ltb job.id id ≡ true) (λ (job : Job). ltb job.id id ≡ false) jobs at
    → (at < length jobs → (e : Job) × ((slice_index_or jobs at e).id ≡ id → ⊥)) → IsOther jobs id
other_at limit jobs id at r point differs =
    other_around 0 limit jobs id at r (low_before jobs id at point) (high_from jobs id at point)
    (λ on d is. let e = differs on in e.1 (ap (λ (job : Job). job.id) (get_or_default jobs at e.0 d on) ∙ is))
