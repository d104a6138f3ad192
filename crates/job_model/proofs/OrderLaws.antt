-- The pending jobs stay in order of id.
use Rattle.std.proofs.Common.{◌≡◌, ℕ, zero, suc, ◌+◌, ◌<◌, ◌≤◌, Bool, true, false, not, cond, eqb, List, [], ◌∷◌, ◌++◌, length, sym, arith}
use Rattle.std.proofs.Common.{◌-◌}
use Rattle.std.proofs.lemmas.Bool.{ltb-true, lt-ltb}
use Rattle.std.specs.Prelude.{Some, slice_get, IsTrue, nat_lt, ◌↔◌}
use Rattle.job_model.specs.declared.job.Job.{Job}
use Rattle.job_model.specs.Fold.{without_job}
use Rattle.job_model.specs.Order.{IdsRise, IsInOrder}

pub IdsRise-lower : (low high limit : ℕ) (jobs : List Job) → low ≤ high → IdsRise high limit jobs → IdsRise low limit jobs
IdsRise-lower low high limit [] le r = tt
IdsRise-lower low high limit (job ∷ jobs) le r = (omega (arith, r.0), r.1, r.2)

-- one job more behind those that stand below it
pub IdsRise-append : (low limit : ℕ) (jobs : List Job) (job : Job) → low ≤ job.id → job.id < limit → IdsRise low job.id jobs
    → IdsRise low limit (jobs ++ job ∷ [])
IdsRise-append low limit [] job le lt r = (le, lt, tt)
IdsRise-append low limit (x ∷ xs) job le lt r = (
  r.0,
  omega (arith, r.1),
  IdsRise-append (x.id + 1) limit xs job (omega (arith, r.1)) lt r.2,
)

one_of : (low limit : ℕ) (b : Bool) (xs ys : List Job) → IdsRise low limit xs → IdsRise low limit ys → IdsRise low limit (cond b xs ys)
one_of low limit true xs ys r s = r
one_of low limit false xs ys r s = s

pub IdsRise-without_job : (low limit : ℕ) (jobs : List Job) (id : ℕ) → IdsRise low limit jobs → IdsRise low limit (without_job jobs id)
IdsRise-without_job low limit [] id r = tt
IdsRise-without_job low limit (job ∷ jobs) id r =
    let rest : IdsRise (job.id + 1) limit (without_job jobs id) = IdsRise-without_job (job.id + 1) limit jobs id r.2 in
    one_of low limit (not (eqb job.id id)) (job ∷ without_job jobs id) (without_job jobs id)
    (r.0, r.1, rest)
    (IdsRise-lower low (job.id + 1) limit (without_job jobs id) (omega (arith, r.0)) rest)

-- ---- the last job tells how far the ids go

pub above_last : (low limit id k : ℕ) (jobs : List Job) (last : Job) → IdsRise low limit jobs → length jobs ≡ k + 1
    → slice_get jobs k ≡ Some last → last.id < id → IdsRise low id jobs
above_last low limit id k [] last r len e lt = tt
above_last low limit id zero (x ∷ []) last r len e lt = let same : x ≡ last = cc in (r.0, rw same lt, tt)
above_last low limit id (suc k) (x ∷ []) last r len e lt = absurd (omega arith)
above_last low limit id zero (x ∷ y ∷ ys) last r len e lt = absurd (omega arith)
above_last low limit id (suc k) (x ∷ y ∷ ys) last r len e lt =
    let rest : IdsRise (x.id + 1) id (y ∷ ys) = above_last (x.id + 1) limit id k (y ∷ ys) last r.2 (omega arith) e lt in
    (r.0, omega (arith, rest.0, rest.1), rest)

pub last_below : (low id k : ℕ) (jobs : List Job) (last : Job) → IdsRise low id jobs → slice_get jobs k ≡ Some last → last.id < id
last_below low id k [] last r e = absurd cc
last_below low id zero (x ∷ xs) last r e = let same : x ≡ last = cc in rw (← same) r.1
last_below low id (suc k) (x ∷ xs) last r e = last_below (x.id + 1) id k xs last r.2 e

pub above_is_past_last : (limit id : ℕ) (jobs : List Job) (last : Job) → IsInOrder jobs limit → Some last ≡ slice_get jobs (length jobs - 1)
    → IsTrue (nat_lt last.id id) ↔ IsInOrder jobs id
above_is_past_last limit id [] last r e = absurd cc
above_is_past_last limit id (x ∷ xs) last r e = (
  λ t. above_last 0 limit id (length (x ∷ xs) - 1) (x ∷ xs) last r (omega arith) (sym e) (ltb-true last.id id t),
  λ s. lt-ltb last.id id (last_below 0 id (length (x ∷ xs) - 1) (x ∷ xs) last s (sym e)),
)
