-- Waits at round trips of any length.
use Rattle.std.proofs.Common.{◌≡◌, ◌≤◌, ◌<◌, ◌+◌, ◌*◌, ◌/◌, ◌⊎◌, ℕ, Bool, true, false, inl, inr, sym, ap, ◌∙◌, arith, max, min}
use Rattle.std.proofs.lemmas.Bool.{cases_lt}
use Rattle.std.proofs.Math.Nat.{add-mul, mul-div_cancel_left, mul-le-mul_left, mul_assoc, mul_comm}
use Rattle.node_timers.specs.declared.wait.Wait.{Wait}
use Rattle.node_timers.specs.declared.wait.Wait.TheVariants.{Check, Merge, Accept, Ready, Task, Coordinator, Answer}
use Rattle.node_timers.specs.Timers.{first_pause, jitter_of, least_of, measured, most_pause}
use Rattle.node_timers.specs.Laws.{Scales}

least : (unit : ℕ) → 1 ≤ unit → (settled : Bool) (wait : Wait)
    → least_of (measured unit) settled wait ≡ unit * least_of (measured 1) settled wait
least unit some true Check = omega (arith, some)
least unit some false Check = omega (arith, some)
least unit some true Merge = omega (arith, some)
least unit some false Merge = omega (arith, some)
least unit some true Accept = omega (arith, some)
least unit some false Accept = omega (arith, some)
least unit some true Ready = omega (arith, some)
least unit some false Ready = omega (arith, some)
least unit some true Task = omega (arith, some)
least unit some false Task = omega (arith, some)
least unit some true Coordinator = omega (arith, some)
least unit some false Coordinator = omega (arith, some)
least unit some true Answer = omega (arith, some)
least unit some false Answer = omega (arith, some)

jitter : (unit : ℕ) → (settled : Bool) (wait : Wait) → jitter_of (measured unit) settled wait ≡ unit * jitter_of (measured 1) settled wait
jitter unit true Check = omega arith
jitter unit false Check = omega arith
jitter unit true Merge = omega arith
jitter unit false Merge = omega arith
jitter unit true Accept = omega arith
jitter unit false Accept = omega arith
jitter unit true Ready = omega arith
jitter unit false Ready = omega arith
jitter unit true Task = omega arith
jitter unit false Task = omega arith
jitter unit true Coordinator = omega arith
jitter unit false Coordinator = omega arith
jitter unit true Answer = omega arith
jitter unit false Answer = omega arith

most : (unit : ℕ) → 1 ≤ unit → most_pause (measured unit) ≡ unit * most_pause (measured 1)
most unit some = omega (arith, some)

-- a twentieth of so many times twenty
twentieth : (jobs unit : ℕ) → 20 * jobs * unit / 20 ≡ jobs * unit
twentieth jobs unit = ap (λ (n : ℕ). n / 20) (mul_assoc 20 jobs unit) ∙ mul-div_cancel_left (jobs * unit) (omega arith)

lt_le : (a b : ℕ) → a < b → a ≤ b
lt_le a b less = omega (arith, less)

lesser : (a b : ℕ) → a ≤ b → min a b ≡ a
lesser a b less = omega (arith, less)

other : (a b : ℕ) → b ≤ a → min a b ≡ b
other a b less = omega (arith, less)

-- the lesser of two lengths, each so many times what it was
times_min : (unit a b : ℕ) → min (unit * a) (unit * b) ≡ unit * min a b
times_min unit a b = by_order (cases_lt a b) where
  by_order : (a < b) ⊎ (b ≤ a) → min (unit * a) (unit * b) ≡ unit * min a b
  by_order (inl less) =
      let more = mul-le-mul_left unit (lt_le a b less) in
      lesser (unit * a) (unit * b) more ∙ ap (λ (n : ℕ). unit * n) (sym (lesser a b (lt_le a b less)))
  by_order (inr over) =
      let more = mul-le-mul_left unit over in
      other (unit * a) (unit * b) more ∙ ap (λ (n : ℕ). unit * n) (sym (other a b over))

first_length : (unit part whole : ℕ) → 1 ≤ unit → part ≡ whole → max (5 * unit + part) 1 ≡ 5 * unit + whole
first_length unit part whole some is = omega (arith, some, is)

spread : (unit jobs : ℕ) → 5 * unit + jobs * unit ≡ unit * (5 + jobs)
spread unit jobs = sym (mul_comm unit (5 + jobs) ∙ add-mul 5 jobs unit)

long : (unit : ℕ) → 1 ≤ unit → (jobs : ℕ) → max (5 * unit + 20 * jobs * unit / 20) 1 ≡ unit * (5 + jobs)
long unit some jobs = first_length unit (20 * jobs * unit / 20) (jobs * unit) some (twentieth jobs unit) ∙ spread unit jobs

most_of : (unit : ℕ) → 1 ≤ unit → max (300 * unit) 1 ≡ unit * 300
most_of unit some = omega (arith, some)

once : (n : ℕ) → 1 * n ≡ n
once n = omega arith

both : {a b c d : ℕ} → a ≡ c → b ≡ d → min a b ≡ min c d
both p q = cc

first : (unit : ℕ) → 1 ≤ unit → (jobs : ℕ) → first_pause (measured unit) (20 * jobs) ≡ unit * first_pause (measured 1) (20 * jobs)
first unit some jobs =
    both (long unit some jobs) (most_of unit some)
    ∙ (times_min unit (5 + jobs) 300 ∙ ap (λ (n : ℕ). unit * n)
    (sym (both (long 1 (omega arith) jobs ∙ once (5 + jobs)) (most_of 1 (omega arith)))))

pub scaled : (unit : ℕ) → 1 ≤ unit → Scales unit
scaled unit some = record {
  least = least unit some;
  jitter = jitter unit;
  turn = omega arith;
  raise = λ ms. omega arith;
  first = first unit some;
  most = most unit some;
}
