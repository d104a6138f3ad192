-- The queues go to the members in turn, so they are shared evenly.
use Rattle.std.proofs.Common.{◌≡◌, ◌≢◌, ℕ, zero, suc, ◌+◌, ◌*◌, ◌/◌, ◌%◌, ◌<◌, ◌≤◌, Bool, true, false, cond, ltb, eqb, List, [], ◌∷◌}
use Rattle.std.proofs.Common.{length, get_or, refl, sym, ap, ◌∙◌, arith, inl, inr, add-one, add-zero}
use Rattle.std.proofs.lemmas.Bool.{cases_lt, cases_order}
use Rattle.std.proofs.lemmas.Bool.Decides.{nat_tests}
use Rattle.std.proofs.lemmas.Nat.{div-mul-add, mod-mul-add, div-add-mod', mod_below}
use Rattle.std.specs.List.{fold, range_with_len}
use Rattle.job_model.specs.declared.queue.TheConstants.{QUEUES}
use Rattle.group_task.specs.declared.node.TheConstants.{NODES}
use Rattle.group_task.specs.Ids.{has, RisesWithin, IsSet}
use Rattle.group_task.specs.Assignment.{owner_of}
use Rattle.group_task.specs.Shares.{queues_of, OneOwner, IsEven}
use Rattle.group_task.proofs.Words.{has_below}

abbrev one_if : Bool → ℕ
one_if b = cond b 1 0

-- ---- the places of a rising list

at_least : (low limit i : ℕ) (xs : List ℕ) → RisesWithin low limit xs → i < length xs → low ≤ get_or xs i 0
at_least low limit i [] r lt = absurd (omega arith)
at_least low limit zero (x ∷ xs) r lt = r.0
at_least low limit (suc i) (x ∷ xs) r lt = omega (arith, at_least (x + 1) limit i xs r.2 (omega arith), r.0)

-- what stands later is greater
later_is_greater : (low limit i j : ℕ) (xs : List ℕ) → RisesWithin low limit xs → i < j → j < length xs → get_or xs i 0 < get_or xs j 0
later_is_greater low limit i j [] r lt within = absurd (omega arith)
later_is_greater low limit i zero (x ∷ xs) r lt within = absurd (omega arith)
later_is_greater low limit zero (suc j) (x ∷ xs) r lt within = omega (arith, at_least (x + 1) limit j xs r.2 (omega arith))
later_is_greater low limit (suc i) (suc j) (x ∷ xs) r lt within = later_is_greater (x + 1) limit i j xs r.2 (omega arith) (omega arith)

-- two places hold the same id only where they are one place
same_place : (low limit i j : ℕ) (xs : List ℕ) → RisesWithin low limit xs → i < length xs → j < length xs
    → eqb (get_or xs i 0) (get_or xs j 0) ≡ eqb i j
same_place low limit i j xs r l m = elim (cases_order i j) [
  | inl same ↦ rw same (grind (arith, nat_tests))
  | inr (inl less) ↦ let e : get_or xs i 0 < get_or xs j 0 = later_is_greater low limit i j xs r less m in grind (arith, nat_tests)
  | inr (inr more) ↦ let e : get_or xs j 0 < get_or xs i 0 = later_is_greater low limit j i xs r more l in grind (arith, nat_tests)
]

-- each id of the list stands at a place
place_of : (id : ℕ) (xs : List ℕ) → has xs id ≡ true → (i : ℕ) × (i < length xs) × (get_or xs i 0 ≡ id)
place_of id [] h = absurd cc
place_of id (x ∷ xs) h = elim (cases_lt 0 (one_if (eqb id x))) [
  | inl here ↦ (0, omega arith, grind (arith, nat_tests, here))
  | inr there ↦
      let rest : has xs id ≡ true = grind (arith, nat_tests, there, h) in
      let p = place_of id xs rest in
      (suc p.0, omega (arith, p.1), p.2)
]

-- and each place holds one of them
pub has_place : (i : ℕ) (xs : List ℕ) → i < length xs → has xs (get_or xs i 0) ≡ true
has_place i [] lt = absurd (omega arith)
has_place zero (x ∷ xs) lt = grind (arith, nat_tests)
has_place (suc i) (x ∷ xs) lt = grind (arith, nat_tests, has_place i xs (omega arith))

-- a rising list has an id once or not at all
counted_once : (id low limit sum : ℕ) (xs : List ℕ) → RisesWithin low limit xs
    → fold (λ (s x : ℕ). s + cond (eqb id x) 1 0) sum xs ≡ sum + one_if (has xs id)
counted_once id low limit sum [] r = omega arith
counted_once id low limit sum (x ∷ xs) r =
    let rest = counted_once id (x + 1) limit (sum + cond (eqb id x) 1 0) xs r.2 in
    elim (cases_order id x) [
      | inl same ↦ let none : has xs id ≡ false = has_below id (x + 1) limit xs (omega arith) r.2 in grind (arith, nat_tests, rest, none)
      | inr (inl less) ↦ grind (arith, nat_tests, rest)
      | inr (inr more) ↦ grind (arith, nat_tests, rest)
    ]

pub one_owner : OneOwner
one_owner members queue set some lt =
    let n : 0 < length members = filled members some in
    let place : queue % length members < length members = mod_below queue (length members) n in
    let member : has members (owner_of members queue) ≡ true = has_place (queue % length members) members place in
    (member, counted_once (owner_of members queue) 0 NODES 0 members set ∙ rw member refl)
  where
    filled : (xs : List ℕ) → xs ≢ [] → 0 < length xs
    filled [] ne = absurd (ne refl)
    filled (x ∷ xs) ne = omega arith

-- ---- taking turns

-- how many of the first k turns of n come to one place
turns : ℕ → ℕ → ℕ → ℕ
turns zero n place = 0
turns (suc k) n place = turns k n place + one_if (eqb (k % n) place)

-- one number more, by quotient and remainder
next_in : (k n : ℕ) → k % n + 1 < n → (suc k / n ≡ k / n) × (suc k % n ≡ k % n + 1)
next_in k n lt =
    let e : suc k ≡ k / n * n + (k % n + 1) = omega (arith, div-add-mod' k n) in
    (ap (λ (j : ℕ). j / n) e ∙ div-mul-add (k / n) n (k % n + 1) lt, ap (λ (j : ℕ). j % n) e ∙ mod-mul-add (k / n) n (k % n + 1) lt)

next_out : (k n : ℕ) → 0 < n → k % n + 1 ≡ n → (suc k / n ≡ k / n + 1) × (suc k % n ≡ 0)
next_out k n pos last =
    let grown : (k / n + 1) * n ≡ k / n * n + n = omega arith in
    let e : suc k ≡ (k / n + 1) * n + 0 = omega (arith, div-add-mod' k n, grown) in
    (ap (λ (j : ℕ). j / n) e ∙ div-mul-add (k / n + 1) n 0 pos, ap (λ (j : ℕ). j % n) e ∙ mod-mul-add (k / n + 1) n 0 pos)

step_in : (r a : ℕ) → one_if (ltb a r) + one_if (eqb r a) ≡ one_if (ltb a (r + 1))
step_in r a = grind (arith, nat_tests)

step_out : (r a : ℕ) → a ≤ r → one_if (ltb a r) + one_if (eqb r a) ≡ 1
step_out r a le = grind (arith, nat_tests)

none_below : (a : ℕ) → one_if (ltb a 0) ≡ 0
none_below a = grind (arith, nat_tests)

-- the whole rounds, and one turn more in the last round for the places at its start
turns_at : (k n a : ℕ) → a < n → turns k n a ≡ k / n + one_if (ltb a (k % n))
unfolding turns
turns_at zero n a lt = let z : 0 ≡ 0 * n + 0 = omega arith in
    let e : 0 / n ≡ 0 = ap (λ (j : ℕ). j / n) z ∙ div-mul-add 0 n 0 (omega arith) in
    let f : 0 % n ≡ 0 = ap (λ (j : ℕ). j % n) z ∙ mod-mul-add 0 n 0 (omega arith) in
    omega (arith, e, ap (λ (j : ℕ). one_if (ltb a j)) f, none_below a)
turns_at (suc k) n a lt =
    let ih = turns_at k n a lt in
    elim (cases_lt (k % n + 1) n) [
      | inl inside ↦ let s = next_in k n inside in rw (s.0, s.1) (omega (arith, ih, step_in (k % n) a))
      | inr past ↦
          let last : k % n + 1 ≡ n = omega (arith, mod_below k n (omega arith)) in
          let s = next_out k n (omega arith) last in
          rw (s.0, s.1) (omega (arith, ih, step_out (k % n) a (omega arith), none_below a))
    ]

at_most_one : (b : Bool) → one_if b ≤ 1
at_most_one true = omega arith
at_most_one false = omega arith

even_turns : (k n a b : ℕ) → a < n → b < n → turns k n a ≤ turns k n b + 1
even_turns k n a b l m = omega (arith, turns_at k n a l, turns_at k n b m, at_most_one (ltb a (k % n)))

-- ---- the queues of a member are the turns of its place

-- counting those of a list of numbers that a test picks, where it picks the turns of one place
counted_turns : (test : ℕ → Bool) (n place from many sum : ℕ) → ((k : ℕ) → test k ≡ eqb (k % n) place) → sum ≡ turns from n place
    → fold (λ (s k : ℕ). s + cond (test k) 1 0) sum (range_with_len from many) ≡ turns (from + many) n place
unfolding turns
counted_turns test n place from zero sum same e = rw add-zero e
counted_turns test n place from (suc many) sum same e =
    let picked : cond (test from) 1 0 ≡ one_if (eqb (from % n) place) = ap one_if (same from) in
    let next : turns (from + 1) n place ≡ turns from n place + one_if (eqb (from % n) place) = rw add-one refl in
    let grown : sum + cond (test from) 1 0 ≡ turns (from + 1) n place = omega (arith, e, picked, next) in
    let moved : from + suc many ≡ from + 1 + many = omega arith in
    rw moved (counted_turns test n place (from + 1) many (sum + cond (test from) 1 0) same grown)

queues_of_place : (members : List ℕ) (place : ℕ) → IsSet members → place < length members
    → queues_of members (get_or members place 0) ≡ turns QUEUES (length members) place
unfolding turns
queues_of_place members place set lt =
    counted_turns (λ queue. eqb (owner_of members queue) (get_or members place 0)) (length members) place 0 QUEUES 0
    (λ queue. same_place 0 NODES (queue % length members) place members set (mod_below queue (length members) (omega arith)) lt)
    refl

pub even_shares : IsEven
even_shares members a b set has_a has_b =
    let p = place_of a members has_a in
    let q = place_of b members has_b in
    let e : queues_of members a ≡ turns QUEUES (length members) p.0 = ap (λ id. queues_of members id) (sym p.2)
    ∙ queues_of_place members p.0 set p.1 in
    let f : queues_of members b ≡ turns QUEUES (length members) q.0 = ap (λ id. queues_of members id) (sym q.2)
    ∙ queues_of_place members q.0 set q.1 in
    omega (arith, e, f, even_turns QUEUES (length members) p.0 q.0 p.1 q.1)
