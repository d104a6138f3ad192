-- Each step keeps that each number is drawn once.
use Rattle.std.proofs.Common.{◌≡◌, ℕ, zero, suc, ◌+◌, ◌%◌, ◌^◌, ◌≤◌, ◌==◌, List, [], ◌∷◌, ◌++◌, slice_index, slice_set, set, refl, ap}
use Rattle.std.proofs.Common.{sym, ◌∙◌, subst, arith}
use Rattle.std.specs.Prelude.{if◌then◌else◌, nat_lt}
use Rattle.std.specs.List.{AllByRecursion}
use Rattle.std.proofs.lemmas.Bool.Decides.{nat_tests}
use mathlib.Core.Option.{none, some, some-injective, some-ne-none}
use lib.ListN.{get_elem?}
use Rattle.atomic_table.specs.Table.{Allows, Me, Splits, keeps, opening, step}
use Rattle.atomic_table.proofs.Lists.{set_again}
use Rattle.node_lock.specs.declared.turn_numbers.Drawn.{Drawn}
use Rattle.node_lock.specs.Drawing.{AreDrawn, AreGiven, HaveNumbers, IsFalling, IsGiven, draws_next, nothing_drawn, times, times_by_all}
use Rattle.node_lock.proofs.Losing.{all_snoc}

times_set : (x : ℕ) (views : List Drawn) (id : ℕ) (v w : Drawn) → get_elem? views id ≡ some v
    → times_by_all x (set views id w) + times x v.numbers ≡ times_by_all x views + times x w.numbers
times_set x [] id v w at = absurd (some-ne-none v (sym at))
times_set x (u ∷ us) zero v w at = let same : times x u.numbers ≡ times x v.numbers =
    ap (λ (d : Drawn). times x d.numbers) (some-injective u v at) in omega (arith, same)
times_set x (u ∷ us) (suc id) v w at = let rest = times_set x us id v w at in omega (arith, rest)

times_more : (x : ℕ) (views : List Drawn) → times_by_all x (views ++ nothing_drawn ∷ []) ≡ times_by_all x views
times_more x [] = refl
times_more x (v ∷ vs) = ap (λ (n : ℕ). times x v.numbers + n) (times_more x vs)

falls : ℕ → Drawn → Type 0
falls bound v = IsFalling bound v.numbers

falls_below : (bound more : ℕ) (ns : List ℕ) → bound ≤ more → IsFalling bound ns → IsFalling more ns
falls_below bound more [] le all = tt
falls_below bound more (n ∷ ns) le all = (let lt = all.0 in omega (arith, lt, le), all.1)

all_set : (bound more : ℕ) (views : List Drawn) (id : ℕ) (w : Drawn) → bound ≤ more
    → AllByRecursion (λ (v : Drawn). IsFalling bound v.numbers) views → IsFalling more w.numbers
    → AllByRecursion (λ (v : Drawn). IsFalling more v.numbers) (set views id w)
all_set bound more [] id w le all own = tt
all_set bound more (v ∷ vs) zero w le all own = (own, all_more vs all.1)
  where
    all_more : (vs : List Drawn) → AllByRecursion (λ (v : Drawn). IsFalling bound v.numbers) vs
        → AllByRecursion (λ (v : Drawn). IsFalling more v.numbers) vs
    all_more [] all = tt
    all_more (v ∷ vs) all = (falls_below bound more v.numbers le all.0, all_more vs all.1)
all_set bound more (v ∷ vs) (suc id) w le all own = (falls_below bound more v.numbers le all.0, all_set bound more vs id w le all.1 own)

all_at : (bound : ℕ) (views : List Drawn) (id : ℕ) (v : Drawn) → AllByRecursion (λ (v : Drawn). IsFalling bound v.numbers) views
    → get_elem? views id ≡ some v → IsFalling bound v.numbers
all_at bound [] id v all at = absurd (some-ne-none v (sym at))
all_at bound (u ∷ us) zero v all at = subst (λ (d : Drawn). IsFalling bound d.numbers) (some-injective u v at) all.0
all_at bound (u ∷ us) (suc id) v all at = all_at bound us id v all.1 at

-- one number more is below the count
one_more : (x count : ℕ) → (if nat_lt x count then 1 else 0) + (if count == x then 1 else 0) ≡ (if nat_lt x (count + 1) then 1 else 0)
one_more x count = grind (arith, nat_tests)

next_word : (count : ℕ) → (count % 2 ^ 64 + 1) % 2 ^ 64 ≡ (count + 1) % 2 ^ 64
next_word count = omega arith

pub next_allowed : (slots id : ℕ) (me : Me (Unit {0}) Drawn)
    → Allows AreDrawn slots id me 0 (λ n. (n + 1) % 2 ^ 64) (draws_next (step slots 0 1 0 none) me)
next_allowed slots id me s r long at small =
    let w : Drawn = record { numbers = r.count ∷ me.0.numbers } in
    let own : IsFalling r.count me.0.numbers = all_at r.count s.views id me.0 r.falling at in (
      w,
      keeps,
      tt,
      record {
        count = r.count + 1;
        word = ap (λ (ws : List ℕ). slice_set ws 0 ((slice_index ws 0 + 1) % 2 ^ 64)) r.word ∙ ap (λ (n : ℕ). n ∷ []) (next_word r.count);
        once = λ x.
            let moved = times_set x s.views id me.0 w at in
            let was = r.once x in
            let more = one_more x r.count in
            omega (arith, moved, was, more);
        falling = all_set r.count (r.count + 1) s.views id w (omega arith) r.falling (omega arith, own);
      },
      (r.count, ap (λ (ws : List ℕ). slice_index ws 0) r.word, refl, own),
    )

pub another_allowed : (id : ℕ) (v : Drawn) → Splits AreDrawn id v v nothing_drawn
another_allowed id v s r at =
    let same = set_again s.views id v at in
    record {
      count = r.count;
      word = r.word;
      once = λ x. ap (λ (vs : List Drawn). times_by_all x (vs ++ nothing_drawn ∷ [])) same ∙ times_more x s.views ∙ r.once x;
      falling = subst (λ (vs : List Drawn). AllByRecursion (λ (v : Drawn). IsFalling r.count v.numbers) (vs ++ nothing_drawn ∷ []))
          (sym same)
          (all_snoc (λ (v : Drawn). IsFalling r.count v.numbers) s.views (nothing_drawn ∷ []) r.falling (tt, tt));
    }

pub none_drawn : AreDrawn (opening (0 ∷ []) [] nothing_drawn)
none_drawn = record {
  count = 0;
  word = refl;
  once = λ x. (let none : times_by_all x (nothing_drawn ∷ []) ≡ (if nat_lt x 0 then 1 else 0) = grind (arith, nat_tests) in none);
  falling = (tt, tt);
}

-- ---- the numbers of a node's turns

pub more_numbers : (drawn new_drawn numbers new_numbers : List ℕ) → HaveNumbers drawn numbers → IsGiven drawn new_drawn numbers new_numbers
    → HaveNumbers new_drawn new_numbers
more_numbers drawn new_drawn numbers new_numbers has is =
    let count = is.draws.count in
    record {
      bound = count + 1;
      falling = subst (λ (ns : List ℕ). IsFalling (count + 1) ns) (sym is.draws.drawn) (omega arith, is.draws.falling);
      given = subst (λ (ns : List ℕ). AreGiven ns new_numbers) (sym is.draws.drawn)
          (is.number, numbers, is.given, is.draws.is_count, has.given);
    }

pub no_numbers : HaveNumbers [] []
no_numbers = record { bound = 0; falling = tt; given = refl }
