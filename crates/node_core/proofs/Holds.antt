-- What is in hand once a job is taken or given up.
use Rattle.std.proofs.Common.{◌≡◌, ℕ, zero, suc, ◌+◌, ◌<◌, Bool, true, false, not, cond, ◌&&◌, ◌||◌, List, [], ◌∷◌, ◌++◌, length, take}
use Rattle.std.proofs.Common.{drop, ◌==◌, refl, sym, ap, ◌∙◌, subst, arith, slice_index_or}
use Rattle.std.proofs.lemmas.Bool.Decides.{nat_tests}
use Rattle.std.proofs.lemmas.List.{map-append, take-map, drop-map}
use Rattle.std.specs.List.{filter}
use Rattle.job_model.specs.declared.kept_job.KeptJob.{KeptJob}
use Rattle.node_core.specs.declared.in_hand.InHand.{InHand}
use Rattle.node_core.specs.Held.{holds, is_of, without_held}
use Rattle.node_core.specs.Listing.{AreOnce, IsAt, in_hand, in_hand_of}

pub holds_more : (jobs : List InHand) (job : InHand) (origin id : ℕ)
    → holds (jobs ++ job ∷ []) origin id ≡ (is_of job origin id || holds jobs origin id)
holds_more [] job origin id = refl
holds_more (x ∷ xs) job origin id = ap (λ b. is_of x origin id || b) (holds_more xs job origin id)
    ∙ turned (is_of x origin id) (is_of job origin id) (holds xs origin id)
  where
    turned : (a b c : Bool) → (a || (b || c)) ≡ (b || (a || c))
    turned true true c = refl
    turned true false c = refl
    turned false b c = refl

pub without_absent : (jobs : List InHand) (origin id : ℕ) → holds jobs origin id ≡ false → without_held jobs origin id ≡ jobs
without_absent [] origin id none = refl
without_absent (x ∷ xs) origin id none = by_first (is_of x origin id) none (without_absent xs origin id)
  where
    by_first : (b : Bool) → (b || holds xs origin id) ≡ false → (holds xs origin id ≡ false → without_held xs origin id ≡ xs)
        → cond (not b) (x ∷ without_held xs origin id) (without_held xs origin id) ≡ x ∷ xs
    by_first true h rest = absurd cc
    by_first false h rest = ap (λ ys. x ∷ ys) (rest h)

same_of : (job : InHand) (origin id p k : ℕ) → is_of job origin id ≡ true → is_of job p k ≡ (origin == p && id == k)
same_of job origin id p k is = grind (arith, nat_tests, is)

pub holds_without : (jobs : List InHand) (origin id p k : ℕ)
    → holds (without_held jobs origin id) p k ≡ cond (origin == p && id == k) false (holds jobs p k)
holds_without [] origin id p k = both (origin == p && id == k)
  where
    both : (b : Bool) → false ≡ cond b false false
    both true = refl
    both false = refl
holds_without (x ∷ xs) origin id p k = by_first (is_of x origin id) refl (holds_without xs origin id p k)
  where
    gone : (a : Bool) (c : Bool) → cond a false c ≡ cond a false (a || c)
    gone true c = refl
    gone false c = refl

    stays : (a b c : Bool) → (a ≡ true → b ≡ false) → (b || cond a false c) ≡ cond a false (b || c)
    stays true true c h = absurd (let no = h refl in cc)
    stays true false c h = refl
    stays false b c h = refl

    by_first : (b : Bool) → is_of x origin id ≡ b → holds (without_held xs origin id) p k
        ≡ cond (origin == p && id == k) false (holds xs p k)
        → holds (cond (not b) (x ∷ without_held xs origin id) (without_held xs origin id)) p k
        ≡ cond (origin == p && id == k) false (is_of x p k || holds xs p k)
    by_first true is rest =
        rest ∙ gone (origin == p && id == k) (holds xs p k)
        ∙ ap (λ b. cond (origin == p && id == k) false (b || holds xs p k)) (sym (same_of x origin id p k is))
    by_first false is rest =
        ap (λ b. is_of x p k || b) rest
        ∙ stays (origin == p && id == k) (is_of x p k) (holds xs p k) (λ here. grind (arith, nat_tests, is, here))

turn_of : (a b : InHand) → is_of a b.origin b.id ≡ is_of b a.origin a.id
turn_of a b = grind (arith, nat_tests)

-- each has a key of its own still
pub once_more : (jobs : List InHand) (job : InHand) → AreOnce jobs → holds jobs job.origin job.id ≡ false → AreOnce (jobs ++ job ∷ [])
once_more [] job once none = (refl, tt)
once_more (x ∷ xs) job once none =
    let first = neither (is_of x job.origin job.id) (holds xs job.origin job.id) none in (
      holds_more xs job x.origin x.id ∙ ap (λ b. b || holds xs x.origin x.id) (turn_of job x ∙ first.0) ∙ once.0,
      once_more xs job once.1 first.1,
    )
  where
    neither : (a b : Bool) → (a || b) ≡ false → (a ≡ false) × (b ≡ false)
    neither true b h = absurd cc
    neither false b h = (refl, h)

pub once_without : (jobs : List InHand) (origin id : ℕ) → AreOnce jobs → AreOnce (without_held jobs origin id)
once_without [] origin id once = tt
once_without (x ∷ xs) origin id once = by_first (is_of x origin id) (once_without xs origin id once.1)
  where
    never : (b : Bool) → cond b false false ≡ false
    never true = refl
    never false = refl

    by_first : (b : Bool) → AreOnce (without_held xs origin id)
        → AreOnce (cond (not b) (x ∷ without_held xs origin id) (without_held xs origin id))
    by_first true rest = rest
    by_first false rest = (
      holds_without xs origin id x.origin x.id ∙ ap (λ b. cond (origin == x.origin && id == x.id) false b) once.0
          ∙ never (origin == x.origin && id == x.id),
      rest,
    )

pub held_at : (jobs : List InHand) (origin id at : ℕ) → at < length jobs → IsAt jobs origin id at → holds jobs origin id ≡ true
held_at [] origin id at less is = absurd (omega (arith, less))
held_at (x ∷ xs) origin id zero less is = let here = is x in
    let one : is_of x origin id ≡ true = grind (arith, nat_tests, here.0, here.1) in ap (λ b. b || holds xs origin id) one
held_at (x ∷ xs) origin id (suc at) less is = later (is_of x origin id) (held_at xs origin id at (omega (arith, less)) is)
  where
    later : (a : Bool) → holds xs origin id ≡ true → (a || holds xs origin id) ≡ true
    later true h = refl
    later false h = h

-- the job in its place is the one that is given up
pub without_at : (jobs : List InHand) (origin id at : ℕ) → AreOnce jobs → at < length jobs → IsAt jobs origin id at
    → without_held jobs origin id ≡ take at jobs ++ drop (at + 1) jobs
without_at [] origin id at once less is = absurd (omega (arith, less))
without_at (x ∷ xs) origin id zero once less is =
    let here = is x in
    let one : is_of x origin id ≡ true = grind (arith, nat_tests, here.0, here.1) in
    ap (λ b. cond (not b) (x ∷ without_held xs origin id) (without_held xs origin id)) one
    ∙ without_absent xs origin id (subst (λ o. holds xs o id ≡ false) here.0 (subst (λ i. holds xs x.origin i ≡ false) here.1 once.0))
without_at (x ∷ xs) origin id (suc at) once less is =
    let next : suc at + 1 ≡ suc (at + 1) = omega arith in
    let later = held_at xs origin id at (omega (arith, less)) is in
    ap (λ b. cond (not b) (x ∷ without_held xs origin id) (without_held xs origin id)) (other (is_of x origin id) refl later)
    ∙ ap (λ ys. x ∷ ys) (without_at xs origin id at once.1 (omega (arith, less)) is)
    ∙ ap (λ k. x ∷ (take at xs ++ drop k (x ∷ xs))) (sym next)
  where
    other : (b : Bool) → is_of x origin id ≡ b → holds xs origin id ≡ true → b ≡ false
    other false is h = refl
    other true is h = absurd (
        let there : holds xs x.origin x.id ≡ true = grind (arith, nat_tests, is, h) in
        let none = once.0 in cc)

-- none of the jobs in these places is the one
pub absent : (jobs : List InHand) (origin id : ℕ) → ((k : ℕ) (d : InHand) → k < length jobs
    → is_of (slice_index_or jobs k d) origin id ≡ false) → holds jobs origin id ≡ false
absent [] origin id none = refl
absent (x ∷ xs) origin id none =
    ap (λ b. b || holds xs origin id) (none zero x (omega arith))
    ∙ absent xs origin id (λ k d less. none (suc k) d (omega (arith, less)))

-- the jobs of a list without one, as those in hand
pub in_hand_without : (kept : List KeptJob) (origin id : ℕ)
    → in_hand (filter (λ (one : KeptJob). not (one.origin == origin && one.job.id == id)) kept) ≡ without_held (in_hand kept) origin id
in_hand_without [] origin id = refl
in_hand_without (x ∷ xs) origin id = one (not (is_of (in_hand_of x) origin id)) (in_hand_without xs origin id)
  where
    left : List KeptJob
    left = filter (λ (one : KeptJob). not (one.origin == origin && one.job.id == id)) xs

    one : (b : Bool) → in_hand left ≡ without_held (in_hand xs) origin id
        → in_hand (cond b (x ∷ left) left) ≡ cond b (in_hand_of x ∷ without_held (in_hand xs) origin id)
        (without_held (in_hand xs) origin id)
    one true rest = ap (λ ys. in_hand_of x ∷ ys) rest
    one false rest = rest

pub in_hand_left : (kept : List KeptJob) (at : ℕ) → in_hand (take at kept ++ drop (at + 1) kept) ≡ take at (in_hand kept) ++ drop (at + 1)
    (in_hand kept)
in_hand_left kept at =
    map-append in_hand_of (take at kept) (drop (at + 1) kept)
    ∙ ap (λ ys. ys ++ in_hand (drop (at + 1) kept)) (sym (take-map in_hand_of at kept))
    ∙ ap (λ ys. take at (in_hand kept) ++ ys) (sym (drop-map in_hand_of (at + 1) kept))
