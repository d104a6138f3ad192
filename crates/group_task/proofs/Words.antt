-- Words of bits and rising lists stand for each other.
use Rattle.std.proofs.Common.{◌≡◌, ℕ, zero, suc, ◌+◌, ◌-◌, ◌*◌, ◌/◌, ◌%◌, ◌^◌, ◌<◌, ◌≤◌, true, false, cond, eqb, ltb, ◌||◌, List, [], ◌∷◌}
use Rattle.std.proofs.Common.{◌++◌, length, not, refl, sym, ap, ◌∙◌, subst, arith, inl, inr}
use Rattle.std.specs.Int.{bit_at, bit_not, w128, trailing_zeros}
use Rattle.std.specs.Int.Bits.{bit_and, bit_or}
use Rattle.std.specs.Int.Count.{ones, count_trailing_zeros}
use Rattle.std.specs.Prelude.{Option, Some, None, IfSome, IsNone, MatchOption, ◌↔◌, nat_eq}
use Rattle.std.specs.Cmp.Lexicographic.{pointwise}
use Rattle.std.proofs.lemmas.Cmp.{nat_list_eq_equiv}
use Rattle.std.proofs.lemmas.Bool.{false≢true, ne_eqb, cond_both, and_parts, false_from_ne_true, cases_eq, cases_lt, cases_order, eq-eqb}
use Rattle.std.proofs.lemmas.Bool.{eqb-false, eqb-true, ltb-true, ltb-false}
use Rattle.std.proofs.lemmas.Bool.Decides.{nat_tests}
use Rattle.std.proofs.lemmas.Nat.{or_lt, pow_pos, ones_cat}
use Rattle.std.proofs.lemmas.Nat.Bits.{bit_at_and, bit_at_or, bit_at-lt, bit_at_lowest, bit_at-suc, shr_and_one, bit_at-trailing_zeros}
use Rattle.std.proofs.lemmas.Nat.Bits.{bit_at_set_same, bit_at_set_other, bit_at_clear_same, bit_at_clear_other}
use Rattle.std.proofs.Math.Nat.{div-div-eq-div-mul, pow-suc, div-eq_of_lt}
use Rattle.group_task.specs.declared.node.TheConstants.{NODES}
use Rattle.group_task.specs.Bits.{ids_from, ids_of, word_of, word_of-ids_of}
use Rattle.group_task.specs.Ids.{has, RisesWithin, IsSet, with_id, with_all, without_id, either_of, are_below}

-- ---- the list rises

RisesWithin-lower : (low high limit : ℕ) (xs : List ℕ) → low ≤ high → RisesWithin high limit xs → RisesWithin low limit xs
RisesWithin-lower low high limit [] le r = tt
RisesWithin-lower low high limit (x ∷ xs) le r = (omega (arith, r.0), r.1, r.2)

RisesWithin-ids_from : (n low limit w : ℕ) → low + n ≡ limit → RisesWithin low limit (ids_from n low w)
RisesWithin-ids_from zero low limit w e = tt
RisesWithin-ids_from (suc n) low limit w e =
    let rest = ids_from n (low + 1) (w / 2) in
    let ih = RisesWithin-ids_from n (low + 1) limit (w / 2) (omega arith) in
    cond_both (eqb (w % 2) 1) (low ∷ rest) rest (RisesWithin low limit) (λ _. (omega arith, omega arith, ih))
    (λ _. RisesWithin-lower low (low + 1) limit rest (omega arith) ih)

pub IsSet-ids_of : (w : ℕ) → IsSet (ids_of w)
unfolding ids_of
IsSet-ids_of w = RisesWithin-ids_from NODES 0 NODES w refl

-- ---- which bits are set

pub has_below : (i low limit : ℕ) (xs : List ℕ) → i < low → RisesWithin low limit xs → has xs i ≡ false
has_below i low limit [] lt r = refl
has_below i low limit (x ∷ xs) lt r =
    elim (cases_eq i x) [
      | inl same ↦ absurd (omega (arith, r.0))
      | inr other ↦ grind (arith, nat_tests, has_below i (x + 1) limit xs (omega (arith, r.0)) r.2)
    ]

has_first : (x : ℕ) (xs : List ℕ) → has (x ∷ xs) x ≡ true
has_first x xs = grind (arith, nat_tests)

has_other : (i x : ℕ) (xs : List ℕ) → (i ≡ x → ⊥) → has (x ∷ xs) i ≡ has xs i
has_other i x xs ne = grind (arith, nat_tests)

has-ids_from : (n low i j w : ℕ) → j ≡ low + i → i < n → has (ids_from n low w) j ≡ eqb (bit_at w i) 1
has-ids_from zero low i j w e lt = absurd (omega arith)
has-ids_from (suc n) low zero j w e lt =
    let none = has_below j (low + 1) (low + 1 + n) (ids_from n (low + 1) (w / 2)) (omega arith)
    (RisesWithin-ids_from n (low + 1) (low + 1 + n) (w / 2) refl) in
    grind (arith, nat_tests, none, bit_at_lowest w)
has-ids_from (suc n) low (suc i) j w e lt = grind (
  arith,
  nat_tests,
  has-ids_from n (low + 1) i j (w / 2) (omega arith) (omega arith),
  bit_at-suc w i,
)

has-ids_of : (i w : ℕ) → i < NODES → has (ids_of w) i ≡ eqb (bit_at w i) 1
unfolding ids_of
has-ids_of i w lt = has-ids_from NODES 0 i i w (omega arith) lt

has_past : (i low limit : ℕ) (xs : List ℕ) → limit ≤ i → RisesWithin low limit xs → has xs i ≡ false
has_past i low limit [] le r = refl
has_past i low limit (x ∷ xs) le r = has_other i x xs (λ e. omega (arith, e, r.1)) ∙ has_past i (x + 1) limit xs le r.2

-- ---- rising lists with the same members are one

same_rest : (low limit x y : ℕ) (xs ys : List ℕ) → x ≡ y → RisesWithin (x + 1) limit xs → RisesWithin (y + 1) limit ys
    → ((i : ℕ) → has (x ∷ xs) i ≡ has (y ∷ ys) i) → (i : ℕ) → has xs i ≡ has ys i
same_rest low limit x y xs ys e r s same i =
    elim (cases_lt x i) [
      | inl lt ↦ sym (has_other i x xs (omega arith)) ∙ same i ∙ has_other i y ys (omega arith)
      | inr le ↦ has_below i (x + 1) limit xs (omega arith) r ∙ sym (has_below i (y + 1) limit ys (omega arith) s)
    ]

pub same_rising : (low limit : ℕ) (xs ys : List ℕ) → RisesWithin low limit xs → RisesWithin low limit ys → ((i : ℕ) → has xs i ≡ has ys i)
    → xs ≡ ys
same_rising low limit [] [] r s same = refl
same_rising low limit [] (y ∷ ys) r s same = absurd (false≢true (same y ∙ has_first y ys))
same_rising low limit (x ∷ xs) [] r s same = absurd (false≢true (sym (same x) ∙ has_first x xs))
same_rising low limit (x ∷ xs) (y ∷ ys) r s same = elim (cases_order x y) [
  | inr (inl lt) ↦ absurd (false≢true (sym (has_below x y limit (y ∷ ys) lt (omega arith, s.1, s.2)) ∙ sym (same x) ∙ has_first x xs))
  | inl e ↦
      let rest : xs ≡ ys = same_rising (x + 1) limit xs ys r.2 (subst (λ k. RisesWithin (k + 1) limit ys) (sym e) s.2)
      (same_rest low limit x y xs ys e r.2 s.2 same) in
      cc
  | inr (inr gt) ↦ absurd (false≢true (sym (has_below y x limit (x ∷ xs) gt (omega arith, r.1, r.2)) ∙ same y ∙ has_first y ys))
]

-- the list of the members of a word that stands for a rising list
by_bits : (w : ℕ) (xs : List ℕ) → IsSet xs → ((i : ℕ) → i < NODES → eqb (bit_at w i) 1 ≡ has xs i) → ids_of w ≡ xs
by_bits w xs r bits = same_rising 0 NODES (ids_of w) xs (IsSet-ids_of w) r (λ i. elim (cases_lt i NODES) [
  | inl inside ↦ has-ids_of i w inside ∙ bits i inside
  | inr past ↦ has_past i 0 NODES (ids_of w) past (IsSet-ids_of w) ∙ sym (has_past i 0 NODES xs past r)
])

-- ---- what the methods compute

no_members : (w : ℕ) → w < 2 ^ NODES → ids_of w ≡ [] → w ≡ 0
no_members w lt e = sym (word_of-ids_of w lt) ∙ ap word_of e

-- the lowest bit that is set is the first member
at_head : (w x : ℕ) (rest : List ℕ) → w < 2 ^ NODES → ids_of w ≡ x ∷ rest → (trailing_zeros w128 w < NODES) × (trailing_zeros w128 w ≡ x)
at_head w x rest lt e =
    let t = trailing_zeros w128 w in
    let lowest = bit_at-trailing_zeros w128 w (omega (arith, word_of-ids_of w lt, ap word_of e, pow_pos x)) lt in
    let r : RisesWithin 0 NODES (x ∷ rest) = subst IsSet e (IsSet-ids_of w) in
    let bit = λ (i : ℕ) (within : i < NODES). ap (λ ids. has ids i) (sym e) ∙ has-ids_of i w within in (
      lowest.0,
      elim (cases_order t x) [
        | inl same ↦ same
        | inr (inl below) ↦ absurd (false≢true (sym (has_below t x NODES (x ∷ rest) below (omega arith, r.1, r.2)) ∙ bit t lowest.0
            ∙ ap (λ k. eqb k 1) lowest.1))
        | inr (inr past) ↦ absurd (false≢true (ap (λ k. eqb k 1) (sym (lowest.2 x past)) ∙ sym (bit x r.1) ∙ has_first x rest))
      ],
    )

pub has-with_id : (i j : ℕ) (xs : List ℕ) → has (with_id xs i) j ≡ (eqb j i || has xs j)
has-with_id i j [] = refl
has-with_id i j (x ∷ xs) = grind (arith, nat_tests, has-with_id i j xs)

pub RisesWithin-with_id : (i low limit : ℕ) (xs : List ℕ) → low ≤ i → i < limit → RisesWithin low limit xs
    → RisesWithin low limit (with_id xs i)
RisesWithin-with_id i low limit [] le lt r = (le, lt, tt)
RisesWithin-with_id i low limit (x ∷ xs) le lt r =
    cond_both (ltb i x) (i ∷ x ∷ xs) (cond (eqb i x) (x ∷ xs) (x ∷ with_id xs i)) (RisesWithin low limit)
    (λ below. (le, lt, (omega (arith, ltb-true i x below), r.1, r.2)))
    (λ above. cond_both (eqb i x) (x ∷ xs) (x ∷ with_id xs i) (RisesWithin low limit) (λ _. r)
    (λ other. (r.0, r.1, RisesWithin-with_id i (x + 1) limit xs (omega (arith, ltb-false i x above, eqb-false i x other)) lt r.2)))

pub has-without_id : (i j : ℕ) (xs : List ℕ) → has (without_id xs i) j ≡ (cond (eqb j i) false (has xs j))
has-without_id i j [] = elim (eqb j i) as (λ b. false ≡ cond b false false) [ true ↦ refl | false ↦ refl ]
has-without_id i j (x ∷ xs) = grind (arith, nat_tests, has-without_id i j xs)

RisesWithin-without_id : (i low limit : ℕ) (xs : List ℕ) → RisesWithin low limit xs → RisesWithin low limit (without_id xs i)
RisesWithin-without_id i low limit [] r = tt
RisesWithin-without_id i low limit (x ∷ xs) r =
    cond_both (not (eqb x i)) (x ∷ without_id xs i) (without_id xs i) (RisesWithin low limit)
    (λ _. (r.0, r.1, RisesWithin-without_id i (x + 1) limit xs r.2))
    (λ _. RisesWithin-lower low (x + 1) limit (without_id xs i) (omega (arith, r.0)) (RisesWithin-without_id i (x + 1) limit xs r.2))

length-ids_from : (n low w : ℕ) → w < 2 ^ n → length (ids_from n low w) ≡ ones w
unfolding ones
length-ids_from zero low w lt = let e : w ≡ 0 = omega arith in rw e refl
length-ids_from (suc n) low w lt =
    let rest = ids_from n (low + 1) (w / 2) in
    let ih = length-ids_from n (low + 1) (w / 2) (omega (arith, pow-suc 2 n)) in
    let parts : w ≡ w / 2 * 2 ^ 1 + w % 2 = omega arith in
    let sum : ones w ≡ ones (w / 2) + ones (w % 2) = ap ones parts ∙ ones_cat 1 (w / 2) (w % 2) (omega arith) in
    cond_both (eqb (w % 2) 1) (low ∷ rest) rest (λ xs. length xs ≡ ones w)
    (λ e. let odd : ones (w % 2) ≡ 1 = ap ones (eqb-true (w % 2) 1 e) in omega arith)
    (λ e. let low_bit : w % 2 ≡ 0 = omega (arith, eqb-false (w % 2) 1 e) in let even : ones (w % 2) ≡ 0 = ap ones low_bit in omega arith)

-- ---- the same, over the list that a word stands for

pub contains_word : (w i : ℕ) (xs : List ℕ) → i < NODES → ids_of w ≡ xs → eqb (bit_and (w / 2 ^ i) 1) 1 ≡ has xs i
contains_word w i xs lt e = ap (λ k. eqb k 1) (shr_and_one w i) ∙ sym (has-ids_of i w lt) ∙ ap (λ ids. has ids i) e

pub or_fits : (w v : ℕ) → w < 2 ^ NODES → v < 2 ^ NODES → bit_or w v < 2 ^ NODES
or_fits w v l m = or_lt NODES w v l m

pub insert_word : (w i : ℕ) (xs : List ℕ) → i < NODES → ids_of w ≡ xs → ids_of (bit_or w (1 * 2 ^ i % 2 ^ NODES)) ≡ with_id xs i
insert_word w i xs within e =
    by_bits (bit_or w (1 * 2 ^ i % 2 ^ NODES)) (with_id (ids_of w) i)
    (RisesWithin-with_id i 0 NODES (ids_of w) (omega arith) within (IsSet-ids_of w))
    (λ j inside. grind (
      arith,
      nat_tests,
      has-with_id i j (ids_of w),
      has-ids_of j w inside,
      bit_at_set_same w128 w i within,
      bit_at_set_other w128 w i within j,
    ))
    ∙ ap (λ ids. with_id ids i) e

pub remove_word : (w i : ℕ) (xs : List ℕ) → i < NODES → ids_of w ≡ xs
    → ids_of (bit_and w (bit_not w128 (1 * 2 ^ i % 2 ^ NODES))) ≡ without_id xs i
remove_word w i xs within e =
    by_bits (bit_and w (bit_not w128 (1 * 2 ^ i % 2 ^ NODES))) (without_id (ids_of w) i)
    (RisesWithin-without_id i 0 NODES (ids_of w) (IsSet-ids_of w))
    (λ j inside. grind (
      arith,
      nat_tests,
      has-without_id i j (ids_of w),
      has-ids_of j w inside,
      bit_at_clear_same w128 w i within,
      bit_at_clear_other w128 w i within j inside,
    ))
    ∙ ap (λ ids. without_id ids i) e

-- the number before one whose lowest bit is at t has none there, and the same bits above
below_it : (t w : ℕ) → bit_at w t ≡ 1 → ((j : ℕ) → j < t → bit_at w j ≡ 0) → bit_at (w - 1) t ≡ 0
below_it zero w one none = grind (arith, bit_at_lowest w, bit_at_lowest (w - 1))
below_it (suc t) w one none =
    let even : w % 2 ≡ 0 = sym (bit_at_lowest w) ∙ none 0 (omega arith) in
    let half : (w - 1) / 2 ≡ w / 2 - 1 = grind (arith) in
    bit_at-suc (w - 1) t ∙ ap (λ n. bit_at n t) half ∙ below_it t (w / 2) (sym (bit_at-suc w t) ∙ one)
    (λ j lt. sym (bit_at-suc w j) ∙ none (suc j) (omega arith))

above_it : (t w i : ℕ) → bit_at w t ≡ 1 → ((j : ℕ) → j < t → bit_at w j ≡ 0) → t < i → bit_at (w - 1) i ≡ bit_at w i
above_it t w zero one none lt = absurd (omega arith)
above_it zero w (suc i) one none lt =
    let odd : w % 2 ≡ 1 = sym (bit_at_lowest w) ∙ one in
    let half : (w - 1) / 2 ≡ w / 2 = grind (arith) in
    bit_at-suc (w - 1) i ∙ ap (λ n. bit_at n i) half ∙ sym (bit_at-suc w i)
above_it (suc t) w (suc i) one none lt =
    let even : w % 2 ≡ 0 = sym (bit_at_lowest w) ∙ none 0 (omega arith) in
    let half : (w - 1) / 2 ≡ w / 2 - 1 = grind (arith) in
    bit_at-suc (w - 1) i ∙ ap (λ n. bit_at n i) half ∙ above_it t (w / 2) i (sym (bit_at-suc w t) ∙ one)
    (λ j below. sym (bit_at-suc w j) ∙ none (suc j) (omega arith)) (omega arith)
    ∙ sym (bit_at-suc w i)

-- so both together have all bits but the lowest
lowest_gone : (t w : ℕ) → bit_at w t ≡ 1 → ((j : ℕ) → j < t → bit_at w j ≡ 0) → bit_at (bit_and w (w - 1)) t ≡ 0
lowest_gone t w one none = grind (arith, bit_at_and w (w - 1) t, below_it t w one none)

others_stay : (t w i : ℕ) → bit_at w t ≡ 1 → ((j : ℕ) → j < t → bit_at w j ≡ 0) → (i ≡ t → ⊥) → bit_at (bit_and w (w - 1)) i ≡ bit_at w i
others_stay t w i one none other = elim (cases_order i t) [
  | inl same ↦ absurd (other same)
  | inr (inl below) ↦ grind (arith, bit_at_and w (w - 1) i, none i below)
  | inr (inr above) ↦ grind (arith, bit_at_and w (w - 1) i, above_it t w i one none above)
]

-- the word without its lowest bit is the set without its first member
pub pop_word : (w id : ℕ) (xs : List ℕ) → w < 2 ^ NODES → ids_of w ≡ xs → xs ≡ id ∷ without_id xs id
    → (0 < w) × (ids_of (bit_and w (w - 1)) ≡ without_id xs id)
pop_word w id xs lt e is =
    let head = at_head w id (without_id xs id) lt (e ∙ is) in
    let pos : 0 < w = omega (arith, word_of-ids_of w lt, ap word_of (e ∙ is), pow_pos id) in
    let t = trailing_zeros w128 w in
    let lowest = bit_at-trailing_zeros w128 w pos lt in (
      pos,
      by_bits (bit_and w (w - 1)) (without_id (ids_of w) t) (RisesWithin-without_id t 0 NODES (ids_of w) (IsSet-ids_of w))
          (λ j inside. grind (
            arith,
            nat_tests,
            has-without_id t j (ids_of w),
            has-ids_of j w inside,
            lowest_gone t w lowest.1 lowest.2,
            others_stay t w j lowest.1 lowest.2,
          ))
          ∙ ap (λ ids. without_id ids t) e ∙ ap (λ i. without_id xs i) head.1,
    )

pub set_word : (w : ℕ) (xs : List ℕ) → ids_of w ≡ xs → IsSet xs
set_word w xs e = subst IsSet e (IsSet-ids_of w)

pub length_word : (w : ℕ) (xs : List ℕ) → w < 2 ^ NODES → ids_of w ≡ xs → ones w ≡ length xs
unfolding ids_of
length_word w xs lt e = sym (length-ids_from NODES 0 w lt) ∙ ap (λ ys. length ys) e

without_absent : (i : ℕ) (xs : List ℕ) → has xs i ≡ false → without_id xs i ≡ xs
without_absent i [] e = refl
without_absent i (x ∷ xs) e = grind (arith, nat_tests, without_absent i xs)

without_first : (low limit x : ℕ) (xs : List ℕ) → RisesWithin low limit (x ∷ xs) → without_id (x ∷ xs) x ≡ xs
without_first low limit x xs r =
    let gone : not (eqb x x) ≡ false = grind (arith, nat_tests) in
    rw gone (without_absent x xs (has_below x (x + 1) limit xs (omega arith) r.2))

no_bits : trailing_zeros w128 0 ≡ NODES
unfolding count_trailing_zeros
no_bits = refl

pub first_result : (w : ℕ) (xs : List ℕ) (r : Option ℕ) → w < 2 ^ NODES → ids_of w ≡ xs → IfSome r (λ id. id ≡ trailing_zeros w128 w)
    → (IsNone r ↔ (NODES ≤ trailing_zeros w128 w)) → MatchOption r (xs ≡ []) (λ id. xs ≡ id ∷ without_id xs id)
first_result w [] None lt e value none = refl
first_result w [] (Some id) lt e value none =
    absurd (false≢true (sym (none.1 (omega (arith, ap (λ k. trailing_zeros w128 k) (no_members w lt e), no_bits)))))
first_result w (x ∷ rest) None lt e value none = absurd (omega (arith, none.0 refl, (at_head w x rest lt e).0))
first_result w (x ∷ rest) (Some id) lt e value none =
    subst (λ k. x ∷ rest ≡ k ∷ without_id (x ∷ rest) k) (sym (value ∙ (at_head w x rest lt e).1))
    (ap (λ ys. x ∷ ys) (sym (without_first 0 NODES x rest (subst IsSet e (IsSet-ids_of w)))))

pointwise_same : (xs ys : List ℕ) → pointwise nat_eq xs ys ≡ true → xs ≡ ys
pointwise_same [] [] h = refl
pointwise_same [] (y ∷ ys) h = absurd (false≢true h)
pointwise_same (x ∷ xs) [] h = absurd (false≢true h)
pointwise_same (x ∷ xs) (y ∷ ys) h =
    let both = and_parts (eqb x y) (pointwise nat_eq xs ys) h in
    let head : x ≡ y = eqb-true x y both.0 in
    let rest : xs ≡ ys = pointwise_same xs ys both.1 in
    cc

unequal_lists : (xs ys : List ℕ) → (xs ≡ ys → ⊥) → pointwise nat_eq xs ys ≡ false
unequal_lists xs ys ne = false_from_ne_true (pointwise nat_eq xs ys) (λ h. ne (pointwise_same xs ys h))

pub same_word : (w v : ℕ) (xs ys : List ℕ) → w < 2 ^ NODES → v < 2 ^ NODES → ids_of w ≡ xs → ids_of v ≡ ys
    → eqb w v ≡ pointwise nat_eq xs ys
same_word w v xs ys l m e f = elim (cases_eq w v) [
  | inl same ↦ eq-eqb w v same ∙ sym (ap (λ zs. pointwise nat_eq xs zs) (sym (sym e ∙ ap ids_of same ∙ f)) ∙ nat_list_eq_equiv.refl xs)
  | inr other ↦ ne_eqb w v other ∙ sym (unequal_lists xs ys (λ g. other (sym (word_of-ids_of w l) ∙ ap word_of (e ∙ g ∙ sym f)
      ∙ word_of-ids_of v m)))
]

-- ---- the ids of either set

pub has-either_of : (i : ℕ) (xs ys : List ℕ) → has (either_of xs ys) i ≡ (has xs i || has ys i)
has-either_of i [] ys = refl
has-either_of i (x ∷ xs) ys = grind (arith, nat_tests, has-with_id x i (either_of xs ys), has-either_of i xs ys)

RisesWithin-either_of : (low limit : ℕ) (xs ys : List ℕ) → RisesWithin low limit xs → RisesWithin low limit ys
    → RisesWithin low limit (either_of xs ys)
RisesWithin-either_of low limit [] ys r s = s
RisesWithin-either_of low limit (x ∷ xs) ys r s =
    RisesWithin-with_id x low limit (either_of xs ys) r.0 r.1
    (RisesWithin-either_of low limit xs ys (RisesWithin-lower low (x + 1) limit xs (omega (arith, r.0)) r.2) s)

pub either_word : (w v : ℕ) (xs ys : List ℕ) → ids_of w ≡ xs → ids_of v ≡ ys → ids_of (bit_or w v) ≡ either_of xs ys
either_word w v xs ys e f =
    by_bits (bit_or w v) (either_of (ids_of w) (ids_of v)) (RisesWithin-either_of 0 NODES (ids_of w) (ids_of v) (IsSet-ids_of w)
    (IsSet-ids_of v))
    (λ i inside. grind (
      arith,
      nat_tests,
      bit_at_or w v i,
      bit_at-lt w i,
      bit_at-lt v i,
      has-ids_of i w inside,
      has-ids_of i v inside,
      has-either_of i (ids_of w) (ids_of v),
    ))
    ∙ (λ i. either_of (e i) (f i))

-- ---- ids below a limit

none_under : (n low limit w : ℕ) → limit ≤ low → w < 2 ^ n → are_below limit (ids_from n low w) ≡ eqb w 0
none_under zero low limit w le lt = grind (arith, nat_tests)
none_under (suc n) low limit w le lt = grind (
  arith,
  nat_tests,
  none_under n (low + 1) limit (w / 2) (omega arith) (omega (arith, pow-suc 2 n)),
)

below_from : (n low k limit w : ℕ) → low + k ≡ limit → w < 2 ^ n → are_below limit (ids_from n low w) ≡ eqb (w / 2 ^ k) 0
below_from n low zero limit w e lt = none_under n low limit w (omega arith) lt ∙ ap (λ j. eqb j 0) (omega arith)
below_from zero low (suc k) limit w e lt = sym (eq-eqb (w / 2 ^ suc k) 0 (div-eq_of_lt (omega (arith, pow_pos (suc k)))))
below_from (suc n) low (suc k) limit w e lt =
    let halves : w / 2 / 2 ^ k ≡ w / 2 ^ suc k = div-div-eq-div-mul w 2 (2 ^ k) ∙ ap (λ m. w / m) (omega (arith, pow-suc 2 k)) in
    grind (arith, nat_tests, below_from n (low + 1) k limit (w / 2) (omega arith) (omega (arith, pow-suc 2 n)), halves)

pub below_word : (w limit : ℕ) (xs : List ℕ) → w < 2 ^ NODES → ids_of w ≡ xs → eqb (w / 2 ^ limit) 0 ≡ are_below limit xs
unfolding ids_of
below_word w limit xs lt e = sym (below_from NODES 0 limit limit w (omega arith) lt) ∙ ap (λ ids. are_below limit ids) e

-- ---- members at a place

pub length-rising : (low limit : ℕ) (xs : List ℕ) → low ≤ limit → RisesWithin low limit xs → low + length xs ≤ limit
length-rising low limit [] le r = omega arith
length-rising low limit (x ∷ xs) le r = omega (arith, length-rising (x + 1) limit xs (omega (arith, r.1)) r.2, r.0)

pub few_members : (xs : List ℕ) → IsSet xs → length xs ≤ NODES
few_members xs r = omega (arith, length-rising 0 NODES xs (omega arith) r)

-- ---- sets that are gathered

pub with_all_more : (ids : List ℕ) (xs : List ℕ) (id : ℕ) → with_all ids (xs ++ id ∷ []) ≡ with_id (with_all ids xs) id
with_all_more ids [] id = refl
with_all_more ids (x ∷ xs) id = with_all_more (with_id ids x) xs id
