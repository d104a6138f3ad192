-- Items beside a gap: how many there are, and what is left where one is taken out.
use Rattle.std.proofs.Common.{◌≡◌, ℕ, zero, suc, refl, ◌+◌, ◌-◌, ◌<◌, ◌≤◌, List, [], ◌∷◌, ◌++◌, length, take, drop, ◌∙◌, sym, ap, arith}
use Rattle.std.specs.List.{copy_within}
use Rattle.std.specs.Prelude.{slice_get}
use Rattle.std.proofs.Math.Seq.{take-append-add, drop-append-add}
use Rattle.std.proofs.lemmas.List.{append_assoc, length-append, length-take-le, length-drop, take-append-le, drop-append-le}
use Rattle.std.proofs.lemmas.List.{take-take, drop-take, drop-drop, take_at, drop_at}
use Rattle.std.proofs.lemmas.Slice.{drop-append-drop}
use Rattle.job_model.specs.Gaps.{beside, IsWithin}
use Rattle.job_model.specs.declared.gap.Gap.{Gap}
use Rattle.job_model.proofs.Places.{moved_down}

pub length_beside : {A : Type 0} (gap : Gap) (xs : List A) → IsWithin gap (length xs)
    → length (beside gap xs) + gap.behind ≡ length xs + gap.before
length_beside gap xs w = omega (
  arith,
  length-append (take gap.before xs) (drop gap.behind xs),
  length-take-le gap.before xs (omega (arith, w.order, w.behind)),
  length-drop gap.behind xs,
  w.order,
  w.behind,
)

pub beside_more : {A : Type 0} (gap : Gap) (xs : List A) (x : A) → IsWithin gap (length xs)
    → beside gap (xs ++ x ∷ []) ≡ beside gap xs ++ x ∷ []
beside_more gap xs x w =
    ap (λ l. l ++ drop gap.behind (xs ++ x ∷ [])) (take-append-le gap.before xs (x ∷ []) (omega (arith, w.order, w.behind)))
    ∙ ap (λ l. take gap.before xs ++ l) (drop-append-le gap.behind xs (x ∷ []) w.behind)
    ∙ sym (append_assoc (take gap.before xs) (drop gap.behind xs) (x ∷ []))

-- what stands before and behind a place that is behind the gap
taken : {A : Type 0} (xs : List A) (before behind n : ℕ) → before ≤ length xs
    → take (before + n) (take before xs ++ drop behind xs) ≡ take before xs ++ take n (drop behind xs)
taken xs before behind n within =
    ap (λ k. take (k + n) (take before xs ++ drop behind xs)) (sym (length-take-le before xs within))
    ∙ take-append-add (take before xs) (drop behind xs) n

dropped : {A : Type 0} (xs : List A) (before behind n : ℕ) → before ≤ length xs
    → drop (before + n) (take before xs ++ drop behind xs) ≡ drop n (drop behind xs)
dropped xs before behind n within =
    ap (λ k. drop (k + n) (take before xs ++ drop behind xs)) (sym (length-take-le before xs within))
    ∙ drop-append-add (take before xs) (drop behind xs) n

-- the items between the place and the gap have moved behind the gap
pub taken_before : {A : Type 0} (xs : List A) (before behind place to : ℕ) → place < before → before ≤ behind → behind ≤ length xs
    → to ≡ behind - (before - (place + 1))
    → take place (copy_within xs (place + 1) before to) ++ drop to (copy_within xs (place + 1) before to)
    ≡ take place (take before xs ++ drop behind xs) ++ drop (place + 1) (take before xs ++ drop behind xs)
taken_before xs before behind place to less order within is =
    let from = place + 1 in
    let n = before - from in
    let moved = take n (drop from xs) ++ drop (to + n) xs in
    let long : length (take to xs) ≡ to = length-take-le to xs (omega (arith, is, less, order, within)) in
    let first : length (take before xs) ≡ before = length-take-le before xs (omega (arith, order, within)) in
    let far : to + n ≡ behind = omega (arith, is, less, order) in
    let parts : from + n ≡ before = omega (arith, less) in
    ap (λ new. take place new ++ drop to new) (append_assoc (take to xs) (take n (drop from xs)) (drop (to + n) xs))
    ∙ ap (λ l. l ++ drop to (take to xs ++ moved)) (take-append-le place (take to xs) moved (omega (arith, long, is, less, order))
    ∙ take-take place to xs (omega (arith, is, less, order))
    ∙ sym (take-append-le place (take before xs) (drop behind xs) (omega (arith, first, less))
    ∙ take-take place before xs (omega (arith, less))))
    ∙ ap (λ l. take place (take before xs ++ drop behind xs) ++ l) (drop_at (take to xs) moved to long
    ∙ ap (λ k. take n (drop from xs) ++ drop k xs) far
    ∙ ap (λ l. l ++ drop behind xs) (sym (drop-take from n xs) ∙ ap (λ k. drop from (take k xs)) parts)
    ∙ sym (drop-append-le from (take before xs) (drop behind xs) (omega (arith, first, less))))

-- the items behind the place have moved to it
pub taken_behind : {A : Type 0} (xs : List A) (before behind place between : ℕ) → before ≤ behind → behind + between < length xs
    → place ≡ before + between
    → take before (take (behind + between) xs ++ drop (behind + between + 1) xs)
    ++ drop behind (take (behind + between) xs ++ drop (behind + between + 1) xs)
    ≡ take place (take before xs ++ drop behind xs) ++ drop (place + 1) (take before xs ++ drop behind xs)
taken_behind xs before behind place between order within is =
    let at = behind + between in
    let L = take before xs ++ drop behind xs in
    let there : before ≤ length xs = omega (arith, order, within) in
    let long : length (take at xs) ≡ at = length-take-le at xs (omega (arith, within)) in
    let next : before + (between + 1) ≡ place + 1 = omega (arith, is) in
    ap (λ l. l ++ drop behind (take at xs ++ drop (at + 1) xs))
    (take-append-le before (take at xs) (drop (at + 1) xs) (omega (arith, long, order))
    ∙ take-take before at xs (omega (arith, order)))
    ∙ ap (λ l. take before xs ++ l) (moved_down xs behind between within)
    ∙ sym (append_assoc (take before xs) (take between (drop behind xs)) (drop (between + 1) (drop behind xs)))
    ∙ ap (λ l. l ++ drop (between + 1) (drop behind xs)) (sym (taken xs before behind between there) ∙ ap (λ k. take k L) (sym is))
    ∙ ap (λ l. take place L ++ l) (sym (dropped xs before behind (between + 1) there) ∙ ap (λ k. drop k L) next)

-- the items between the gap and the place have moved before the gap
pub taken_after : {A : Type 0} (xs : List A) (before behind place between : ℕ) → before ≤ behind → behind + between < length xs
    → place ≡ before + between
    → take place (copy_within xs behind (behind + between) before) ++ drop (behind + between + 1)
    (copy_within xs behind (behind + between) before)
    ≡ take place (take before xs ++ drop behind xs) ++ drop (place + 1) (take before xs ++ drop behind xs)
taken_after xs before behind place between order within is =
    let at = behind + between in
    let L = take before xs ++ drop behind xs in
    let T = take before xs in
    let A = take between (drop behind xs) in
    let there : before ≤ length xs = omega (arith, order, within) in
    let front : length T ≡ before = length-take-le before xs there in
    let middle : length A ≡ between = length-take-le between (drop behind xs) (omega (arith, within, length-drop behind xs)) in
    let count : at - behind ≡ between = omega arith in
    let long : length (T ++ A) ≡ place = omega (arith, length-append T A, front, middle, is) in
    let next : before + (between + 1) ≡ place + 1 = omega (arith, is) in
    let far : behind + (between + 1) ≡ at + 1 = omega arith in
    let new_is : copy_within xs behind at before ≡ (T ++ A) ++ drop place xs =
    ap (λ k. (T ++ take k (drop behind xs)) ++ drop (before + k) xs) count
    ∙ ap (λ k. (T ++ A) ++ drop k xs) (sym is) in
    ap (λ new. take place new ++ drop (at + 1) new) new_is
    ∙ ap (λ l. l ++ drop (at + 1) ((T ++ A) ++ drop place xs)) (take_at (T ++ A) (drop place xs) place long
    ∙ sym (taken xs before behind between there) ∙ ap (λ k. take k L) (sym is))
    ∙ ap (λ l. take place L ++ l) (drop-append-drop place xs (T ++ A) (at + 1) (omega (arith, is, order)) long
    ∙ ap (λ k. drop k xs) (sym far) ∙ sym (drop-drop (between + 1) behind xs)
    ∙ sym (dropped xs before behind (between + 1) there) ∙ ap (λ k. drop k L) next)

pub item_before : {A : Type 0} (xs ys : List A) (i : ℕ) → i < length xs → slice_get (xs ++ ys) i ≡ slice_get xs i
item_before [] ys i less = absurd (omega (arith, less))
item_before (x ∷ xs) ys zero less = refl
item_before (x ∷ xs) ys (suc i) less = item_before xs ys i (omega (arith, less))

pub item_behind : {A : Type 0} (xs ys : List A) (i : ℕ) → length xs ≤ i → slice_get (xs ++ ys) i ≡ slice_get ys (i - length xs)
item_behind [] ys i le = let same : i ≡ i - 0 = omega arith in ap (λ k. slice_get ys k) same
item_behind (x ∷ xs) ys zero le = absurd (omega (arith, le))
item_behind (x ∷ xs) ys (suc i) le =
    let same : i - length xs ≡ suc i - suc (length xs) = omega arith in
    item_behind xs ys i (omega (arith, le)) ∙ ap (λ k. slice_get ys k) same

pub no_items : {A : Type 0} (xs : List A) → length xs ≡ 0 → xs ≡ []
no_items [] none = refl
no_items (x ∷ xs) none = absurd (omega (arith, none))
