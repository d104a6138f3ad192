-- A set of ids in one word of bits.
use Rattle.std.specs.Prelude.{ℕ, zero, suc, ◌+◌, ◌/◌, ◌%◌, ◌^◌, List, [], ◌∷◌, if◌then◌else◌, ◌==◌}
use Rattle.std.proofs.Common.{◌≡◌, ◌*◌, ◌<◌, ap, ◌∙◌, arith, cond, eqb, Bool, true, false, refl}
use Rattle.std.proofs.lemmas.Bool.{eqb-true, eqb-false}
use Rattle.std.proofs.lemmas.Nat.{pow-add}
use Rattle.std.proofs.Math.Nat.{pow-suc}
use Rattle.group_task.specs.declared.node.TheConstants.{NODES}

-- the places of the bits that are set among the first n of a word, counted from low
abbrev pub ids_from : ℕ → ℕ → ℕ → List ℕ
ids_from zero low word = []
ids_from (suc n) low word = if word % 2 == 1 then low ∷ ids_from n (low + 1) (word / 2) else ids_from n (low + 1) (word / 2)

-- the set that a word stands for
unfoldable pub ids_of : ℕ → List ℕ
ids_of word = ids_from NODES 0 word

-- the word with these bits
abbrev pub word_of : List ℕ → ℕ
word_of [] = 0
word_of (x ∷ xs) = 2 ^ x + word_of xs

-- ---- the word of the set of a word is that word

odd_word : (p w : ℕ) → w % 2 ≡ 1 → p + p * 2 * (w / 2) ≡ p * w
odd_word p w odd = let e : w ≡ 2 * (w / 2) + 1 = omega arith in omega (arith, ap (λ x. p * x) e)

even_word : (p w : ℕ) → (w % 2 ≡ 1 → ⊥) → p * 2 * (w / 2) ≡ p * w
even_word p w even = let e : w ≡ 2 * (w / 2) = omega arith in omega (arith, ap (λ x. p * x) e)

of_either : (n : ℕ) (b : Bool) (xs ys : List ℕ) → (b ≡ true → word_of xs ≡ n) → (b ≡ false → word_of ys ≡ n) → word_of (cond b xs ys) ≡ n
of_either n true xs ys f g = f refl
of_either n false xs ys f g = g refl

word_of-ids_from : (n low w : ℕ) → w < 2 ^ n → word_of (ids_from n low w) ≡ 2 ^ low * w
word_of-ids_from zero low w lt = let e : w ≡ 0 = omega arith in rw e (omega arith)
word_of-ids_from (suc n) low w lt =
    let half : w / 2 < 2 ^ n = omega (arith, pow-suc 2 n) in
    let ih : word_of (ids_from n (low + 1) (w / 2)) ≡ 2 ^ low * 2 * (w / 2) = word_of-ids_from n (low + 1) (w / 2) half
    ∙ ap (λ x. x * (w / 2)) (pow-add 2 low 1) in
    of_either (2 ^ low * w) (eqb (w % 2) 1) (low ∷ ids_from n (low + 1) (w / 2)) (ids_from n (low + 1) (w / 2))
    (λ e. ap (λ x. 2 ^ low + x) ih ∙ odd_word (2 ^ low) w (eqb-true (w % 2) 1 e))
    (λ e. ih ∙ even_word (2 ^ low) w (eqb-false (w % 2) 1 e))

pub word_of-ids_of : (w : ℕ) → w < 2 ^ NODES → word_of (ids_of w) ≡ w
unfolding ids_of
word_of-ids_of w lt = word_of-ids_from NODES 0 w lt ∙ omega arith
