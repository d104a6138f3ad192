-- How many digits a number has, and digits that were written behind a text.
use Rattle.std.proofs.Common.{◌≡◌, ◌<◌, ◌≤◌, ◌+◌, ◌/◌, ◌%◌, ◌^◌, ◌++◌, ◌∷◌, [], ℕ, zero, suc, List, length, take, drop, ap, sym, ◌∙◌, arith}
use Rattle.std.proofs.Math.Seq.{take-append_seam, take-append-add}
use Rattle.std.proofs.lemmas.List.{length-append, take-append-drop}
use Rattle.std.proofs.lemmas.Fmt.{decimal_digit, decimal_step}
use Rattle.std.specs.Prelude.{decimal}

-- a number below 10
pub one_digit : (n : ℕ) → n < 10 → length (decimal n) ≡ 1
one_digit n one = ap length (decimal_digit n one)

-- a number from 10 ^ k on, below the next power of 10
pub has_digits : (k n : ℕ) → 10 ^ k ≤ n → n < 10 ^ suc k → n < 2 ^ 64 → length (decimal n) ≡ suc k
has_digits zero n low high small = one_digit n (omega arith)
has_digits (suc k) n low high small =
    let tens : 10 ≤ n = omega (arith, positive k) in
    let before : length (decimal (n / 10)) ≡ suc k = has_digits k (n / 10) (omega arith) (omega arith) (omega arith) in
    ap length (decimal_step n tens small) ∙ length-append (decimal (n / 10)) ((48 + n % 10) ∷ []) ∙ omega (arith, before)
  where
    positive : (j : ℕ) → 0 < 10 ^ j
    positive zero = omega arith
    positive (suc j) = omega (arith, positive j)

-- what was written over a whole text
pub written_over : (n : ℕ) (now rest : List ℕ) → n ≡ length now → take n (now ++ rest) ≡ now
written_over n now rest all = ap (λ i. take i (now ++ rest)) all ∙ take-append_seam now rest

-- a text's bytes stay, digits stand behind them, and what is left of the room is cut off
pub cut_behind : (text room grown now digits : List ℕ) (start end : ℕ) → grown ≡ text ++ room → start ≡ length text
    → start + length digits ≡ end → take start now ≡ take start grown
    → drop start now ≡ digits ++ drop end grown → take end now ≡ text ++ digits
cut_behind text room grown now digits start end grows from to before behind =
    let front : take start now ≡ text = before ∙ ap (take start) grows ∙ ap (λ i. take i (text ++ room)) from
    ∙ take-append_seam text room in
    let whole : now ≡ text ++ (digits ++ drop end grown) =
    sym (take-append-drop start now) ∙ ap (λ l. l ++ drop start now) front ∙ ap (λ l. text ++ l) behind in
    let place : end ≡ length text + length digits = omega arith in
    ap (take end) whole ∙ ap (λ i. take i (text ++ (digits ++ drop end grown))) place
    ∙ take-append-add text (digits ++ drop end grown) (length digits)
    ∙ ap (λ l. text ++ l) (take-append_seam digits (drop end grown))
