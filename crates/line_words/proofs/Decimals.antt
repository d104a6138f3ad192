-- The number that digits spell, and the digits that spell a number.
use Rattle.std.proofs.Common.{◌≡◌, ◌≢◌, ℕ, ◌+◌, ◌-◌, ◌*◌, ◌/◌, ◌%◌, ◌^◌, ◌<◌, ◌≤◌, ◌==◌, ◌&&◌, nat_lt, nat_le, Bool, true, false, List, []}
use Rattle.std.proofs.Common.{◌∷◌, ◌++◌, length, get_or, if◌then◌else◌, Option, Some, None, refl, sym, ap, ◌∙◌, arith}
use Rattle.std.specs.Str.Parse.{AllDigits, digits_value, digits_value_after}
use Rattle.std.specs.Char.{digit_value}
use Rattle.std.specs.Fmt.{decimal}
use Rattle.std.proofs.lemmas.Str.{digit_value_digit}
use Rattle.std.proofs.lemmas.Str.Parse.{digit_from_value, numerals_by_value, tells_digits}
use Rattle.std.proofs.lemmas.Fmt.{decimal_is_IsNumeral, decimal_by_steps, decimal-digits_value}
use Rattle.std.proofs.lemmas.Bool.{and_parts}
use Rattle.std.proofs.lemmas.Bool.Decides.{nat_tests}
use Rattle.line_words.specs.Words.{number_of, value_from, with_digit, then_digits, is_digit}

-- a digit more, where it was taken
taken : (n c m : ℕ) → with_digit n c ≡ Some m → (digit_value c < 10) × (m ≡ n * 10 + digit_value c) × (m < 2 ^ 64)
taken n c m read = tested (is_digit c && nat_lt (n * 10 + (c - 48)) (2 ^ 64)) refl read
  where
    tested : (b : Bool) → (is_digit c && nat_lt (n * 10 + (c - 48)) (2 ^ 64)) ≡ b → (if b then Some (n * 10 + (c - 48)) else None) ≡ Some m
        → (digit_value c < 10) × (m ≡ n * 10 + digit_value c) × (m < 2 ^ 64)
    tested true both read =
        let tests = and_parts (is_digit c) (nat_lt (n * 10 + (c - 48)) (2 ^ 64)) both in
        let digit = and_parts (nat_le 48 c) (nat_lt c 58) tests.0 in
        let value : m ≡ n * 10 + (c - 48) = cc in
        let from : 48 ≤ c = grind (arith, nat_tests, digit.0) in
        let to : c ≤ 57 = grind (arith, nat_tests, digit.1) in
        let small : n * 10 + (c - 48) < 2 ^ 64 = grind (arith, nat_tests, tests.1) in
        let unit = digit_value_digit c (from, to) in
        (omega arith, omega arith, omega arith)
    tested false both read = absurd cc

-- digits that were read have the value that they write behind n
pub read_digits : (digits : List ℕ) (n m : ℕ) → n < 2 ^ 64 → value_from digits n ≡ Some m
    → AllDigits 10 digits × (digits_value_after 10 n digits ≡ m) × (m < 2 ^ 64)
read_digits [] n m small read = let same : n ≡ m = cc in (tt, same, omega arith)
read_digits (c ∷ digits) n m small read = step (with_digit n c) refl read (λ k below later. read_digits digits k m below later)
  where
    step : (o : Option ℕ) → with_digit n c ≡ o → then_digits (value_from digits) o ≡ Some m
        → ((k : ℕ) → k < 2 ^ 64 → value_from digits k ≡ Some m → AllDigits 10 digits × (digits_value_after 10 k digits ≡ m) × (m < 2 ^ 64))
        → AllDigits 10 (c ∷ digits) × (digits_value_after 10 n (c ∷ digits) ≡ m) × (m < 2 ^ 64)
    step None one read later = absurd cc
    step (Some k) one read later =
        let digit = taken n c k one in
        let rest = later k digit.2 read in
        ((digit.0, rest.0), ap (λ j. digits_value_after 10 j digits) (sym digit.1) ∙ rest.1, rest.2)

value_grows : (digits : List ℕ) (n : ℕ) → n ≤ digits_value_after 10 n digits
value_grows [] n = omega arith
value_grows (c ∷ digits) n = omega (arith, value_grows digits (n * 10 + digit_value c))

takes : (n c : ℕ) → digit_value c < 10 → n * 10 + digit_value c < 2 ^ 64 → with_digit n c ≡ Some (n * 10 + digit_value c)
takes n c digit small =
    let range = digit_from_value c digit in
    let unit = digit_value_digit c range in
    let same : c - 48 ≡ digit_value c = omega arith in
    tested (is_digit c) (nat_lt (n * 10 + (c - 48)) (2 ^ 64)) (grind (arith, nat_tests, range.0, range.1))
    (grind (arith, nat_tests, same, small)) same
  where
    tested : (b d : Bool) → b ≡ true → d ≡ true → c - 48 ≡ digit_value c
        → (if b && d then Some (n * 10 + (c - 48)) else None) ≡ Some (n * 10 + digit_value c)
    tested true true p q same = ap (λ k. Some (n * 10 + k)) same
    tested true false p q same = absurd cc
    tested false d p q same = absurd cc

-- digits are read where what they write behind n is below 2^64
pub reads_digits : (digits : List ℕ) (n : ℕ) → AllDigits 10 digits → digits_value_after 10 n digits < 2 ^ 64
    → value_from digits n ≡ Some (digits_value_after 10 n digits)
reads_digits [] n all small = refl
reads_digits (c ∷ digits) n all small =
    let one = takes n c all.0 (omega (arith, value_grows digits (n * 10 + digit_value c))) in
    ap (then_digits (value_from digits)) one ∙ reads_digits digits (n * 10 + digit_value c) all.1 small

-- the digits of a number begin with a zero where the number is zero
record IsWithoutZeros (n : ℕ) (digits : List ℕ) : Type 0 where
  pub some : 0 < length digits
  pub first : 0 < n → get_or digits 0 0 ≢ 48
  pub alone : n ≡ 0 → length digits ≡ 1

without_zeros : (n : ℕ) → n < 2 ^ 64 → IsWithoutZeros n (decimal n)
without_zeros n small = decimal_by_steps IsWithoutZeros digit more n small
  where
    digit : (m : ℕ) → m < 10 → IsWithoutZeros m ((48 + m) ∷ [])
    digit m below = record { some = omega arith; first = λ positive zero. omega arith; alone = λ zero. refl }

    more : (m : ℕ) (digits : List ℕ) → 10 ≤ m → IsWithoutZeros (m / 10) digits → IsWithoutZeros m (digits ++ (48 + m % 10) ∷ [])
    more m [] tens before = let none : 0 < 0 = before.some in absurd (omega arith)
    more m (c ∷ digits) tens before = record {
      some = omega arith;
      first = λ positive. before.first (omega arith);
      alone =
          λ zero. absurd (omega arith);
    }

pub spelled : (n : ℕ) → n < 2 ^ 64 → number_of (decimal n) ≡ Some n
spelled n small =
    let numeral = decimal_is_IsNumeral n small in
    word (decimal n) (without_zeros n small) numeral.0.1 numeral.1
  where
    word : (digits : List ℕ) → IsWithoutZeros n digits → AllDigits 10 digits → digits_value 10 digits ≡ n → number_of digits ≡ Some n
    word [] zeros all value = let none : 0 < 0 = zeros.some in absurd (omega arith)
    word (c ∷ []) zeros all value = grind (arith, nat_tests, reads_digits (c ∷ []) 0 all (omega (arith, value)), value)
    word (c ∷ d ∷ rest) zeros all value = grind (
      arith,
      nat_tests,
      reads_digits (c ∷ d ∷ rest) 0 all (omega (arith, value)),
      value,
      zeros.first,
      zeros.alone,
    )

pub only : (word : List ℕ) (n : ℕ) → number_of word ≡ Some n → (word ≡ decimal n) × (n < 2 ^ 64)
only [] n read = absurd cc
only (c ∷ rest) n read = tested (c == 48 && nat_lt 0 (length rest)) refl read
  where
    tested : (b : Bool) → (c == 48 && nat_lt 0 (length rest)) ≡ b → (if b then None else value_from (c ∷ rest) 0) ≡ Some n
        → (c ∷ rest ≡ decimal n) × (n < 2 ^ 64)
    tested true lead read = absurd cc
    tested false lead read =
        let digits = read_digits (c ∷ rest) 0 n (omega arith) read in
        let front : c ≡ 48 → length (c ∷ rest) ≡ 1 = λ zero. grind (arith, nat_tests, lead, zero) in
        let spells = decimal-digits_value (numerals_by_value (AllDigits 10) tells_digits)
        (c ∷ rest) digits.0 (omega arith) front (omega (arith, digits.1)) in
        (sym spells ∙ ap decimal digits.1, digits.2)
