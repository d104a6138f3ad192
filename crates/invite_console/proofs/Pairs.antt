-- Lines whose digits are decoded together.
use Rattle.std.proofs.Common.{◌≡◌, ℕ, ◌+◌, ◌*◌, ◌%◌, ◌==◌, ◌&&◌, Bool, true, false, if◌then◌else◌, List, [], ◌∷◌, ◌++◌, length, Option}
use Rattle.std.proofs.Common.{Some, None, Result, Ok, Err, refl, sym, ap, ap₂, ◌∙◌, append_assoc, append-nil, length-append, arith}
use Rattle.std.specs.Result.{result_ok}
use Rattle.std.proofs.lemmas.Bool.Decides.{nat_tests}
use Rattle.hex.specs.Hex.{decode_of, decode_pairs, digit_or_error, hex_digit_value, ◌>>=◌}
use Rattle.hex.specs.declared.error.FromHexError.{FromHexError}
use Rattle.hex.proofs.HexLemmas.{decode_of-even}
use Rattle.invite_console.specs.Lines.{all_bytes, hex_lines_from, joined, line_bytes, then_bytes}

-- ---- bytes behind bytes

pub nothing_before : (o : Option (List ℕ)) → then_bytes (Some []) o ≡ o
nothing_before None = refl
nothing_before (Some xs) = refl

pub nothing_behind : (o : Option (List ℕ)) → then_bytes o (Some []) ≡ o
nothing_behind None = refl
nothing_behind (Some xs) = ap Some (append-nil xs)

pub then_then : (a b c : Option (List ℕ)) → then_bytes (then_bytes a b) c ≡ then_bytes a (then_bytes b c)
then_then None b c = refl
then_then (Some xs) None c = refl
then_then (Some xs) (Some ys) None = refl
then_then (Some xs) (Some ys) (Some zs) = ap Some (append_assoc xs ys zs)

-- ---- the bytes of pairs of digits, wherever the pairs stand

abbrev pair_then : Option ℕ → Option ℕ → Option (List ℕ) → Option (List ℕ)
pair_then None low rest = None
pair_then (Some h) None rest = None
pair_then (Some h) (Some l) None = None
pair_then (Some h) (Some l) (Some bytes) = Some ((h * 16 + l) ∷ bytes)

abbrev pairs : List ℕ → Option (List ℕ)
pairs [] = Some []
pairs (digit ∷ []) = None
pairs (high ∷ low ∷ rest) = pair_then (hex_digit_value high) (hex_digit_value low) (pairs rest)

decoded : (i : ℕ) (digits : List ℕ) → result_ok (decode_pairs i digits) ≡ pairs digits
unfolding decode_pairs
decoded i [] = refl
decoded i (digit ∷ []) = refl
decoded i (high ∷ low ∷ rest) = step (hex_digit_value high) (hex_digit_value low) (decode_pairs (i + 2) rest) (decoded (i + 2) rest)
  where
    step : (a b : Option ℕ) (r : Result (List ℕ) FromHexError) → result_ok r ≡ pairs rest
        → result_ok ((digit_or_error high i a >>= (λ h. digit_or_error low (i + 1) b >>= (λ l. Ok (h * 16 + l)))) >>= (λ byte.
        r >>= (λ bytes. Ok (byte ∷ bytes)))) ≡ pair_then a b (pairs rest)
    step None b r is = refl
    step (Some h) None r is = refl
    step (Some h) (Some l) (Ok bytes) is = ap (pair_then (Some h) (Some l)) is
    step (Some h) (Some l) (Err e) is = ap (pair_then (Some h) (Some l)) is

joined_pairs : (front back : List ℕ) → length front % 2 ≡ 0 → pairs (front ++ back) ≡ then_bytes (pairs front) (pairs back)
joined_pairs [] back even = sym (nothing_before (pairs back))
joined_pairs (digit ∷ []) back even = absurd cc
joined_pairs (high ∷ low ∷ rest) back even =
    ap (pair_then (hex_digit_value high) (hex_digit_value low)) (joined_pairs rest back (omega (arith, even)))
    ∙ step (hex_digit_value high) (hex_digit_value low) (pairs rest) (pairs back)
  where
    step : (a b : Option ℕ) (r s : Option (List ℕ)) → pair_then a b (then_bytes r s) ≡ then_bytes (pair_then a b r) s
    step None b r s = refl
    step (Some h) None r s = refl
    step (Some h) (Some l) None s = refl
    step (Some h) (Some l) (Some xs) None = refl
    step (Some h) (Some l) (Some xs) (Some ys) = refl

-- ---- a line's digits, which come to those that are there

even_line : (line : List ℕ) → length line % 2 ≡ 0 → line_bytes line ≡ pairs line
even_line [] even = refl
even_line (c ∷ []) even = absurd cc
even_line (c ∷ d ∷ rest) even =
    let longer : (length (d ∷ rest) == 0) ≡ false = grind (arith, nat_tests) in
    tested (c == 45) (length (d ∷ rest) == 0) longer ∙ ap result_ok (decode_of-even (c ∷ d ∷ rest) even) ∙ decoded 0 (c ∷ d ∷ rest)
  where
    tested : (a b : Bool) → b ≡ false → (if a && b then Some [] else result_ok (decode_of (c ∷ d ∷ rest)))
        ≡ result_ok (decode_of (c ∷ d ∷ rest))
    tested true true e = absurd cc
    tested true false e = refl
    tested false b e = refl

pub line_added : (bytes digits line : List ℕ) → length digits % 2 ≡ 0 → length line % 2 ≡ 0
    → then_bytes (Some bytes) (line_bytes (digits ++ line)) ≡ then_bytes (then_bytes (Some bytes) (line_bytes digits)) (line_bytes line)
line_added bytes digits line even whole =
    let together : length (digits ++ line) % 2 ≡ 0 = omega (arith, length-append digits line, even, whole) in
    ap (then_bytes (Some bytes)) (even_line (digits ++ line) together ∙ joined_pairs digits line even
    ∙ ap₂ then_bytes (sym (even_line digits even)) (sym (even_line line whole)))
    ∙ sym (then_then (Some bytes) (line_bytes digits) (line_bytes line))

-- a line of an odd number of bytes has none, unless it is a dash
pub odd_line : (line : List ℕ) → length line % 2 ≡ 1 → (line ≡ 45 ∷ [] → ⊥) → line_bytes line ≡ None
odd_line [] odd other = absurd cc
odd_line (c ∷ rest) odd other = tested (c == 45 && length rest == 0) refl
  where
    odd_read : result_ok (decode_of (c ∷ rest)) ≡ None
    odd_read = grind (arith)

    dash : (rest : List ℕ) → (c == 45 && length rest == 0) ≡ true → c ∷ rest ≡ 45 ∷ []
    dash [] is = (let same : c ≡ 45 = grind (arith, nat_tests, is) in ap (λ n. n ∷ []) same)
    dash (d ∷ more) is = absurd (grind (arith, nat_tests, is))

    tested : (b : Bool) → (c == 45 && length rest == 0) ≡ b → (if b then Some [] else result_ok (decode_of (c ∷ rest))) ≡ None
    tested true is = absurd (other (dash rest is))
    tested false is = odd_read

-- ---- all lines

pub all_read : (n : ℕ) (lines : List (List ℕ)) (bytes : List ℕ) → all_bytes lines ≡ Some bytes → hex_lines_from n lines ≡ Ok bytes
all_read n [] bytes is = let same : [] ≡ bytes = cc in ap (λ (xs : List ℕ). Ok xs) same
all_read n (line ∷ lines) bytes is = step (line_bytes line) (all_bytes lines) is (all_read (n + 1) lines)
  where
    step : (o later : Option (List ℕ)) → then_bytes o later ≡ Some bytes
        → ((xs : List ℕ) → later ≡ Some xs → hex_lines_from (n + 1) lines ≡ Ok xs)
        → joined n o (hex_lines_from (n + 1) lines) ≡ Ok bytes
    step None later is behind = absurd cc
    step (Some xs) None is behind = absurd cc
    step (Some xs) (Some ys) is behind =
        let same : xs ++ ys ≡ bytes = cc in
        ap (joined n (Some xs)) (behind ys refl) ∙ ap (λ (zs : List ℕ). Ok zs) same
