-- Hex digits that are letters, apart from all other bytes.
use Rattle.std.proofs.Common.{◌≡◌, ℕ, zero, suc, ◌+◌, ◌%◌, ◌<◌, ◌≤◌, Bool, true, false, ◌&&◌, cond, ltb, bit_or, refl, sym, ap, ◌∙◌, arith}
use Rattle.std.proofs.Common.{inl, inr}
use Rattle.std.proofs.lemmas.Bool.{and_parts, cases_lt, le-ltb}
use Rattle.hex.specs.Hex.{is_hex_digit}

abbrev same : Bool → Bool → Bool
same true b = b
same false b = cond b false true

same_is : (a b : Bool) → same a b ≡ true → a ≡ b
same_is true b e = sym e
same_is false true e = cc
same_is false false e = refl

-- the test of one byte, which computes: it is a decimal digit, or a letter where it is a hex digit
abbrev is_apart : ℕ → Bool
is_apart byte = cond (ltb ((byte + 208) % 256) 10) true (same (ltb ((bit_or byte 32 + 159) % 256) 6) (is_hex_digit byte))

-- the test of the first n bytes
abbrev are_apart : ℕ → Bool
are_apart zero = true
are_apart (suc n) = is_apart n && are_apart n

-- a byte below n passed the test
apart_at : (n byte : ℕ) → are_apart n ≡ true → byte < n → is_apart byte ≡ true
apart_at zero byte h lt = absurd (omega arith)
apart_at (suc n) byte h lt =
    let parts = and_parts (is_apart n) (are_apart n) h in
    elim (cases_lt byte n) [
      | inl below ↦ apart_at n byte parts.1 below
      | inr top ↦
          let e : byte ≡ n = omega arith in
          rw e parts.0
    ]

-- a byte that is no decimal digit
pub letter_or_none : (byte : ℕ) → byte < 256 → 10 ≤ (byte + 208) % 256 → ltb ((bit_or byte 32 + 159) % 256) 6 ≡ is_hex_digit byte
letter_or_none byte fits other =
    let letter = ltb ((bit_or byte 32 + 159) % 256) 6 in
    let digit = ap (λ (b : Bool). cond b true (same letter (is_hex_digit byte))) (le-ltb ((byte + 208) % 256) 10 other) in
    same_is letter (is_hex_digit byte) (sym digit ∙ apart_at 256 byte refl fits)
