-- The hex digits of each byte, from a table.
use Rattle.std.proofs.Common.{◌≡◌, ◌<◌, ◌+◌, ◌*◌, ◌/◌, ◌%◌, ◌∷◌, [], ℕ, zero, suc, List, Bool, true, ◌==◌, ◌&&◌, slice_index, ap, ◌∙◌}
use Rattle.std.proofs.Common.{arith, inl, inr}
use Rattle.std.proofs.lemmas.Bool.{and_parts, cases_lt, eqb-true}
use Rattle.hex.specs.Hex.{lower_digits}
use Rattle.console_text.specs.Words.{ArePairs}

-- the test of one byte's digits, which computes
abbrev is_pair : List ℕ → ℕ → Bool
is_pair table byte =
    (slice_index table (2 * byte) == slice_index lower_digits (byte / 16))
    && (slice_index table (2 * byte + 1) == slice_index lower_digits (byte % 16))

-- the test of the first n bytes
abbrev pub are_pairs : List ℕ → ℕ → Bool
are_pairs table zero = true
are_pairs table (suc n) = is_pair table n && are_pairs table n

-- a byte below n passed the test
are_pairs-at : (table : List ℕ) (n byte : ℕ) → are_pairs table n ≡ true → byte < n → is_pair table byte ≡ true
are_pairs-at table zero byte h lt = absurd (omega arith)
are_pairs-at table (suc n) byte h lt =
    let parts = and_parts (is_pair table n) (are_pairs table n) h in
    elim (cases_lt byte n) [
      | inl below ↦ are_pairs-at table n byte parts.1 below
      | inr top ↦
          let e : byte ≡ n = omega arith in
          rw e parts.0
    ]

-- a table that passes the test
pub pairs_at : (table : List ℕ) → are_pairs table 256 ≡ true → ArePairs table
pairs_at table h = record {
  at = λ byte lt.
      let parts = and_parts (slice_index table (2 * byte) == slice_index lower_digits (byte / 16))
      (slice_index table (2 * byte + 1) == slice_index lower_digits (byte % 16)) (are_pairs-at table 256 byte h lt) in
      ap (λ high. high ∷ slice_index table (2 * byte + 1) ∷ [])
      (eqb-true (slice_index table (2 * byte)) (slice_index lower_digits (byte / 16)) parts.0)
      ∙ ap (λ low. slice_index lower_digits (byte / 16) ∷ low ∷ [])
      (eqb-true (slice_index table (2 * byte + 1)) (slice_index lower_digits (byte % 16)) parts.1);
}
