-- Pairs of hex digits.
use Rattle.std.proofs.Common.{◌≡◌, ℕ, ◌+◌, ◌*◌, ◌<◌, List, length, take, drop, slice_index, slice_set, false, None, Some, Result, Ok, Err}
use Rattle.std.proofs.Common.{ap, refl, sym, ◌∙◌}
use Rattle.std.specs.List.{list_all}
use Rattle.std.specs.Result.{result_ok}
use Rattle.std.proofs.lemmas.List.Sums.{list_all-from_AllPass}
use Rattle.hex.specs.Hex.{decode_pairs, digit_or_error, hex_digit_value, is_hex_digit, pair_value, value_at, ◌>>=◌}
use Rattle.hex.specs.declared.error.FromHexError.{FromHexError}
use Rattle.hex.specs.declared.error.FromHexError.TheVariants.{InvalidHexCharacter}
use Rattle.hex.proofs.HexLemmas.{decode_pairs-ok}
use Rattle.hex.proofs.Pairs.{prepend, decode_err, decode_step}

-- a byte is read from two digits
pair_read : (high low i h l : ℕ) → hex_digit_value high ≡ Some h → hex_digit_value low ≡ Some l → pair_value high low i ≡ Ok (h * 16 + l)
pair_read high low i h l eh el =
    ap (λ v. digit_or_error high i v >>= (λ a. value_at low (i + 1) >>= (λ b. Ok (a * 16 + b)))) eh
    ∙ ap (λ v. digit_or_error low (i + 1) v >>= (λ b. Ok (h * 16 + b))) el

-- one more pair is read
pub pair_more : (digits out : List ℕ) (place high low : ℕ) → 2 * place + 1 < length digits → place < length out
    → hex_digit_value (slice_index digits (2 * place)) ≡ Some high → hex_digit_value (slice_index digits (2 * place + 1)) ≡ Some low
    → decode_pairs 0 digits ≡ prepend (take place out) (decode_pairs (2 * place) (drop (2 * place) digits))
    → decode_pairs 0 digits ≡ prepend (take (place + 1) (slice_set out place (high * 16 + low)))
    (decode_pairs (2 * (place + 1)) (drop (2 * (place + 1)) digits))
pair_more digits out place high low within room h l before =
    decode_step digits out place (high * 16 + low) within room
    (pair_read (slice_index digits (2 * place)) (slice_index digits (2 * place + 1)) (2 * place) high low h l) before

no_bytes : (digits : List ℕ) (read : Result (List ℕ) FromHexError) → decode_pairs 0 digits ≡ read → list_all is_hex_digit digits ≡ false
    → result_ok read ≡ None
no_bytes digits (Ok bytes) e bad = cc (sym bad ∙ list_all-from_AllPass is_hex_digit digits (decode_pairs-ok 0 digits bytes e).0)
no_bytes digits (Err e) same bad = refl

-- a byte among them is no digit
pub none_read : (digits : List ℕ) → list_all is_hex_digit digits ≡ false → result_ok (decode_pairs 0 digits) ≡ None
none_read digits bad = no_bytes digits (decode_pairs 0 digits) refl bad

-- the first byte of a pair is no digit, or the second one isn't
first_unread : (high low i : ℕ) → hex_digit_value high ≡ None → pair_value high low i ≡ Err (InvalidHexCharacter high i)
first_unread high low i none = ap (λ v. digit_or_error high i v >>= (λ a. value_at low (i + 1) >>= (λ b. Ok (a * 16 + b)))) none

second_unread : (high low i h : ℕ) → hex_digit_value high ≡ Some h → hex_digit_value low ≡ None
    → pair_value high low i ≡ Err (InvalidHexCharacter low (i + 1))
second_unread high low i h some none =
    ap (λ v. digit_or_error high i v >>= (λ a. value_at low (i + 1) >>= (λ b. Ok (a * 16 + b)))) some
    ∙ ap (λ v. digit_or_error low (i + 1) v >>= (λ b. Ok (h * 16 + b))) none

-- then none of the digits are read
pub stops_at_first : (digits out : List ℕ) (place : ℕ) → 2 * place + 1 < length digits
    → hex_digit_value (slice_index digits (2 * place)) ≡ None
    → decode_pairs 0 digits ≡ prepend (take place out) (decode_pairs (2 * place) (drop (2 * place) digits))
    → result_ok (decode_pairs 0 digits) ≡ None
stops_at_first digits out place within none before =
    ap result_ok (decode_err digits out place _ within (first_unread (slice_index digits (2 * place)) (slice_index digits (2 * place + 1))
    (2 * place) none) before)

pub stops_at_second : (digits out : List ℕ) (place high : ℕ) → 2 * place + 1 < length digits
    → hex_digit_value (slice_index digits (2 * place)) ≡ Some high
    → hex_digit_value (slice_index digits (2 * place + 1)) ≡ None
    → decode_pairs 0 digits ≡ prepend (take place out) (decode_pairs (2 * place) (drop (2 * place) digits))
    → result_ok (decode_pairs 0 digits) ≡ None
stops_at_second digits out place high within some none before =
    ap result_ok (decode_err digits out place _ within (second_unread (slice_index digits (2 * place)) (slice_index digits (2 * place + 1))
    (2 * place) high some none) before)
