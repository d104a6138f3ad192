-- Where lists of bytes are cut, and lists whose elements were changed one after the other.
use Rattle.std.proofs.Common.{◌≡◌, ◌++◌, ◌-◌, ◌<◌, ◌∙◌, List, ℕ, map, take, drop, length, get_or, replicate, ap, append-nil, arith, inl}
use Rattle.std.proofs.Common.{inr}
use Rattle.std.specs.Prelude.{All, nat_lt, if◌then◌else◌}
use Rattle.std.proofs.lemmas.Bool.{cases_lt}
use Rattle.std.proofs.lemmas.List.Elements.{All-get_or}
use Rattle.std.proofs.lemmas.List.{length-append, get_or_past, drop-replicate}
use Rattle.std.proofs.lemmas.Grind.{common_steps}
use Rattle.std.proofs.Math.Seq.{take-append_seam, drop-append_seam}
use Rattle.sha2.specs.Sha256.{sha256}
use Rattle.sealed_msg.specs.Hmac.{block_of, filled}
use Rattle.sealed_msg.specs.Sealing.{front, back}

-- an element that is there is read whatever stands for one that isn't
pub any_default : (ys : List ℕ) (i : ℕ) → i < length ys → get_or ys i 0 ≡ get_or ys i (get_or ys i 0)
any_default ys i below = grind (arith, common_steps)

pub still_long : (f : ℕ → ℕ) (xs ys : List ℕ) (i : ℕ) → i < length xs → ys ≡ map f (take i xs) ++ drop i xs → i < length ys
still_long f xs ys i below e = grind (arith, common_steps)

-- of two lists in a row, the first is in front of as many as the second has
pub front_is : (a b : List ℕ) (n : ℕ) → length b ≡ n → front n (a ++ b) ≡ a
front_is a b n long =
    let size : length (a ++ b) - n ≡ length a = omega (arith, length-append a b) in
    rw size (take-append_seam a b)

pub back_is : (a b : List ℕ) (n : ℕ) → length b ≡ n → back n (a ++ b) ≡ b
back_is a b n long =
    let size : length (a ++ b) - n ≡ length a = omega (arith, length-append a b) in
    rw size (drop-append_seam a b)

pub reads_byte : (bytes : List ℕ) → All (λ b. b < 256) bytes → (i : ℕ) → get_or bytes i 0 < 256
reads_byte bytes fit i =
    elim (cases_lt i (length bytes)) [
      | inl lt ↦ All-get_or (λ b. b < 256) bytes i 0 lt fit
      | inr le ↦ rw (get_or_past bytes i 0 le) (omega arith)
    ]

-- the zeros that stand behind n of them
pub zeros_left : (n : ℕ) → drop {A = ℕ} n (replicate 64 0) ≡ replicate (64 - n) 0
zeros_left n = drop-replicate n 64 0

-- a block is the block of itself
pub block_again : (block : List ℕ) → length block ≡ 64 → block_of block ≡ block
block_again block long =
    ap (λ (n : ℕ). filled (if nat_lt 64 n then sha256 block else block)) long
    ∙ (ap (λ (n : ℕ). block ++ replicate (64 - n) 0) long ∙ append-nil block)
