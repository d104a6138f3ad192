use Rattle.std.proofs.Common.{◌≡◌, ◌*◌, length, take, drop}
use Rattle.hex.specs.Hex.{decode_pairs}
use Rattle.hex.proofs.Pairs.{prepend}
use Rattle.line_words.proofs.digits.decode_few.Given as goal

abbrev pub invariant-loop-place : goal.invariant-loop-place
invariant-loop-place l =
    (length l.digits ≡ 2 * length l.out)
    × (decode_pairs 0 l.digits ≡ prepend (take l.place l.out) (decode_pairs (2 * l.place) (drop (2 * l.place) l.digits)))
