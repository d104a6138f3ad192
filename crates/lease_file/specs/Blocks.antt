-- Blocks of 2^32 epochs.
use Rattle.std.specs.Prelude.{ℕ, ◌+◌, ◌*◌, ◌-◌, ◌^◌, min}

-- a count allows the epochs below that many blocks and one more; of them this is the greatest that has 64 bits
abbrev pub bound_of : ℕ → ℕ
bound_of count = min ((count + 1) * 2 ^ 32 - 1) (2 ^ 64 - 1)
