-- Bytes that are all zero, as those of a sector that nothing names.
use Rattle.std.specs.Prelude.{ℕ, ◌==◌, Bool, not, count_by, List}

-- all of them are zero
abbrev pub is_blank : List ℕ → Bool
is_blank bytes = count_by (λ byte. not (byte == 0)) bytes == 0
