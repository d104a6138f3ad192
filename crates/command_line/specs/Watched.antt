-- The counter of a file that is watched.
use Rattle.std.specs.Prelude.{ℕ, ◌+◌, ◌==◌, ◌&&◌, ◌||◌, Bool, false, Option, Some, None}

-- the numbers in the sealed slots of a cell are those of a counter of this value: one alone, or the one before it in the other slot, as a
-- raise leaves them
abbrev pub is_count : Option ℕ → Option ℕ → ℕ → Bool
is_count None None count = false
is_count None (Some b) count = b == count
is_count (Some a) None count = a == count
is_count (Some a) (Some b) count = a == count && b + 1 == count || b == count && a + 1 == count
