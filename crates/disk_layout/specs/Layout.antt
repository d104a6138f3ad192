-- Where a store lies on a disk.
use Rattle.std.specs.Prelude.{ℕ, ◌+◌, ◌*◌}

-- how many sectors a store takes: two cells of four sectors, and two areas of slots of two sectors
abbrev pub sectors_for : ℕ → ℕ
sectors_for slots = 8 + 4 * slots
