-- Sectors that are zeros behind their first bytes.
use Rattle.std.specs.Prelude.{ℕ, ◌≡◌, ◌-◌, Bool, true, List, [], length, drop, get_or, replicate, slice_get, Some}

-- all bytes behind the first 32 are zeros
abbrev pub IsShort : List ℕ → Type 0
IsShort sector = drop 32 sector ≡ replicate (length sector - 32) 0

-- so it is of each sector of which it is said
abbrev pub AreShort : List (List ℕ) → List Bool → Type 0
AreShort sectors short = (at : ℕ) → slice_get short at ≡ Some true → IsShort (get_or sectors at [])
