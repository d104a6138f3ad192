-- The body of a slot of a cell: the value in eight bytes, greatest first, and zeros.
use Rattle.std.specs.Prelude.{ℕ, List, ◌++◌, drop, replicate, Option, Some, None, if◌then◌else◌}
use Rattle.disk_layout.specs.Blank.{is_blank}
use Rattle.std.specs.Int.{from_be_bytes, to_be_bytes, w64}

-- the value that a body stands for, if it is a cell's: `from_be_bytes` reads the first eight bytes
unfoldable pub body_value : List ℕ → Option ℕ
body_value body = if is_blank (drop 8 body) then Some (from_be_bytes w64 body) else None

-- the body of a value
unfoldable pub body_of : ℕ → List ℕ
body_of value = to_be_bytes w64 value ++ replicate 504 0
